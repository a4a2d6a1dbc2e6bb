-- What a store in memory shows.
use Rattle.std.specs.Prelude.{ℕ, ◌+◌, Bool, List, nat_eq, Option, Some}
use Rattle.std.specs.List.{list_any}
use Rattle.kc_outside.specs.declared.store.Slot.{Slot}
use Rattle.kc_outside.specs.declared.mem_store.MemStore.{MemStore}
use Rattle.kc_outside.specs.Files.{Files}
use Rattle.kc_outside.specs.Slots.{in_slot}
use Rattle.kc_outside.specs.MemFiles.{named_bytes, held_name, held_size}

-- the bytes that a name stands for, in every slot
abbrev pub bytes_in : MemStore → List ℕ → Option (List ℕ)
bytes_in store = named_bytes store.files.items

-- the same for each slot
abbrev pub files_in : MemStore → Option Files
files_in store = Some (λ slot. bytes_in store)

-- the name that a slot holds
abbrev pub opened_in : MemStore → Slot → Option (List ℕ)
opened_in store slot = held_name store.files.items (in_slot store.slots slot)

-- the size that was learnt of the file in a slot
abbrev pub size_in : MemStore → Slot → Option ℕ
size_in store slot = held_size store.files.items (in_slot store.slots slot)

-- the numbers of the calls that are to fail
abbrev pub failing_in : MemStore → List ℕ
failing_in store = store.failing.items

-- how often a call failed
abbrev pub faults_of : MemStore → ℕ
faults_of store = store.counts.faults

-- how many calls there were
abbrev pub calls_of : MemStore → ℕ
calls_of store = store.counts.asked

-- whether the next call is to fail
abbrev pub next_fails : MemStore → Bool
next_fails store = list_any (λ call. nat_eq call (calls_of store + 1)) (failing_in store)
