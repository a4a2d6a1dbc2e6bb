-- What a store over the files of a system shows.
use Rattle.std.specs.Prelude.{ℕ, List, Option, Some}
use Rattle.kc_outside.specs.declared.store.Slot.{Slot}
use Rattle.kc_outside.specs.declared.file_store.FileStore.{FileStore}
use Rattle.kc_outside.specs.Seen.{seen_name, seen_size, seen_file}
use Rattle.kc_outside.specs.Slots.{in_slot}

-- the system
abbrev pub system_of : {S F : Type 0} → FileStore S F → S
system_of store = store.system

-- the name that a slot holds
abbrev pub opened_in : {S F : Type 0} → FileStore S F → Slot → Option (List ℕ)
opened_in store slot = seen_name (in_slot store.held slot)

-- the size that was learnt of the file in a slot, in bytes
abbrev pub size_in : {S F : Type 0} → FileStore S F → Slot → Option ℕ
size_in store slot = seen_size (in_slot store.held slot)

-- the file that a slot holds
abbrev pub file_in : {S F : Type 0} → FileStore S F → Slot → Option F
file_in store slot = seen_file (in_slot store.held slot)

-- the bytes were read from an offset of a slot's file on, and the slot then holds what became of that file
abbrev pub IsReadOf : {F : Type 0} → (F → F → ℕ → List ℕ → Type 0) → Option F → Option F → ℕ → List ℕ → Type 0
IsReadOf reads (Some old) (Some new) offset bytes = reads old new offset bytes
IsReadOf reads old new offset bytes = ⊥
