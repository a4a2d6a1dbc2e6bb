-- What always holds of the files of a store that never fails.
use Rattle.std.specs.Prelude.{◌≡◌, ℕ, ◌<◌, ◌^◌, List, length, Some, IsSome}
use Rattle.std.proofs.Common.{arith, refl}
use Rattle.kc_outside.specs.declared.store.Slot.{Slot}
use Rattle.kc_outside.specs.declared.store.Slot.TheVariants.{Dump, Btf, Map, Plan, Report, Module}
use Rattle.kc_outside.specs.declared.sure_files.Bytes.{Bytes}
use Rattle.kc_outside.specs.declared.sure_files.FourFiles.{FourFiles}
use Rattle.kc_outside.specs.declared.sure_files.SureSlot.{SureSlot}
use Rattle.kc_outside.specs.declared.sure_files.SureSlot.TheVariants.{Nothing, Opened, Learnt}
use Rattle.kc_outside.specs.declared.sure_store.SureStore.{SureStore}
use Rattle.kc_outside.specs.Files.{HasLength, content}
use Rattle.kc_outside.specs.Slots.{in_slot}
use Rattle.kc_outside.specs.SureStore.{bytes_of, file_in, file_of, files_in, opened_in, size_in, slot_name, slot_size}

-- a slot whose size is learnt holds its file
named_slot : (file : List ℕ) (held : SureSlot) → IsSome (slot_size file held) → IsSome (slot_name held)
named_slot file Nothing known = let none : ⊥ = Prim.cc in absurd none
named_slot file Opened known = let none : ⊥ = Prim.cc in absurd none
named_slot file Learnt known = refl

pub size_has_name : (store : SureStore) (slot : Slot) → IsSome (size_in store slot) → IsSome (opened_in store slot)
size_has_name store slot known = named_slot (file_in store slot) (in_slot store.slots slot) known

-- a size fits 64 bits
small_bytes : (bytes : Bytes) → length (bytes_of bytes) < 2 ^ 64
small_bytes bytes =
    let len = bytes.held.ok.0 in
    let cap = bytes.held.ok.1 in
    let small = bytes.held.small in
    Prim.omega arith

small_file : (files : FourFiles) (slot : Slot) → length (file_of files slot) < 2 ^ 64
small_file files Dump = small_bytes files.dump
small_file files Btf = small_bytes files.btf
small_file files Map = small_bytes files.map
small_file files Plan = small_bytes files.plan
small_file files Report = Prim.omega arith
small_file files Module = Prim.omega arith

small_size : (file : List ℕ) (held : SureSlot) (n : ℕ) → length file < 2 ^ 64 → slot_size file held ≡ Some n → n < 2 ^ 64
small_size file Nothing n small known = let none : ⊥ = Prim.cc in absurd none
small_size file Opened n small known = let none : ⊥ = Prim.cc in absurd none
small_size file Learnt n small known = let same : length file ≡ n = Prim.cc in Prim.omega arith

pub size_is_small : (store : SureStore) (slot : Slot) (n : ℕ) → size_in store slot ≡ Some n → n < 2 ^ 64
size_is_small store slot n known = small_size (file_in store slot) (in_slot store.slots slot) n (small_file store.files slot) known

-- a learnt size is the length of the slot's file
whole_size : (file : List ℕ) (held : SureSlot) (n : ℕ) → slot_size file held ≡ Some n → HasLength (content (Some (λ slot name. Some file)) Dump (slot_name held)) n
whole_size file Nothing n known = tt
whole_size file Opened n known = let none : ⊥ = Prim.cc in absurd none
whole_size file Learnt n known = Prim.cc

pub size_is_length : (store : SureStore) (slot : Slot) (n : ℕ) → size_in store slot ≡ Some n → HasLength (content (files_in store) slot (opened_in store slot)) n
size_is_length store slot n known = whole_size (file_in store slot) (in_slot store.slots slot) n known
