-- What a store that never fails shows, and such a sink.
use Rattle.std.specs.Prelude.{ℕ, List, [], length, Option, Some, None}
use Rattle.kc_outside.specs.declared.store.Slot.{Slot}
use Rattle.kc_outside.specs.declared.store.Slot.TheVariants.{Dump, Btf, Map, Plan, Report, Module}
use Rattle.kc_outside.specs.declared.sure_files.Bytes.{Bytes}
use Rattle.kc_outside.specs.declared.sure_files.FourFiles.{FourFiles}
use Rattle.kc_outside.specs.declared.sure_files.SureSlot.{SureSlot}
use Rattle.kc_outside.specs.declared.sure_files.SureSlot.TheVariants.{Nothing, Opened, Learnt}
use Rattle.kc_outside.specs.declared.sure_store.SureStore.{SureStore}
use Rattle.kc_outside.specs.declared.sure_sink.SureSink.{SureSink}
use Rattle.kc_outside.specs.Files.{Files}
use Rattle.kc_outside.specs.Slots.{in_slot}

-- the bytes of a file in memory
abbrev pub bytes_of : Bytes → List ℕ
bytes_of bytes = bytes.held.items

-- the bytes of a slot's file
abbrev pub file_of : FourFiles → Slot → List ℕ
file_of files Dump = bytes_of files.dump
file_of files Btf = bytes_of files.btf
file_of files Map = bytes_of files.map
file_of files Plan = bytes_of files.plan
file_of files Report = []
file_of files Module = []

abbrev pub file_in : SureStore → Slot → List ℕ
file_in store = file_of store.files

-- in a slot every name stands for its file
abbrev pub files_in : SureStore → Option Files
files_in store = Some (λ slot name. Some (file_in store slot))

-- The name that a slot holds. All stand for the same bytes there, so one stands for all.
abbrev pub slot_name : SureSlot → Option (List ℕ)
slot_name Nothing = None
slot_name Opened = Some []
slot_name Learnt = Some []

abbrev pub opened_in : SureStore → Slot → Option (List ℕ)
opened_in store slot = slot_name (in_slot store.slots slot)

-- the size that was learnt of a slot's file, in bytes
abbrev pub slot_size : List ℕ → SureSlot → Option ℕ
slot_size file Learnt = Some (length file)
slot_size file held = None

abbrev pub size_in : SureStore → Slot → Option ℕ
size_in store slot = slot_size (file_in store slot) (in_slot store.slots slot)

-- how many calls there were
abbrev pub calls_of : SureStore → ℕ
calls_of store = store.asked

-- and how many of a sink
abbrev pub puts_of : SureSink → ℕ
puts_of sink = sink.asked
