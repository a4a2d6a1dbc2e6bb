-- What a command sees of files through a view.
use Rattle.std.specs.Prelude.{ℕ, Bool, List, Option, Some, None, option_and_then, option_map, Result, Ok, Err, if◌then◌else◌, nat_eq, true, false}
use Rattle.std.specs.Result.{result_ok}
use Rattle.kc_outside.specs.declared.store.Slot.{Slot}
use Rattle.kc_outside.specs.Files.{Files, slot_number}
use Rattle.kc_kdump.specs.Header.{is_kdump}
use Rattle.kc_plain.specs.Unpack.Plain.{plain}
use Rattle.kc_plain_store.specs.declared.shape.PlainShape.{PlainShape}
use Rattle.kc_plain_store.specs.Shapes.{shape_size}

-- a file's bytes: of a compressed dump its plain core file, where it isn't refused; of another file the bytes themselves
unfoldable pub seen_bytes : List ℕ → Option (List ℕ)
seen_bytes bytes = if is_kdump bytes then result_ok (plain bytes) else Some bytes

-- whether a slot is the dump's
abbrev pub is_dump : Slot → Bool
is_dump slot = nat_eq (slot_number slot) 0

-- what a slot shows of bytes
abbrev pub seen_by : Bool → Option (List ℕ) → Option (List ℕ)
seen_by true bytes = option_and_then seen_bytes bytes
seen_by false bytes = bytes

-- what each name stands for in each slot, where files are told
abbrev pub seen_files : Option Files → Option Files
seen_files None = None
seen_files (Some files) = Some (λ slot name. seen_by (is_dump slot) (files slot name))

-- the name that a slot holds: the dump's holds one only where its file is shown
abbrev pub opened_by : Bool → Option PlainShape → Option (List ℕ) → Option (List ℕ)
opened_by true (Some shape) name = name
opened_by true None name = None
opened_by false shape name = name

abbrev pub seen_opened : Option PlainShape → (Slot → Option (List ℕ)) → Slot → Option (List ℕ)
seen_opened shape opened slot = opened_by (is_dump slot) shape (opened slot)

-- the size of the dump's file, where it was learnt
abbrev pub learnt_size : Bool → Option PlainShape → Option ℕ
learnt_size true shape = option_map shape_size shape
learnt_size false shape = None

-- the size that was learnt of the file in a slot, in bytes
abbrev pub sizes_by : Bool → Option ℕ → Option ℕ → Option ℕ
sizes_by true learnt size = learnt
sizes_by false learnt size = size

abbrev pub seen_sizes : Option ℕ → (Slot → Option ℕ) → Slot → Option ℕ
seen_sizes learnt sizes slot = sizes_by (is_dump slot) learnt (sizes slot)
