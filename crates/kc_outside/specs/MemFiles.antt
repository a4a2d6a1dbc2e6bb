-- The files of a store in memory, and what its slots hold of them.
use Rattle.std.specs.Prelude.{ℕ, Bool, true, false, if◌then◌else◌, List, length, slice_get, nat_eq, Option, Some, None, string_bytes}
use Rattle.std.specs.Option.{option_map, option_and_then}
use Rattle.std.specs.List.{find, position_or_len}
use Rattle.std.specs.Str.{bytes_eq}
use Rattle.kc_outside.specs.declared.slots.Slots.{Slots}
use Rattle.kc_outside.specs.declared.mem_file.MemFile.{MemFile}
use Rattle.kc_outside.specs.declared.mem_file.Held.{Held}
use Rattle.kc_outside.specs.declared.mem_file.Held.TheVariants.{Nothing, Opened, Learnt}

-- a file's name
abbrev pub name_of : MemFile → List ℕ
name_of file = string_bytes file.name

-- a file's bytes
abbrev pub bytes_of : MemFile → List ℕ
bytes_of file = file.bytes.items

-- whether it is a file of this name
abbrev pub has_name : List ℕ → MemFile → Bool
has_name name file = bytes_eq (name_of file) name

-- the bytes of the first file of a name
abbrev pub named_bytes : List MemFile → List ℕ → Option (List ℕ)
named_bytes files name = option_map bytes_of (find (has_name name) files)

-- the place in the list that a slot holds
abbrev pub held_place : Held → Option ℕ
held_place Nothing = None
held_place (Opened at) = Some at
held_place (Learnt at) = Some at

-- the file that a slot holds
abbrev pub held_file : List MemFile → Held → Option MemFile
held_file files held = option_and_then (slice_get files) (held_place held)

-- the name that a slot holds
abbrev pub held_name : List MemFile → Held → Option (List ℕ)
held_name files held = option_map name_of (held_file files held)

-- the size that was learnt of the file in a slot
abbrev pub held_size : List MemFile → Held → Option ℕ
held_size files (Learnt at) = option_map (λ file. length (bytes_of file)) (slice_get files at)
held_size files held = None

-- whether a file stands at this place and is the first of its name
abbrev pub is_first : List MemFile → ℕ → Option MemFile → Bool
is_first files at None = false
is_first files at (Some file) = nat_eq (position_or_len (has_name (name_of file)) files) at

-- whether a slot holds nothing or the first file of a name
abbrev pub is_held : List MemFile → Held → Bool
is_held files Nothing = true
is_held files (Opened at) = is_first files at (slice_get files at)
is_held files (Learnt at) = is_first files at (slice_get files at)

-- whether a slot holds this name
abbrev pub is_name : Option (List ℕ) → List ℕ → Bool
is_name None name = false
is_name (Some held) name = bytes_eq held name

-- a slot that holds this place doesn't know the size any more
abbrev pub without_size : ℕ → Held → Held
without_size at (Learnt place) = if nat_eq place at then Opened place else Learnt place
without_size at held = held

-- the same for all slots
abbrev pub all_without_size : ℕ → Slots Held → Slots Held
all_without_size at slots = record {
  dump = without_size at slots.dump;
  btf = without_size at slots.btf;
  map = without_size at slots.map;
  plan = without_size at slots.plan;
  report = without_size at slots.report;
  extra = without_size at slots.extra;
}
