-- What the section `.BTF` of a module has: records that go on from the types of its kernel. The first of them
-- has the type number behind the last of the kernel's, and its names lie behind the kernel's strings.
use Rattle.std.specs.Prelude.{◌≡◌, IsTrue, ℕ, ◌+◌, ◌-◌, Bool, List, length, map, All, Result, Ok, Err, ◌==◌, ◌||◌, slice_index}
use Rattle.std.specs.List.{flat_map}
use Rattle.kc_btf.specs.declared.stop.BtfFault.{BtfFault}
use Rattle.kc_btf.specs.declared.stop.BtfStop.{BtfStop}
use Rattle.kc_word.specs.Answers.{Tells}
use Rattle.kc_btf.specs.Answers.{told, unless, first_of}
use Rattle.kc_btf.specs.Btf.{Types, outside_fault}
use Rattle.kc_btf.specs.Header.{types_at, types_end, type_section, string_section, sections_fault, strings_fault}
use Rattle.kc_btf.specs.Records.{Record, record_at, places, refers_inside}
use Rattle.kc_btf.specs.Spelling.{spelled, HasForm}

-- whether strings are empty or end with a NUL
abbrev pub are_more_strings : List ℕ → Bool
are_more_strings s = (length s == 0) || (slice_index s (length s - 1) == 0)

-- how far the names and the types of a module's records reach: to the end of both strings, and of both records
abbrev pub string_limit : Types → List ℕ → ℕ
string_limit base bytes = length base.strings + length (string_section bytes)

abbrev pub type_limit : Types → ℕ → ℕ
type_limit base count = length base.records + count

-- the records at these places, unless one refers to what isn't there
abbrev pub records_of : Types → List ℕ → Result (List ℕ) BtfFault → Result (List Record) BtfFault
records_of base bytes (Err fault) = Err fault
records_of base bytes (Ok places) = unless (outside_fault bytes (string_limit base bytes) (type_limit base (length places)) places) (Ok (map (record_at bytes) places))

-- the records of a module, or the first fault of its file: of the header, then of the records one by one, then
-- of what they refer to, one by one again
abbrev pub split : Types → List ℕ → Result (List Record) BtfFault
split base bytes = unless (first_of (sections_fault bytes) (strings_fault are_more_strings bytes))
    (records_of base bytes (places (length bytes) bytes (types_at bytes) (types_end bytes)))

-- what is known of a module's records: written out again they are its section of types, each has the form of a
-- record, and each name and type that one refers to is there
pub record AreSplit (base : Types) (bytes : List ℕ) (records : List Record) : Type 0 where
  pub read : split base bytes ≡ Ok records
  pub spelled : flat_map spelled records ≡ type_section bytes
  pub form : All HasForm records
  pub inside : All (λ r. IsTrue (refers_inside (string_limit base bytes) (type_limit base (length records)) r)) records

abbrev pub IsSplit : Types → List ℕ → Type 0
IsSplit base bytes = (records : List Record) × AreSplit base bytes records

-- what the reading of a module's file answers: that it has records, or why not
abbrev pub ReadsAs : {X : Type 0} → Types → List ℕ → Result X BtfStop → Type 0
ReadsAs base bytes (Ok x) = IsSplit base bytes
ReadsAs base bytes (Err stop) = Tells (told stop) (split base bytes)
