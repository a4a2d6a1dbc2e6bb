-- The types of a file: its records with their strings, or the first rule that it breaks.
use Rattle.std.specs.Prelude.{IsTrue, ℕ, List, length, map, Option, Result, Ok, Err, option_map, not}
use Rattle.std.specs.List.{find}
use Rattle.kc_btf.specs.declared.stop.BtfFault.{BtfFault}
use Rattle.kc_btf.specs.declared.stop.BRule.TheVariants.{B8}
use Rattle.kc_btf.specs.Answers.{unless}
use Rattle.kc_btf.specs.Header.{types_at, types_end, string_section, header_fault}
use Rattle.kc_btf.specs.Records.{Record, record_at, places, refers_inside}

-- the record of type 1, of type 2 and so on, and the strings in which their names lie
pub record Types : Type 0 where
  pub records : List Record
  pub strings : List ℕ

-- each name and each type that a record refers to is one of these
abbrev pub RefersInside : Types → Record → Type 0
RefersInside types r = IsTrue (refers_inside (length types.strings) (length types.records) r)

-- the first record at these places whose names and types don't lie inside, where the strings have this
-- length and so many types are counted
abbrev pub outside_fault : List ℕ → ℕ → ℕ → List ℕ → Option BtfFault
outside_fault bytes strings types places = option_map (λ place. record { rule = B8; at = place })
    (find (λ place. not (refers_inside strings types (record_at bytes place))) places)

-- the types whose records stand at these places, unless one refers to what isn't there
abbrev pub types_of : List ℕ → Result (List ℕ) BtfFault → Result Types BtfFault
types_of bytes (Err fault) = Err fault
types_of bytes (Ok places) = unless (outside_fault bytes (length (string_section bytes)) (length places) places)
    (Ok (record { records = map (record_at bytes) places; strings = string_section bytes }))

-- the types of a file, or its first fault: of the header, then of the records one by one, then of what they
-- refer to, one by one again
abbrev pub btf : List ℕ → Result Types BtfFault
btf bytes = unless (header_fault bytes) (types_of bytes (places (length bytes) bytes (types_at bytes) (types_end bytes)))
