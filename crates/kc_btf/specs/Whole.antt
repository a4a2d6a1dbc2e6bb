-- All of a file's types, and nothing else.
use Rattle.std.specs.Prelude.{◌≡◌, ℕ, List, All, Ok}
use Rattle.std.specs.List.{flat_map}
use Rattle.kc_btf.specs.Btf.{Types, btf, RefersInside}
use Rattle.kc_btf.specs.Header.{type_section}
use Rattle.kc_btf.specs.Spelling.{spelled, HasForm}

-- types are those of a file: its records, written out again, are all the bytes of its section of types, each
-- has the form of a record, and each name and type that one refers to is there
pub record AreOf (file : List ℕ) (types : Types) : Type 0 where
  pub read : btf file ≡ Ok types
  pub spelled : flat_map spelled types.records ≡ type_section file
  pub form : All HasForm types.records
  pub inside : All (RefersInside types) types.records

abbrev pub AreOfAFile : Types → Type 0
AreOfAFile types = (file : List ℕ) × AreOf file types
