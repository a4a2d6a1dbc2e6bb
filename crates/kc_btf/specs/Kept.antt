-- How the code keeps the types of a file: the file itself, where its sections lie, and where each record
-- lies, counted from the first byte of the types.
use Rattle.std.specs.Prelude.{ℕ, ◌+◌, ◌<◌, ◌^◌, List, length, map, All, IsTrue, slice_range}
use Rattle.kc_btf.specs.declared.header.Header.{Header}
use Rattle.kc_btf.specs.Header.{IsHeader, IsInside}
use Rattle.kc_btf.specs.Records.{record_at, refers_inside, IsRecord}
use Rattle.kc_btf.specs.Btf.{Types}
use Rattle.kc_btf.specs.Whole.{AreOf}

-- the types that are kept so
abbrev pub kept : List ℕ → Header → List ℕ → Types
kept bytes header table = record {
  records = map (λ place. record_at bytes (header.types + place)) table;
  strings = slice_range bytes header.strings header.strings_end;
}

-- what is kept is sound: the records are all of the file's, and each stands where the table says
pub record IsKept (bytes : List ℕ) (header : Header) (table : List ℕ) : Type 0 where
  pub read : IsHeader bytes header
  pub sections : IsInside bytes header
  pub few : length table < 2 ^ 32
  pub found : All (λ place. IsRecord bytes (header.types + place)) table
  pub refer : All (λ place. IsTrue (refers_inside (length (slice_range bytes header.strings header.strings_end)) (length table) (record_at bytes (header.types + place)))) table
  pub whole : AreOf bytes (kept bytes header table)
