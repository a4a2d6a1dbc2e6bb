-- Reports as plain data, and what one keeps.
use Rattle.std.specs.Prelude.{ℕ, ◌<◌, ◌^◌, Bool, true, false, ◌&&◌, nat_le, IsTrue, List, All, Option, Some, None}
use Rattle.kc_memory.specs.declared.rule.Rule.{Rule}
use Rattle.kc_memory.specs.declared.rule.Rule.TheVariants.{M3, M4, M5, M6}
use Rattle.kc_memory.specs.declared.words.Origin.{Origin}
use Rattle.kc_memory.specs.declared.words.Origin.TheVariants.{File, Tail}
use Rattle.kc_memory.specs.declared.words.Place.{Place}
use Rattle.kc_text.specs.Readers.{is_name}

-- an audit of a clean report
pub record AuditLine : Type 0 where
  pub name : List ℕ
  -- how many walks were made, and how many elements they met
  pub walks : ℕ
  pub elements : ℕ

-- a report of a violation
pub record BrokenLines : Type 0 where
  -- the audit's name
  pub audit : List ℕ
  -- the address at which the walk starts
  pub start : ℕ
  pub rule : Rule
  -- the address that the violation is about
  pub at : ℕ
  -- what should stand there
  pub expected : Option ℕ
  -- of M3 to M6 the level of the page table's entry, and the physical address of the word
  pub stop : Option (ℕ × ℕ)
  -- the words that show it
  pub places : List Place

-- The lowest and the highest level that the stop of a rule may have: an entry of a page table has one from 1 to 5, and
-- the word itself 0. The other rules tell no stop.
abbrev pub stop_levels : Rule → Option (ℕ × ℕ)
stop_levels M3 = Some (1, 5)
stop_levels M4 = Some (1, 5)
stop_levels M5 = Some (1, 5)
stop_levels M6 = Some (0, 0)
stop_levels rule = None

-- a stop is there exactly where there are levels, and its level is one of them
abbrev pub is_stop_at : Option (ℕ × ℕ) → Option (ℕ × ℕ) → Bool
is_stop_at None None = true
is_stop_at None (Some stop) = false
is_stop_at (Some levels) None = false
is_stop_at (Some levels) (Some stop) = nat_le levels.0 stop.0 && nat_le stop.0 levels.1

-- numbers that are there are below 2^64
abbrev pub IsNumber : Option ℕ → Type 0
IsNumber None = Unit {0}
IsNumber (Some n) = n < 2 ^ 64

abbrev pub IsStopNumber : Option (ℕ × ℕ) → Type 0
IsStopNumber None = Unit {0}
IsStopNumber (Some stop) = stop.1 < 2 ^ 64

abbrev pub IsOrigin : Origin → Type 0
IsOrigin (File off) = off < 2 ^ 64
IsOrigin Tail = Unit {0}

pub record IsLine (line : AuditLine) : Type 0 where
  pub name : IsTrue (is_name line.name)
  pub walks : line.walks < 2 ^ 64
  pub elements : line.elements < 2 ^ 64

pub record IsShown (place : Place) : Type 0 where
  pub va : IsNumber place.va
  pub pa : place.pa < 2 ^ 64
  pub off : IsOrigin place.off
  pub value : place.value < 2 ^ 64

pub record IsBroken (broken : BrokenLines) : Type 0 where
  pub audit : IsTrue (is_name broken.audit)
  pub start : broken.start < 2 ^ 64
  pub at : broken.at < 2 ^ 64
  pub expected : IsNumber broken.expected
  pub stop : IsTrue (is_stop_at (stop_levels broken.rule) broken.stop)
  pub stop_number : IsStopNumber broken.stop
  pub places : All IsShown broken.places
