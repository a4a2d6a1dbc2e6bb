-- What a walk finds broken, as plain data.
use Rattle.std.specs.Prelude.{◌≡◌, ℕ, Bool, true, false, not, IsTrue, List, [], ◌∷◌, ◌++◌, map, Option, Some, None, option_to_list}
use Rattle.kc_memory.specs.declared.rule.Rule.{Rule}
use Rattle.kc_memory.specs.declared.rule.Rule.TheVariants.{M1, M2, M3, M4, M5, M6}
use Rattle.kc_memory.specs.declared.words.VWord.{VWord}
use Rattle.kc_memory.specs.declared.words.Place.{Place}
use Rattle.kc_memory.specs.Bits.{Number}
use Rattle.kc_memory.specs.Stopped.{Stopped}
use Rattle.kc_memory.specs.Places.{place_of, entry_places}
use Rattle.kc_found.specs.declared.asked.Asked.{Asked}

pub record Violation : Type 0 where
  -- the number of the audit
  pub audit : ℕ
  -- the address at which the walk starts
  pub start : ℕ
  pub rule : Rule
  -- the address that the violation is about
  pub at : ℕ
  -- the number that the rule asks for: of most rules what should stand there, of R4 the bound, of R5 and U6 the count, of
  -- T7 the leader
  pub expected : Option ℕ
  -- of M1 to M6 where reading stopped
  pub stop : Option Stopped
  -- the words that show it
  pub places : List Place

-- a rule that stops the reading of an address
abbrev pub is_of_reading : Rule → Bool
is_of_reading M1 = true
is_of_reading M2 = true
is_of_reading M3 = true
is_of_reading M4 = true
is_of_reading M5 = true
is_of_reading M6 = true
is_of_reading _ = false

-- a stop is there exactly for M1 to M6; the rule is then the stop's, and so is the address
abbrev pub IsStopOf : Rule → ℕ → Option Stopped → Type 0
IsStopOf rule at None = IsTrue (not (is_of_reading rule))
IsStopOf rule at (Some s) = IsTrue (is_of_reading rule) × (s.rule ≡ rule) × (s.va ≡ at)

-- the violation of a rule that one word shows
abbrev pub breaks : Asked → Rule → VWord → Option ℕ → Violation
breaks asked rule w expected = record {
  audit = asked.audit;
  start = asked.start;
  rule = rule;
  at = w.va;
  expected = expected;
  stop = None;
  places = place_of w ∷ [];
}

-- the violation of a rule that a number of memory shows: of a field it is about the address of its first byte, of U4
-- about the slab and of U5 about the pointer
abbrev pub breaks_field : Asked → Rule → ℕ → Number → Option ℕ → Violation
breaks_field asked rule at number expected = record {
  audit = asked.audit;
  start = asked.start;
  rule = rule;
  at = at;
  expected = expected;
  stop = None;
  places = number.first ∷ option_to_list number.second;
}

-- the places of a number's one or two words, where there is a number
abbrev pub places_by : Option Number → List Place
places_by None = []
places_by (Some n) = n.first ∷ option_to_list n.second

-- the violation by a word that can't be read: it shows the words that led there, and the refused paging entry
abbrev pub missed_behind : Asked → List Place → Stopped → Violation
missed_behind asked led s = record {
  audit = asked.audit;
  start = asked.start;
  rule = s.rule;
  at = s.va;
  expected = None;
  stop = Some s;
  places = led ++ entry_places s.pa s.entry;
}

-- the same after one word, or after none
abbrev pub missed : Asked → Option VWord → Stopped → Violation
missed asked led s = missed_behind asked (map place_of (option_to_list led)) s
