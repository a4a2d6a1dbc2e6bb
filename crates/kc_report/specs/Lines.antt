-- The lines that answers and reports share.
use Rattle.std.specs.Prelude.{ℕ, ◌+◌, Bool, true, false, if◌then◌else◌, List, [], ◌∷◌, ◌++◌, codes, Option, Some, None}
use Rattle.kc_memory.specs.declared.rule.Rule.{Rule}
use Rattle.kc_memory.specs.declared.rule.Rule.TheVariants.{M3, M4, M5, M6}
use Rattle.kc_memory.specs.declared.words.Origin.{Origin}
use Rattle.kc_memory.specs.declared.words.Origin.TheVariants.{File, Tail}
use Rattle.kc_memory.specs.declared.words.Place.{Place}
use Rattle.kc_memory.specs.Stopped.{Stopped}
use Rattle.kc_memory.specs.Places.{entry_places}
use Rattle.kc_rules.specs.Rules.{row_of}
use Rattle.kc_text.specs.Text.{hex}

-- the code of a rule
abbrev pub rule_code : Rule → List ℕ
rule_code rule = (row_of rule).code

-- the rule, and the address that it is about
abbrev pub rule_at : Rule → ℕ → List ℕ
rule_at rule va = codes "rule " ++ rule_code rule ++ codes "\nat " ++ hex va ++ codes "\n"

-- the rule, and the address that was asked
abbrev pub rule_lines : Rule → ℕ → List ℕ
rule_lines rule va = codes "broken\n" ++ rule_at rule va

-- whether a physical word stopped the reading
abbrev pub tells_stop : Rule → Bool
tells_stop M3 = true
tells_stop M4 = true
tells_stop M5 = true
tells_stop M6 = true
tells_stop rule = false

-- the level in one digit, and the physical address of that word
abbrev pub stop_text : ℕ → ℕ → List ℕ
stop_text level pa = codes "stop " ++ (48 + level) ∷ [] ++ codes " " ++ hex pa ++ codes "\n"

abbrev pub stop_line : Rule → ℕ → ℕ → List ℕ
stop_line rule level pa = if tells_stop rule then stop_text level pa else []

-- a word that shows something: its virtual address, or `-` for a paging entry, its physical address, its file
-- offset, or `tail` where it stands in a segment's tail, and its value
abbrev pub address_text : Option ℕ → List ℕ
address_text None = codes "-"
address_text (Some va) = hex va

abbrev pub origin_text : Origin → List ℕ
origin_text (File off) = hex off
origin_text Tail = codes "tail"

abbrev pub place_line : Place → List ℕ
place_line p = codes "place " ++ address_text p.va ++ codes " " ++ hex p.pa ++ codes " " ++ origin_text p.off ++ codes " " ++ hex p.value ++ codes "\n"

abbrev pub place_lines : List Place → List ℕ
place_lines [] = []
place_lines (p ∷ ps) = place_line p ++ place_lines ps

-- the text of a stop
abbrev pub broken_text : Stopped → List ℕ
broken_text s = rule_lines s.rule s.va ++ stop_line s.rule s.level s.pa ++ place_lines (entry_places s.pa s.entry)
