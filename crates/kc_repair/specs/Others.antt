-- Whether another of the words that are suspected would do as well: after the first that repairs, the next ones are tried until a second one does.
use Rattle.std.specs.Prelude.{ℕ, suc, ◌+◌, ◌==◌, ◌&&◌, Bool, if◌then◌else◌, List, [], ◌∷◌, drop, find, is_some, length, take, Option, Some, None}
use Rattle.kc_memory.specs.Image.{Image}
use Rattle.kc_found.specs.Violations.{Violation}
use Rattle.kc_kinds.specs.declared.kind.Kind.{Kind}
use Rattle.kc_plan.specs.Planned.{AuditAt}
use Rattle.kc_plan.specs.Roots.{Root}
use Rattle.kc_repair.specs.declared.suspect.suspect.Suspect.{Suspect}
use Rattle.kc_repair.specs.declared.others.Stand.{Stand}
use Rattle.kc_repair.specs.Suspect.Suspects.{suspects}
use Rattle.kc_repair.specs.Repairs.{judged_with, repairs, walk_of}

-- how many more are tried at most
abbrev pub most_more : ℕ
most_more = 64

-- how many suspects come up to the first that passes, with it; where none does, all of them
abbrev pub up_to : (Suspect → Bool) → List Suspect → ℕ
up_to passes [] = 0
up_to passes (s ∷ later) = if passes s then 1 else suc (up_to passes later)

-- those that are tried after so many
abbrev pub next_ones : ℕ → List Suspect → List Suspect
next_ones tried suspected = take most_more (drop tried suspected)

-- whether a second one passes, and how many are tried in all: up to the second, and else all that are tried
abbrev pub stand_after : (Suspect → Bool) → ℕ → List Suspect → Stand
stand_after passes tried others = record { also = is_some (find passes others); tried = tried + up_to passes others }

abbrev pub stand_by : (Suspect → Bool) → List Suspect → Stand
stand_by passes suspected = stand_after passes (up_to passes suspected) (next_ones (up_to passes suspected) suspected)

-- of the words that a violation suspects, each judged as the first is: the walk that broke, and then the root audit
abbrev pub stand_of : Image → List AuditAt → Root → Kind → Violation → Stand
stand_of image audits root kind v = stand_by (repairs (judged_with image audits root (walk_of image audits kind v) None)) (suspects image kind v)

-- ---- as the code finds them

-- a suspect that stands for the same change of the file as another
abbrev pub is_change : Suspect → Suspect → Bool
is_change first s = (s.off == first.off) && (s.value == first.value)

-- how many come up to one that was found among them
abbrev pub up_to_found : Option Suspect → List Suspect → ℕ
up_to_found None suspected = length suspected
up_to_found (Some s) suspected = up_to (is_change s) suspected
