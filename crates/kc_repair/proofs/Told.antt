-- What holds of all suspects holds of those that an answer tells.
use Rattle.std.proofs.Common.{◌≡◌, ℕ, zero, suc, Bool, true, false, List, [], ◌∷◌, take, find, Option, Some, None, refl}
use Rattle.std.specs.Prelude.{IfSome}
use Rattle.std.specs.List.{AllByRecursion}
use Rattle.kc_found.specs.declared.verdict.Verdict.{Verdict}
use Rattle.kc_found.specs.declared.verdict.Verdict.TheVariants.{Clean, Broken}
use Rattle.kc_found.specs.Violations.{Violation}
use Rattle.kc_repair.specs.declared.suspect.suspect.Suspect.{Suspect}
use Rattle.kc_repair.specs.declared.outcome.Breach.{Breach}
use Rattle.kc_repair.specs.declared.outcome.Next.{Next}
use Rattle.kc_repair.specs.Laws.{next_suspects, told_suspects}
use Rattle.kc_repair.specs.Repairs.{first_next, is_same, most, next_by, next_of, or_later, repair, repair_by, repairs}

all_taken : (P : Suspect → Type 0) (n : ℕ) (xs : List Suspect) → AllByRecursion P xs → AllByRecursion P (take n xs)
all_taken P zero xs all = tt
all_taken P (suc n) [] all = tt
all_taken P (suc n) (x ∷ xs) all = (all.0, all_taken P n xs all.1)

-- of the one that is found
found_by : (P : Suspect → Type 0) (f : Suspect → Bool) (x : Suspect) (xs : List Suspect) (b : Bool) → f x ≡ b → P x → IfSome (find f xs) P → IfSome (find f (x ∷ xs)) P
found_by P f x xs true is here later = rw is here
found_by P f x xs false is here later = rw is later

all_found : (P : Suspect → Type 0) (f : Suspect → Bool) (xs : List Suspect) → AllByRecursion P xs → IfSome (find f xs) P
all_found P f [] all = tt
all_found P f (x ∷ xs) all = found_by P f x xs (f x) refl all.0 (all_found P f xs all.1)

-- of the first one that leads elsewhere
next_same : (P : Suspect → Type 0) (same : Bool) (s : Suspect) (v : Violation) → P s → AllByRecursion P (next_suspects (next_by same s v))
next_same P true s v here = tt
next_same P false s v here = (here, tt)

next_all : (P : Suspect → Type 0) (found : Breach) (s : Suspect) (v : Verdict) → P s → AllByRecursion P (next_suspects (next_of found s v))
next_all P found s (Clean counts) here = tt
next_all P found s (Broken v) here = next_same P (is_same found v) s v here

later_all : (P : Suspect → Type 0) (first later : Option Next) → AllByRecursion P (next_suspects first) → AllByRecursion P (next_suspects later) → AllByRecursion P (next_suspects (or_later first later))
later_all P None later here all = all
later_all P (Some next) later here all = here

first_all : (P : Suspect → Type 0) (judge : Suspect → Verdict) (found : Breach) (xs : List Suspect) → AllByRecursion P xs → AllByRecursion P (next_suspects (first_next judge found xs))
first_all P judge found [] all = tt
first_all P judge found (x ∷ xs) all =
    later_all P (next_of found x (judge x)) (first_next judge found xs) (next_all P found x (judge x) all.0) (first_all P judge found xs all.1)

told_by : (P : Suspect → Type 0) (lead : Suspect → Verdict) (found : Breach) (xs : List Suspect) (first : Option Suspect) → IfSome first P → AllByRecursion P xs
    → AllByRecursion P (told_suspects (repair_by lead found xs first))
told_by P lead found xs (Some s) here all = (here, tt)
told_by P lead found xs None here all = first_all P lead found (take most xs) (all_taken P most xs all)

pub all_told : (P : Suspect → Type 0) (judge lead : Suspect → Verdict) (found : Breach) (xs : List Suspect) → AllByRecursion P xs → AllByRecursion P (told_suspects (repair judge lead found xs))
all_told P judge lead found xs all = told_by P lead found xs (find (repairs judge) (take most xs)) (all_found P (repairs judge) (take most xs) (all_taken P most xs all)) all
