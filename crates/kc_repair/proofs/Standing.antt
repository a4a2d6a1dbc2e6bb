-- What an answer on suspects says of the structures.
use Rattle.std.proofs.Common.{◌≡◌, Bool, true, false, cond, is_none, List, [], ◌∷◌, take, find, Option, Some, None, Result, Ok, Err, refl, ap, ◌∙◌, subst}
use Rattle.std.specs.Prelude.{ℕ, IfOk, IfSome, if◌then◌else◌}
use Rattle.std.specs.List.{All}
use Rattle.std.proofs.lemmas.List.Elements.{All-cons, All-nil}
use Rattle.kc_memory.specs.Image.{Image}
use Rattle.kc_found.specs.declared.failed.ReadFailed.{ReadFailed}
use Rattle.kc_found.specs.declared.verdict.Verdict.{Verdict}
use Rattle.kc_found.specs.declared.verdict.Verdict.TheVariants.{Clean, Broken}
use Rattle.kc_found.specs.Violations.{Violation}
use Rattle.kc_kinds.specs.Structures.{nodes_of}
use Rattle.kc_plan.specs.Planned.{AuditAt}
use Rattle.kc_plan.specs.Roots.{Root, broken_in, root_verdict}
use Rattle.kc_plan.specs.Stands.{RootStands}
use Rattle.kc_plan.specs.Verdicts.{IsClean}
use Rattle.kc_run.specs.Laws.{CleanRootsStand}
use Rattle.kc_repair.specs.declared.suspect.suspect.Suspect.{Suspect}
use Rattle.kc_repair.specs.declared.first.FirstWalk.{FirstWalk}
use Rattle.kc_repair.specs.declared.first.Breaking.{Breaking}
use Rattle.kc_repair.specs.declared.outcome.Breach.{Breach}
use Rattle.kc_repair.specs.declared.outcome.Next.{Next}
use Rattle.kc_repair.specs.declared.outcome.Repair.{Repair}
use Rattle.kc_repair.specs.declared.outcome.Repair.TheVariants.{Stands, Nothing}
use Rattle.kc_repair.specs.Laws.{ComesThen}
use Rattle.kc_repair.specs.Repairs.{IsRepairBy, StandsAs, WalkBreaks, counted, first_found, first_next, is_same, judged_with, most, next_by, next_of, or_later, or_root, repair, repair_by, repair_with, repairs, verdict_with, with_suspect, wrong_in}

-- ---- what comes first

wrong_breaks : (r : Result (List ℕ) Violation) (v : Violation) → wrong_in r ≡ Some v → (w : Violation) × (r ≡ Err w)
wrong_breaks (Ok nodes) v is = let never : ⊥ = cc in absurd never
wrong_breaks (Err w) v is = (w, refl)

first_breaks : (image : Image) (walk : Option FirstWalk) (v : Violation) → first_found image walk ≡ Some v → WalkBreaks image walk
first_breaks image None v is = let never : ⊥ = cc in absurd never
first_breaks image (Some w) v is = wrong_breaks (nodes_of image w.kind w.asked.audit w.asked.start) v is

-- ---- the law

is_clean : (v : Verdict) → is_none (broken_in v) ≡ true → IsClean v
is_clean (Clean counts) e = tt
is_clean (Broken v) e = let none : ⊥ = cc in absurd none

not_clean : (v : Verdict) → is_none (broken_in v) ≡ false → IsClean v → ⊥
not_clean (Clean counts) e clean = let none : ⊥ = cc in none
not_clean (Broken v) e clean = clean

-- where nothing is found first, the root audit judges
pub root_stands : (found : Option Violation) (root : Verdict) → is_none (broken_in (or_root found root)) ≡ true → IsClean root
root_stands None root e = is_clean root e
root_stands (Some v) root e = let never : ⊥ = cc in absurd never

pub breaks_first : (image : Image) (walk : Option FirstWalk) (found : Option Violation) (root : Verdict) → first_found image walk ≡ found → is_none (broken_in (or_root found root)) ≡ false → IsClean root → WalkBreaks image walk
breaks_first image walk None root is e clean = absurd (not_clean root e clean)
breaks_first image walk (Some v) root is e clean = first_breaks image walk v is

found_passes : (p : Suspect → Bool) (xs : List Suspect) (s : Suspect) → find p xs ≡ Some s → p s ≡ true
found_passes p [] s is = let none : ⊥ = cc in absurd none
found_passes p (x ∷ xs) s is = at_test (p x) refl is (found_passes p xs s)
  where
    at_test : (b : Bool) → p x ≡ b → cond b (Some x) (find p xs) ≡ Some s → (find p xs ≡ Some s → p s ≡ true) → p s ≡ true
    at_test true e is later = let same : x ≡ s = cc in subst (λ (t : Suspect). p t ≡ true) same e
    at_test false e is later = later is

none_passes : (p : Suspect → Bool) (Q : Suspect → Type 0) (xs : List Suspect) → ((s : Suspect) → p s ≡ false → Q s) → find p xs ≡ None → All Q xs
none_passes p Q [] holds none = All-nil Q
none_passes p Q (x ∷ xs) holds none = at_test (p x) refl none (none_passes p Q xs holds)
  where
    at_test : (b : Bool) → p x ≡ b → cond b (Some x) (find p xs) ≡ None → (find p xs ≡ None → All Q xs) → All Q (x ∷ xs)
    at_test true e none later = let never : ⊥ = cc in absurd never
    at_test false e none later = All-cons Q x xs (holds x e) (later none)

pub stands_as : CleanRootsStand → (image : Image) (audits : List AuditAt) (root : Root) (breaking : Breaking) (suspects : List Suspect) (r : Repair) → IsRepairBy image audits root breaking suspects r
    → StandsAs image audits root breaking.walk suspects r
stands_as law image audits root breaking suspects (Stands s) is =
    let judge : Suspect → Verdict = judged_with image audits root breaking.walk None in
    (law (with_suspect image s) audits root).0
    (root_stands (first_found (with_suspect image s) breaking.walk) (root_verdict (with_suspect image s) audits root).verdict (found_passes (repairs judge) (take most suspects) s is))
stands_as law image audits root breaking suspects (Nothing tried more next) is =
    none_passes (repairs (judged_with image audits root breaking.walk None)) (λ s. RootStands (with_suspect image s) audits root → WalkBreaks (with_suspect image s) breaking.walk) (take most suspects)
    (λ s no stands.
    breaks_first (with_suspect image s) breaking.walk (first_found (with_suspect image s) breaking.walk) (root_verdict (with_suspect image s) audits root).verdict refl no
    ((law (with_suspect image s) audits root).1 stands))
    is.none

pub all_stand : CleanRootsStand → (content : Option (List ℕ)) (of : List ℕ → Image) (audits : List AuditAt) (root : Root) (breaking : Breaking) (suspects : List Suspect) (r : Result Repair ReadFailed)
    → IfOk r (λ repair. IfSome content (λ bytes. IsRepairBy (of bytes) audits root breaking suspects repair))
    → IfOk r (λ repair. IfSome content (λ bytes. StandsAs (of bytes) audits root breaking.walk suspects repair))
all_stand law None of audits root breaking suspects (Ok repair) exact = tt
all_stand law (Some bytes) of audits root breaking suspects (Ok repair) exact = stands_as law (of bytes) audits root breaking suspects repair exact
all_stand law content of audits root breaking suspects (Err stop) exact = tt

-- ---- what a suspect leads to, the root audit comes to

-- what the walk finds that counts is the same, and doesn't lead elsewhere
counted_same : (found : Breach) (first : Option Violation) (w : Violation) → counted (Some found) first ≡ Some w → is_same found w ≡ true
counted_same found None w is = let never : ⊥ = cc in absurd never
counted_same found (Some v) w is = at (is_same found v) refl is
  where
    at : (b : Bool) → is_same found v ≡ b → (if b then Some v else None) ≡ Some w → is_same found w ≡ true
    at true e is = let same : v ≡ w = cc in subst (λ (u : Violation). is_same found u ≡ true) same e
    at false e is = let never : ⊥ = cc in absurd never

of_root : (found : Breach) (s : Suspect) (root : Verdict) (n : Next) → next_of found s root ≡ Some n → (v : Violation) × (n.suspect ≡ s) × (n.rule ≡ v.rule) × (n.at ≡ v.at) × (root ≡ Broken v)
of_root found s (Clean counts) n is = let never : ⊥ = cc in absurd never
of_root found s (Broken v) n is = at (is_same found v) is
  where
    at : (b : Bool) → next_by b s v ≡ Some n → (w : Violation) × (n.suspect ≡ s) × (n.rule ≡ w.rule) × (n.at ≡ w.at) × (Broken v ≡ Broken w)
    at true is = let never : ⊥ = cc in absurd never
    at false is = let same : n ≡ record { suspect = s; rule = v.rule; at = v.at } = cc in rw same ((v, refl, refl, refl, refl))

of_judge : (found : Breach) (s : Suspect) (first : Option Violation) (root : Verdict) (n : Next) → next_of found s (or_root (counted (Some found) first) root) ≡ Some n → next_of found s root ≡ Some n
of_judge found s first root n is = at (counted (Some found) first) refl is
  where
    none : (w : Violation) → is_same found w ≡ true → next_of found s (Broken w) ≡ Some n → ⊥
    none w same is = let is : next_by true s w ≡ Some n = rw same at is in let never : ⊥ = cc in never

    at : (o : Option Violation) → counted (Some found) first ≡ o → next_of found s (or_root o root) ≡ Some n → next_of found s root ≡ Some n
    at None e is = is
    at (Some w) e is = absurd (none w (counted_same found first w e) is)

comes_here : (image : Image) (audits : List AuditAt) (root : Root) (s : Suspect) (n : Next) → (v : Violation) × (n.suspect ≡ s) × (n.rule ≡ v.rule) × (n.at ≡ v.at) × (verdict_with image audits root s ≡ Broken v)
    → ComesThen image audits root n
comes_here image audits root s n told = record {
  v = told.0;
  rule = told.2;
  at = told.3;
  comes = ap (verdict_with image audits root) told.1 ∙ told.4;
}

comes_at : (image : Image) (audits : List AuditAt) (root : Root) (found : Breach) (walk : Option FirstWalk) (s : Suspect) (rest : Option Next) (n : Next) (o : Option Next)
    → next_of found s (judged_with image audits root walk (Some found) s) ≡ o → (rest ≡ Some n → ComesThen image audits root n) → or_later o rest ≡ Some n → ComesThen image audits root n
comes_at image audits root found walk s rest n None e later is = later is
comes_at image audits root found walk s rest n (Some m) e later is =
    let same : m ≡ n = cc in
    comes_here image audits root s n
    (of_root found s (verdict_with image audits root s) n
    (of_judge found s (first_found (with_suspect image s) walk) (verdict_with image audits root s) n (e ∙ ap (λ (x : Next). Some x) same)))

comes_then : (image : Image) (audits : List AuditAt) (root : Root) (found : Breach) (walk : Option FirstWalk) (xs : List Suspect) (n : Next)
    → first_next (judged_with image audits root walk (Some found)) found xs ≡ Some n → ComesThen image audits root n
comes_then image audits root found walk [] n is = let never : ⊥ = cc in absurd never
comes_then image audits root found walk (s ∷ later) n is =
    comes_at image audits root found walk s (first_next (judged_with image audits root walk (Some found)) found later) n
    (next_of found s (judged_with image audits root walk (Some found) s)) refl (comes_then image audits root found walk later n) is

next_told : (lead : Suspect → Verdict) (found : Breach) (xs : List Suspect) (first : Option Suspect) (tried : ℕ) (more : Bool) (n : Next) → repair_by lead found xs first ≡ Nothing tried more (Some n)
    → first_next lead found (take most xs) ≡ Some n
next_told lead found xs (Some s) tried more n is = let never : ⊥ = cc in absurd never
next_told lead found xs None tried more n is = cc

pub nexts_of_root : (image : Image) (audits : List AuditAt) (root : Root) (found : Breach) (walk : Option FirstWalk) (xs : List Suspect) (tried : ℕ) (more : Bool) (n : Next)
    → repair_with image audits root (record { found = found; walk = walk; only = Some found }) xs ≡ Nothing tried more (Some n) → ComesThen image audits root n
nexts_of_root image audits root found walk xs tried more n is =
    comes_then image audits root found walk (take most xs) n
    (next_told (judged_with image audits root walk (Some found)) found xs (find (repairs (judged_with image audits root walk None)) (take most xs)) tried more n is)
