-- Root audits: their text, their status, and that what is said of each is what stands.
use Rattle.std.proofs.Common.{◌≡◌, ℕ, ◌<◌, ◌≤◌, Bool, true, false, if◌then◌else◌, List, [], ◌∷◌, ◌++◌, length, map, Option, Some, None, arith, refl, sym, ap, ◌∙◌, subst}
use Rattle.std.specs.Prelude.{◌↔◌, ⊤, ◌||◌, codes, decimal, is_some, nat_eq}
use Rattle.std.specs.List.{All, AllByRecursion, AllZip, list_any}
use Rattle.std.proofs.lemmas.List.{append-nil, length-map}
use Rattle.std.proofs.lemmas.List.Elements.{All-weaker}
use Rattle.kc_memory.specs.Image.{Image}
use Rattle.kc_memory.specs.Places.{AllStandIn}
use Rattle.kc_found.specs.declared.verdict.RootVerdict.{RootVerdict}
use Rattle.kc_found.specs.declared.verdict.Verdict.{Verdict}
use Rattle.kc_found.specs.declared.verdict.Verdict.TheVariants as found
use Rattle.kc_plan.specs.Planned.{AuditAt}
use Rattle.kc_plan.specs.Roots.{FitEach, FitsAmong, FitsRoot, Root, broken_in, root_verdict, root_verdicts}
use Rattle.kc_plan.specs.Seen.{roots}
use Rattle.kc_plan.specs.Stands.{RootStands}
use Rattle.kc_plan.specs.Verdicts.{IsClean, verdict_places}
use Rattle.kc_run.specs.Laws.{CleanRootsStand, RootVerdictsStand}
use Rattle.kc_text.specs.Compose.{texts}
use Rattle.kc_report.specs.Copies.{AreOfPlan, IsOfAudits, IsOfRoot, counted, name_of, root_lines, root_result}
use Rattle.kc_report.specs.Copies.{names_of as reached_names}
use Rattle.kc_report.specs.ReportText.{clean_text}
use Rattle.kc_report.specs.Roots.{each_text, result_text}
use Rattle.kc_report.specs.Roots.{root_text as report_text}
use Rattle.kc_command.specs.declared.ends.status.Status.{Status}
use Rattle.kc_command.specs.declared.ends.status.Status.TheVariants as status
use Rattle.kc_command.specs.Ends.Written.{Written}
use Rattle.kc_audit.specs.Audits.{names_of}
use Rattle.kc_app.specs.Check.{Audited, TellsRoot, root_said, root_seen}
use Rattle.kc_app.specs.Shown.{RootSeen, root_text, rooted_text, roots_status, said_status, seen_text}

-- the text of a root audit in a report is that of what is shown
result_same : (names : List (List ℕ)) (audits : List ℕ) (seen : Verdict) → result_text (root_result names audits seen) ≡ seen_text (root_said names audits seen) (verdict_places seen)
result_same names audits (found.Clean counts) = sym (append-nil (clean_text (counted (reached_names names audits) counts)))
result_same names audits (found.Broken v) = refl

root_same : (names : List (List ℕ)) (v : RootVerdict) → report_text (root_lines names v) ≡ root_text (root_seen names v)
root_same names v = ap (λ text. codes "root " ++ name_of names v.root ++ codes " " ++ text) (result_same names v.audits v.verdict)

texts_same : (names : List (List ℕ)) (vs : List RootVerdict) → texts report_text (map (root_lines names) vs) ≡ texts root_text (map (root_seen names) vs)
texts_same names [] = refl
texts_same names (v ∷ vs) =
    ap (λ text. text ++ texts report_text (map (root_lines names) vs)) (root_same names v) ∙ ap (λ texts. root_text (root_seen names v) ++ texts) (texts_same names vs)

pub each_same : (names : List (List ℕ)) (vs : List RootVerdict) → each_text (map (root_lines names) vs) ≡ rooted_text (map (root_seen names) vs)
each_same names vs = rw (length-map vs (root_lines names), length-map vs (root_seen names), texts_same names vs) refl

-- a status is that of a broken one, where one is
abbrev any_broken : List RootVerdict → Bool
any_broken vs = list_any (λ (v : RootVerdict). is_some (broken_in v.verdict)) vs

abbrev status_by : Bool → Status
status_by true = status.Broken
status_by false = status.Done

status_head : (names : List (List ℕ)) (audits : List ℕ) (seen : Verdict) → said_status (root_said names audits seen) ≡ status_by (is_some (broken_in seen))
status_head names audits (found.Clean counts) = refl
status_head names audits (found.Broken v) = refl

status_cons : (names : List (List ℕ)) (v : RootVerdict) (vs : List RootVerdict) (b c : Bool) → is_some (broken_in v.verdict) ≡ b → roots_status (map (root_seen names) vs) ≡ status_by c
    → roots_status (map (root_seen names) (v ∷ vs)) ≡ status_by (b || c)
status_cons names v vs true c is later = rw (status_head names v.audits v.verdict, is) refl
status_cons names v vs false c is later = rw (status_head names v.audits v.verdict, is) later

status_is : (names : List (List ℕ)) (vs : List RootVerdict) → roots_status (map (root_seen names) vs) ≡ status_by (any_broken vs)
status_is names [] = refl
status_is names (v ∷ vs) = status_cons names v vs (is_some (broken_in v.verdict)) (any_broken vs) refl (status_is names vs)

-- what is written of a text
abbrev text_written : List ℕ → Status → Written
text_written text told = record { out = text; err = []; status = told }

-- what is written of a report of root audits
pub each_written : (names : List (List ℕ)) (vs : List RootVerdict) (text : List ℕ) (b : Bool) → any_broken vs ≡ b → text ≡ each_text (map (root_lines names) vs)
    → text_written text (status_by b) ≡ text_written (rooted_text (map (root_seen names) vs)) (roots_status (map (root_seen names) vs))
each_written names vs text b is made = rw (made, each_same names vs, status_is names vs, is) refl

-- verdicts that fit a plan are of the plan with its names
fits_verdict : (names : List (List ℕ)) (count : ℕ) (audits : List ℕ) (seen : Verdict) → count ≡ length names → FitsAmong count audits seen → IsOfAudits names audits seen
fits_verdict names count audits (found.Clean counts) same fits = fits
fits_verdict names count audits (found.Broken v) same fits = rw (← same) fits

fits_root : (names : List (List ℕ)) (count : ℕ) (audits : List AuditAt) (v : RootVerdict) → count ≡ length names → FitsRoot count audits v → IsOfRoot names v
fits_root names count audits v same fits = record {
  root = rw (← same) fits.root;
  audits = rw (← same) fits.below;
  verdict = fits_verdict names count v.audits v.verdict same fits.verdict;
}

pub fits_plan : (names : List (List ℕ)) (count : ℕ) (audits : List AuditAt) (vs : List RootVerdict) → names ≡ names_of audits → length audits ≡ count → FitEach count audits vs → AreOfPlan names vs
fits_plan names count audits vs named many fits =
    let same : count ≡ length names = sym many ∙ sym (ap length named ∙ length-map audits (λ (audit : AuditAt). audit.name)) in
    record { few = fits.few; roots = All-weaker (FitsRoot count audits) (IsOfRoot names) (λ v fit. fits_root names count audits v same fit) vs fits.roots }

-- a verdict on a root audit that is clean exactly where something holds is shown so
root_stands : {P : Type 0} (names : List (List ℕ)) (audits : List ℕ) (seen : Verdict) → IsClean seen ↔ P
    → ((said_status (root_said names audits seen) ≡ status.Done) ↔ P) × ((said_status (root_said names audits seen) ≡ status.Broken) ↔ ¬ P)
root_stands names audits (found.Clean counts) clean =
    (((λ done. clean.0 tt), (λ holds. refl)), ((λ broken. absurd (let none : ⊥ = cc in none)), (λ fails. absurd (fails (clean.0 tt)))))
root_stands names audits (found.Broken v) clean =
    (((λ done. absurd (let none : ⊥ = cc in none)), (λ holds. absurd (clean.1 holds))), ((λ broken holds. clean.1 holds), (λ fails. refl)))

-- so it is of each
pub roots_told : CleanRootsStand → (all : Audited) (rs : List Root) → AllZip (TellsRoot all) rs (map (root_seen (names_of all.audits)) (map (root_verdict all.image all.audits) rs))
roots_told law all [] = tt
roots_told law all (r ∷ rs) =
    let one = root_verdict all.image all.audits r in
    (root_stands (names_of all.audits) one.audits one.verdict (law all.image all.audits r), roots_told law all rs)

-- and the words of each stand in the dump
pub roots_shown_stand : RootVerdictsStand → (image : Image) (names : List (List ℕ)) (audits : List AuditAt) (rs : List Root)
    → AllByRecursion (λ (r : RootSeen). AllStandIn image r.places) (map (root_seen names) (map (root_verdict image audits) rs))
roots_shown_stand law image names audits [] = tt
roots_shown_stand law image names audits (r ∷ rs) = (law image audits r, roots_shown_stand law image names audits rs)

-- root audits that are all clean are shown with 0, and others with 1
abbrev AllClean : List RootVerdict → Type 0
AllClean vs = AllByRecursion (λ (v : RootVerdict). IsClean v.verdict) vs

clean_head : (seen : Verdict) → (is_some (broken_in seen) ≡ false) ↔ IsClean seen
clean_head (found.Clean counts) = ((λ e. tt), (λ e. refl))
clean_head (found.Broken v) = ((λ e. absurd (let none : ⊥ = cc in none)), (λ e. absurd e))

neither : (b c : Bool) → (b || c) ≡ false → (b ≡ false) × (c ≡ false)
neither true c e = absurd (let none : ⊥ = cc in none)
neither false c e = (refl, e)

none_broken : (vs : List RootVerdict) → (any_broken vs ≡ false) ↔ AllClean vs
none_broken [] = ((λ e. tt), (λ e. refl))
none_broken (v ∷ vs) =
    let head = clean_head v.verdict in
    let later = none_broken vs in (
      (λ e. let both = neither (is_some (broken_in v.verdict)) (any_broken vs) e in (head.0 both.0, later.0 both.1)),
      (λ all. rw (head.1 all.0) (later.1 all.1)),
    )

by_status : {P : Type 0} (b : Bool) (told : Status) → told ≡ status_by b → (b ≡ false) ↔ P → ((told ≡ status.Done) ↔ P) × ((told ≡ status.Broken) ↔ ¬ P)
by_status true told is clean =
    (((λ done. absurd (let none : ⊥ = cc in none)), (λ holds. absurd (let e = clean.1 holds in let none : ⊥ = cc in none))), ((λ broken holds. let e = clean.1 holds in let none : ⊥ = cc in none), (λ fails. is)))
by_status false told is clean =
    (((λ done. clean.0 refl), (λ holds. is)), ((λ broken. absurd (let none : ⊥ = cc in none)), (λ fails. absurd (fails (clean.0 refl)))))

pub roots_end : {P : Type 0} (names : List (List ℕ)) (vs : List RootVerdict) → AllClean vs ↔ P
    → ((roots_status (map (root_seen names) vs) ≡ status.Done) ↔ P) × ((roots_status (map (root_seen names) vs) ≡ status.Broken) ↔ ¬ P)
roots_end names vs clean =
    let some = any_broken vs in
    let none = none_broken vs in
    by_status some (roots_status (map (root_seen names) vs)) (status_is names vs) ((λ e. clean.0 (none.0 e)), (λ p. none.1 (clean.1 p)))
