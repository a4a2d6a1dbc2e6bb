-- What a word that repairs is worth: whether it is alone, and the elements that are counted with it.
use Rattle.std.proofs.Common.{◌≡◌, ℕ, zero, suc, nat_eq, Bool, true, false, if◌then◌else◌, List, [], ◌∷◌, ◌++◌, take, find, slice_get, Option, Some, None, refl, ap}
use Rattle.std.specs.Prelude.{IfSome}
use Rattle.std.proofs.lemmas.Bool.{eqb-true}
use Rattle.kc_memory.specs.Image.{Image}
use Rattle.kc_found.specs.declared.verdict.AuditCount.{AuditCount}
use Rattle.kc_found.specs.declared.verdict.Verdict.{Verdict}
use Rattle.kc_found.specs.declared.verdict.Verdict.TheVariants.{Clean, Broken}
use Rattle.kc_plan.specs.Planned.{AuditAt}
use Rattle.kc_plan.specs.Roots.{Root, root_verdict}
use Rattle.kc_plan.specs.Stands.{RootStands}
use Rattle.kc_run.specs.Laws.{CleanRootsStand}
use Rattle.kc_repair.specs.declared.suspect.suspect.Suspect.{Suspect}
use Rattle.kc_repair.specs.declared.first.FirstWalk.{FirstWalk}
use Rattle.kc_repair.specs.Elements.{elements_by, elements_in}
use Rattle.kc_repair.specs.Laws.{ElementsAreCounted, FailsWith, OthersStand}
use Rattle.kc_repair.specs.Repairs.{breach_of, first_found, judged_with, most, repairs, walk_of, with_suspect, with_words}
use Rattle.kc_repair.specs.Suspect.Laws.{IsSuspect, SuspectsStand}
use Rattle.kc_repair.specs.Suspect.Suspects.{suspects}
use Rattle.kc_repair.proofs.Beside.{first-of}
use Rattle.kc_repair.proofs.Parts.{all-so, tried-parts}
use Rattle.kc_repair.proofs.Standing.{breaks_first, root_stands}
use Rattle.kc_repair.proofs.Ups.{of-front}

fails-with : CleanRootsStand → (image : Image) (audits : List AuditAt) (root : Root) (walk : Option FirstWalk) (s : Suspect) → repairs (judged_with image audits root walk None) s ≡ false → FailsWith image audits root walk s
fails-with law image audits root walk s fails stands =
    breaks_first (with_suspect image s) walk (first_found (with_suspect image s) walk) (root_verdict (with_suspect image s) audits root).verdict refl fails
    ((law (with_suspect image s) audits root).1 stands)

stands-with : CleanRootsStand → (image : Image) (audits : List AuditAt) (root : Root) (walk : Option FirstWalk) (s : Suspect) → repairs (judged_with image audits root walk None) s ≡ true → RootStands (with_suspect image s) audits root
stands-with law image audits root walk s passes =
    (law (with_suspect image s) audits root).0 (root_stands (first_found (with_suspect image s) walk) (root_verdict (with_suspect image s) audits root).verdict passes)

some-so : (P Q : Suspect → Type 0) (o : Option Suspect) → ((x : Suspect) → P x → Q x) → IfSome o P → IfSome o Q
some-so P Q None so holds = tt
some-so P Q (Some x) so holds = so x holds

pub others-stand : CleanRootsStand → SuspectsStand → OthersStand
others-stand law suspected image audits root kind v s is =
    let walk : Option FirstWalk = walk_of image audits kind v in
    let passes : Suspect → Bool = repairs (judged_with image audits root walk None) in
    let found : find passes (take most (suspects image kind v)) ≡ Some s = first-of (judged_with image audits root walk (Some (breach_of v))) (breach_of v) (suspects image kind v) (find passes (take most (suspects image kind v))) s is in
    let t = tried-parts passes (IsSuspect image) (suspects image kind v) s (suspected image kind v) (of-front passes most (suspects image kind v) s found) in
    record {
      before = t.before;
      after = t.after;
      other = t.other;
      there = t.there;
      fail = all-so (λ (x : Suspect). passes x ≡ false) (FailsWith image audits root walk) (t.before ++ t.after) (λ x fails. fails-with law image audits root walk x fails) t.fail;
      also = some-so (λ (x : Suspect). passes x ≡ true) (λ (x : Suspect). RootStands (with_suspect image x) audits root) t.other (λ x holds. stands-with law image audits root walk x holds) t.also;
      two = t.two;
      number = t.number;
    }

-- ---- the elements

record InCounts (number : ℕ) (numbers : List ℕ) (counts : List AuditCount) (n : ℕ) : Type 0 where
  place : ℕ
  named : slice_get numbers place ≡ Some number
  count : AuditCount
  counted : slice_get counts place ≡ Some count
  elements : count.elements ≡ n

in-counts : (number : ℕ) (numbers : List ℕ) (counts : List AuditCount) (n : ℕ) → elements_in number numbers counts ≡ Some n → InCounts number numbers counts n
in-counts number [] counts n is = let never : ⊥ = cc in absurd never
in-counts number (m ∷ numbers) [] n is = let never : ⊥ = cc in absurd never
in-counts number (m ∷ numbers) (c ∷ counts) n is = at (nat_eq m number) refl is (in-counts number numbers counts n)
  where
    at : (b : Bool) → nat_eq m number ≡ b → (if b then Some c.elements else elements_in number numbers counts) ≡ Some n → (elements_in number numbers counts ≡ Some n → InCounts number numbers counts n)
        → InCounts number (m ∷ numbers) (c ∷ counts) n
    at true e is later = let same : c.elements ≡ n = cc in record { place = zero; named = ap (λ (k : ℕ). Some k) (eqb-true m number e); count = c; counted = refl; elements = same }
    at false e is later = let rest = later is in record { place = suc rest.place; named = rest.named; count = rest.count; counted = rest.counted; elements = rest.elements }

record InVerdict (number : ℕ) (numbers : List ℕ) (verdict : Verdict) (n : ℕ) : Type 0 where
  counts : List AuditCount
  clean : verdict ≡ Clean counts
  inside : InCounts number numbers counts n

in-verdict : (number : ℕ) (numbers : List ℕ) (verdict : Verdict) (n : ℕ) → elements_by number numbers verdict ≡ Some n → InVerdict number numbers verdict n
in-verdict number numbers (Clean counts) n is = record { counts = counts; clean = refl; inside = in-counts number numbers counts n is }
in-verdict number numbers (Broken v) n is = let never : ⊥ = cc in absurd never

pub elements-counted : ElementsAreCounted
elements-counted image audits root words number n is =
    let found = root_verdict (with_words image words) audits root in
    let told = in-verdict number found.audits found.verdict n is in
    record {
      counts = told.counts;
      clean = told.clean;
      place = told.inside.place;
      named = told.inside.named;
      count = told.inside.count;
      counted = told.inside.counted;
      elements = told.inside.elements;
    }
