-- The walk of a chain, where the dump is told or not.
use Rattle.std.proofs.Common.{◌≡◌, ℕ, ◌+◌, ◌*◌, ◌≤◌, true, false, List, [], ◌∷◌, ◌++◌, length, Option, None, Some, sym, ◌∙◌, ap, arith}
use Rattle.std.specs.Prelude.{Ok, Err, IfSome}
use Rattle.std.proofs.Math.Nat.{mul-le-mul_left, mul-add}
use Rattle.kc_memory.specs.Image.{Physical, Image}
use Rattle.kc_memory.specs.Held.{word_count}
use Rattle.kc_found.specs.declared.found.WalkStop.{WalkStop}
use Rattle.kc_found.specs.declared.found.WalkStop.TheVariants as ends
use Rattle.kc_found.specs.Chains.{ChainOf}
use Rattle.kc_found.specs.Trials.{Break, and_then, passed}
use Rattle.kc_found.specs.Violations.{Violation}
use Rattle.kc_found.specs.Walks.{IsBroken, WalksAs, WithinSteps}
use Rattle.kc_found.proofs.Reached.{begins, begins_broken, goes_on, goes_broken, ends_with, few}
use Rattle.kc_found.specs.Going.{AreChains, Reaches, IsWalkOf}

pub told_begins : {A S : Type 0} (v : A → List ℕ) (chain : Image → ChainOf S) (image : Option Image) (x : A) (s : S) → AreChains chain →
    IfSome image (λ i. (chain i).start ≡ Some s) → WalksAs v (λ i. passed [] (chain i).head) image (Ok x) → Reaches chain image (v x) [] s
told_begins v chain None x s are start e = tt
told_begins v chain (Some i) x s are start e = begins i.physical (chain i) s (v x) (are i) start e

pub told_begins_broken : {A B S : Type 0} (v : A → List ℕ) (u : B → List ℕ) (chain : Image → ChainOf S) (image : Option Image) (stop : WalkStop) →
    WalksAs v (λ i. passed [] (chain i).head) image (Err stop) → IsWalkOf u chain image (Err stop)
told_begins_broken v u chain None stop e = tt
told_begins_broken v u chain (Some i) (ends.Broken f) e = begins_broken i.physical (chain i) f e
told_begins_broken v u chain (Some i) ends.Fault e = tt
told_begins_broken v u chain (Some i) ends.NoMemory e = tt

pub told_goes : {A S : Type 0} (v : A → List ℕ) (chain : Image → ChainOf S) (image : Option Image) (taken walked : List ℕ) (s t : S) (n : ℕ) (x : A) → AreChains chain → Reaches chain image taken walked s →
    ((i : Image) → (chain i).ends s ≡ false) → ((i : Image) → (chain i).element s ≡ n) → IfSome image (λ i. (chain i).next s ≡ Some t) → WalksAs v (λ i. passed taken ((chain i).site s)) image (Ok x) →
    Reaches chain image (v x) (walked ++ n ∷ []) t
told_goes v chain None taken walked s t n x are r inner is next e = tt
told_goes v chain (Some i) taken walked s t n x are r inner is next e = rw (← is i) (goes_on i.physical (chain i) taken walked s t (v x) (are i) r (inner i) next e)

pub told_goes_broken : {A B S : Type 0} (v : A → List ℕ) (u : B → List ℕ) (chain : Image → ChainOf S) (image : Option Image) (taken walked : List ℕ) (s : S) (stop : WalkStop) → Reaches chain image taken walked s →
    ((i : Image) → (chain i).ends s ≡ false) → WalksAs v (λ i. passed taken ((chain i).site s)) image (Err stop) → IsWalkOf u chain image (Err stop)
told_goes_broken v u chain None taken walked s stop r inner e = tt
told_goes_broken v u chain (Some i) taken walked s (ends.Broken f) r inner e = goes_broken i.physical (chain i) taken walked s f r (inner i) e
told_goes_broken v u chain (Some i) taken walked s ends.Fault r inner e = tt
told_goes_broken v u chain (Some i) taken walked s ends.NoMemory r inner e = tt

pub told_ends : {B S : Type 0} (u : B → List ℕ) (chain : Image → ChainOf S) (image : Option Image) (taken : List ℕ) (x : B) (s : S) → AreChains chain → Reaches chain image taken (u x) s →
    ((i : Image) → (chain i).ends s ≡ true) → ((i : Image) → (chain i).last s ≡ []) → IsWalkOf u chain image (Ok x)
told_ends u chain None taken x s are r ends bare = tt
told_ends u chain (Some i) taken x s are r ends bare =
    ends_with i.physical (chain i) taken (u x) s (are i) r (ends i) ∙ ap (λ ts. and_then (passed taken ts) (λ more. Ok (u x))) (bare i)

ends_by : {S : Type 0} (physical : Physical) (k : ChainOf S) (taken walked : List ℕ) (s : S) (v : Violation) → k.last s ≡ Break v ∷ [] → and_then {B = List ℕ} (passed taken (k.last s)) (λ more. Ok walked) ≡ Err v
ends_by physical k taken walked s v is = ap (λ ts. and_then {B = List ℕ} (passed taken ts) (λ more. Ok walked)) is

pub told_ends_broken : {B S : Type 0} (u : B → List ℕ) (chain : Image → ChainOf S) (image : Option Image) (taken walked : List ℕ) (s : S) (v : Violation) (stop : WalkStop) → AreChains chain → Reaches chain image taken walked s →
    ((i : Image) → (chain i).ends s ≡ true) → ((i : Image) → (chain i).last s ≡ Break v ∷ []) → IsBroken stop v → IsWalkOf u chain image (Err stop)
told_ends_broken u chain None taken walked s v stop are r ends broken is = tt
told_ends_broken u chain (Some i) taken walked s v (ends.Broken f) are r ends broken is =
    ends_with i.physical (chain i) taken walked s (are i) r (ends i) ∙ ends_by i.physical (chain i) taken walked s v (broken i) ∙ ap Err (sym is)
told_ends_broken u chain (Some i) taken walked s v ends.Fault are r ends broken is = tt
told_ends_broken u chain (Some i) taken walked s v ends.NoMemory are r ends broken is = tt

-- The steps of a walk that reads at most two words a site.
more_reads : (most old new reads bound : ℕ) → new ≤ old + most * reads → reads ≤ bound → new ≤ old + most * bound
more_reads most old new reads bound le fits = let more = mul-le-mul_left most fits in omega (arith, more, le)

-- two words more
pub two_reads : (most n old before after : ℕ) → before ≤ old + most * (2 + 2 * n) → after ≤ before + 2 * most → after ≤ old + most * (2 + 2 * (n + 1))
two_reads most n old before after le more = let all = mul-add most (2 + 2 * n) 2 in let same : 2 + 2 * (n + 1) ≡ (2 + 2 * n) + 2 = omega arith in rw (same, all) (omega (arith, le, more))

-- before the first site
pub few_steps : (image : Option Image) (most old new : ℕ) → new ≤ old + 2 * most → WithinSteps image most old new
few_steps None most old new le = tt
few_steps (Some i) most old new le = more_reads most old new 2 (2 * word_count i.physical + 128) (omega (arith, le)) (omega arith)

-- at a site that was reached, and after its words
pub site_steps : {S : Type 0} (chain : Image → ChainOf S) (image : Option Image) (taken walked : List ℕ) (s : S) (most old new : ℕ) → Reaches chain image taken walked s → new ≤ old + most * (2 + 2 * length walked) → WithinSteps image most old new
site_steps chain None taken walked s most old new r le = tt
site_steps chain (Some i) taken walked s most old new r le =
    let fits = few i.physical (chain i) taken walked s r in
    more_reads most old new (2 + 2 * length walked) (2 * word_count i.physical + 128) le (omega (arith, fits))

pub next_steps : {S : Type 0} (chain : Image → ChainOf S) (image : Option Image) (taken walked : List ℕ) (s : S) (most old before new : ℕ) → Reaches chain image taken walked s → before ≤ old + most * (2 + 2 * length walked) → new ≤ before + 2 * most → WithinSteps image most old new
next_steps chain None taken walked s most old before new r le more = tt
next_steps chain (Some i) taken walked s most old before new r le more =
    let fits = few i.physical (chain i) taken walked s r in
    more_reads most old new (2 + 2 * (length walked + 1)) (2 * word_count i.physical + 128) (two_reads most (length walked) old before new le more) (omega (arith, fits))
