-- The walk of a chain, where the dump is told or not: what it answers, when it is whole, and its steps.
use Rattle.std.proofs.Common.{◌≡◌, ℕ, ◌+◌, ◌*◌, ◌≤◌, true, false, List, [], ◌∷◌, ◌++◌, length, Option, Some}
use Rattle.std.specs.Prelude.{Ok, Err, IfSome}
use Rattle.kc_memory.specs.Image.{Physical, Image}
use Rattle.kc_memory.specs.Held.{word_count}
use Rattle.kc_found.specs.declared.found.WalkStop.{WalkStop}
use Rattle.kc_found.specs.Chains.{ChainOf, chain_sites}
use Rattle.kc_found.specs.Trials.{Break, passed, judged}
use Rattle.kc_found.specs.Violations.{Violation}
use Rattle.kc_found.specs.Walks.{IsBroken, WalksAs, WithinSteps}
use Rattle.kc_found.specs.Going.{AreChains, Reaches, IsWalkOf, IsChain}
use Rattle.kc_found.specs.Linked.{HasWords, Whole}
use Rattle.kc_found.proofs.Told as told
use Rattle.kc_found.proofs.Whole as whole

-- a walk whose head passes has come to its first site
pub told_begins : {A S : Type 0} (v : A → List ℕ) (chain : Image → ChainOf S) (image : Option Image) (x : A) (s : S) → AreChains chain →
    IfSome image (λ i. (chain i).start ≡ Some s) → WalksAs v (λ i. passed [] (chain i).head) image (Ok x) → Reaches chain image (v x) [] s
told_begins = told.told_begins

-- a walk that stops at its head answers that violation
pub told_begins_broken : {A B S : Type 0} (v : A → List ℕ) (u : B → List ℕ) (chain : Image → ChainOf S) (image : Option Image) (stop : WalkStop) →
    WalksAs v (λ i. passed [] (chain i).head) image (Err stop) → IsWalkOf u chain image (Err stop)
told_begins_broken = told.told_begins_broken

-- a walk whose site passes has come to the next one, with one element more
pub told_goes : {A S : Type 0} (v : A → List ℕ) (chain : Image → ChainOf S) (image : Option Image) (taken walked : List ℕ) (s t : S) (n : ℕ) (x : A) → AreChains chain → Reaches chain image taken walked s →
    ((i : Image) → (chain i).ends s ≡ false) → ((i : Image) → (chain i).element s ≡ n) → IfSome image (λ i. (chain i).next s ≡ Some t) → WalksAs v (λ i. passed taken ((chain i).site s)) image (Ok x) →
    Reaches chain image (v x) (walked ++ n ∷ []) t
told_goes = told.told_goes

-- a walk that stops at a site answers that violation
pub told_goes_broken : {A B S : Type 0} (v : A → List ℕ) (u : B → List ℕ) (chain : Image → ChainOf S) (image : Option Image) (taken walked : List ℕ) (s : S) (stop : WalkStop) → Reaches chain image taken walked s →
    ((i : Image) → (chain i).ends s ≡ false) → WalksAs v (λ i. passed taken ((chain i).site s)) image (Err stop) → IsWalkOf u chain image (Err stop)
told_goes_broken = told.told_goes_broken

-- a walk that comes to an end without a rule to break answers its elements
pub told_ends : {B S : Type 0} (u : B → List ℕ) (chain : Image → ChainOf S) (image : Option Image) (taken : List ℕ) (x : B) (s : S) → AreChains chain → Reaches chain image taken (u x) s →
    ((i : Image) → (chain i).ends s ≡ true) → ((i : Image) → (chain i).last s ≡ []) → IsWalkOf u chain image (Ok x)
told_ends = told.told_ends

-- a walk whose end breaks a rule answers that violation
pub told_ends_broken : {B S : Type 0} (u : B → List ℕ) (chain : Image → ChainOf S) (image : Option Image) (taken walked : List ℕ) (s : S) (v : Violation) (stop : WalkStop) → AreChains chain → Reaches chain image taken walked s →
    ((i : Image) → (chain i).ends s ≡ true) → ((i : Image) → (chain i).last s ≡ Break v ∷ []) → IsBroken stop v → IsWalkOf u chain image (Err stop)
told_ends_broken = told.told_ends_broken

-- a walk without a violation is a whole chain: all its elements, each of whose words is taken once
pub whole_of_walk : {S : Type 0} (physical : Physical) (k : ChainOf S) (words : List ℕ → List ℕ) (ns : List ℕ) → IsChain physical k → HasWords k words → judged (chain_sites k (word_count physical + 1)) ≡ Ok ns → Whole k words ns
whole_of_walk = whole.whole_of_walk

-- a whole chain is walked without a violation
pub walk_of_whole : {S : Type 0} (physical : Physical) (k : ChainOf S) (words : List ℕ → List ℕ) (ns : List ℕ) → IsChain physical k → HasWords k words → Whole k words ns → judged (chain_sites k (word_count physical + 1)) ≡ Ok ns
walk_of_whole = whole.walk_of_whole

-- the steps of two words more, where the head and each element take two words
pub two_reads : (most n old before after : ℕ) → before ≤ old + most * (2 + 2 * n) → after ≤ before + 2 * most → after ≤ old + most * (2 + 2 * (n + 1))
two_reads = told.two_reads

-- before the first site a walk of two words is within its steps
pub few_steps : (image : Option Image) (most old new : ℕ) → new ≤ old + 2 * most → WithinSteps image most old new
few_steps = told.few_steps

-- at a site that it came to a walk is within its steps, since it took no more words than the dump holds
pub site_steps : {S : Type 0} (chain : Image → ChainOf S) (image : Option Image) (taken walked : List ℕ) (s : S) (most old new : ℕ) → Reaches chain image taken walked s → new ≤ old + most * (2 + 2 * length walked) → WithinSteps image most old new
site_steps = told.site_steps

-- and after the two words of that site too
pub next_steps : {S : Type 0} (chain : Image → ChainOf S) (image : Option Image) (taken walked : List ℕ) (s : S) (most old before new : ℕ) → Reaches chain image taken walked s → before ≤ old + most * (2 + 2 * length walked) → new ≤ before + 2 * most → WithinSteps image most old new
next_steps = told.next_steps
