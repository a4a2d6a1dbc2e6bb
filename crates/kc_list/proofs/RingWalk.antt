-- How the walk of a ring goes on, where the dump is told or not.
use Rattle.std.proofs.Common.{◌≡◌, ℕ, nat_eq, true, false, List, [], ◌∷◌, ◌++◌, Option, None, Some, refl, ap}
use Rattle.std.specs.Prelude.{Ok, Err, not, IfSome}
use Rattle.kc_memory.specs.declared.words.VWord.{VWord}
use Rattle.kc_memory.specs.declared.rule.Rule.TheVariants.{L1}
use Rattle.kc_memory.specs.Image.{Image}
use Rattle.kc_memory.specs.Translation.{vword}
use Rattle.kc_found.specs.declared.asked.Asked.{Asked}
use Rattle.kc_found.specs.declared.found.WalkStop.{WalkStop}
use Rattle.kc_found.specs.declared.found.WalkStop.TheVariants as ends
use Rattle.kc_found.specs.declared.shapes.ListShape.{ListShape}
use Rattle.kc_found.specs.Chains.{ChainOf}
use Rattle.kc_found.specs.Nodes.{two_taken}
use Rattle.kc_found.specs.Rings.{RingLed, links, led_first, led_on, ring_site, ring_chain, ring_walk}
use Rattle.kc_found.specs.Trials.{passed, broken_if}
use Rattle.kc_found.specs.FiniteLists.{Ring, words_of}
use Rattle.kc_found.specs.Violations.{Violation, breaks}
use Rattle.kc_found.specs.Walks.{IsBroken, OnBroken, WalksAs}
use Rattle.kc_found.specs.Going.{AreChains, Reaches, IsWalkOf}
use Rattle.kc_laws.specs.Chains.{told_begins, told_begins_broken, told_goes, told_goes_broken, told_ends, told_ends_broken, whole_of_walk, walk_of_whole}
use Rattle.kc_laws.specs.Pairs.{leads_by}
use Rattle.kc_list.proofs.RingLaw.{ring_words, ring_of_whole, whole_of_ring}
use Rattle.kc_list.proofs.RingSites.{ring_is_chain}
use Rattle.kc_laws.specs.Trials.{if_some}
use Rattle.kc_list.proofs.Reading.{reads_held}

abbrev pub asked_at : ℕ → ℕ → Asked
asked_at audit head = record { audit = audit; start = head }

-- the ring of each dump
abbrev pub rings : ListShape → ℕ → ℕ → Image → ChainOf RingLed
rings shape audit head image = ring_chain (vword image) shape (asked_at audit head)

abbrev pub led_to : VWord → ℕ → VWord → RingLed
led_to from before last = record { from = from; before = before; last = last }

rings_are : (shape : ListShape) (audit head : ℕ) → AreChains (rings shape audit head)
rings_are shape audit head image = ring_is_chain image.physical (vword image) shape (asked_at audit head) (reads_held image)

pub begins : {A : Type 0} (v : A → List ℕ) (image : Option Image) (shape : ListShape) (audit head : ℕ) (x : A) (p : VWord × VWord) →
    IfSome image (λ i. links (vword i) shape head ≡ Ok p) → WalksAs v (λ i. passed {X = ℕ} [] (two_taken (asked_at audit head) None (links (vword i) shape head))) image (Ok x) →
    Reaches (rings shape audit head) image (v x) [] (led_to p.0 head p.1)
begins v image shape audit head x p there e =
    told_begins v (rings shape audit head) image x (led_to p.0 head p.1) (rings_are shape audit head)
    (if_some (λ (i : Image). links (vword i) shape head ≡ Ok p) (λ (i : Image). (rings shape audit head i).start ≡ Some (led_to p.0 head p.1)) image (λ i h. leads_by (links (vword i) shape head) (led_first head) p h) there) e

pub begins_broken : {A B : Type 0} (v : A → List ℕ) (u : B → List ℕ) (image : Option Image) (shape : ListShape) (audit head : ℕ) (stop : WalkStop) →
    WalksAs v (λ i. passed {X = ℕ} [] (two_taken (asked_at audit head) None (links (vword i) shape head))) image (Err stop) → IsWalkOf u (rings shape audit head) image (Err stop)
begins_broken v u image shape audit head stop e = told_begins_broken v u (rings shape audit head) image stop e

pub goes : {A : Type 0} (v : A → List ℕ) (image : Option Image) (shape : ListShape) (audit head : ℕ) (taken walked : List ℕ) (from : VWord) (before : ℕ) (last : VWord) (x : A) (p : VWord × VWord) →
    Reaches (rings shape audit head) image taken walked (led_to from before last) → nat_eq from.value head ≡ false → IfSome image (λ i. links (vword i) shape from.value ≡ Ok p) →
    WalksAs v (λ i. passed taken (ring_site (asked_at audit head) (links (vword i) shape from.value) from before)) image (Ok x) →
    Reaches (rings shape audit head) image (v x) (walked ++ from.value ∷ []) (led_to p.0 from.value last)
goes v image shape audit head taken walked from before last x p r inner there e =
    told_goes v (rings shape audit head) image taken walked (led_to from before last) (led_to p.0 from.value last) from.value x (rings_are shape audit head) r (λ i. inner) (λ i. refl)
    (if_some (λ (i : Image). links (vword i) shape from.value ≡ Ok p) (λ (i : Image). (rings shape audit head i).next (led_to from before last) ≡ Some (led_to p.0 from.value last)) image
    (λ i h. leads_by (links (vword i) shape from.value) (led_on (led_to from before last)) p h) there) e

pub goes_broken : {A B : Type 0} (v : A → List ℕ) (u : B → List ℕ) (image : Option Image) (shape : ListShape) (audit head : ℕ) (taken walked : List ℕ) (from : VWord) (before : ℕ) (last : VWord) (stop : WalkStop) →
    Reaches (rings shape audit head) image taken walked (led_to from before last) → nat_eq from.value head ≡ false →
    WalksAs v (λ i. passed taken (ring_site (asked_at audit head) (links (vword i) shape from.value) from before)) image (Err stop) → IsWalkOf u (rings shape audit head) image (Err stop)
goes_broken v u image shape audit head taken walked from before last stop r inner e = told_goes_broken v u (rings shape audit head) image taken walked (led_to from before last) stop r (λ i. inner) e

pub ends_well : {B : Type 0} (u : B → List ℕ) (image : Option Image) (shape : ListShape) (audit head : ℕ) (taken : List ℕ) (x : B) (from : VWord) (before : ℕ) (last : VWord) →
    Reaches (rings shape audit head) image taken (u x) (led_to from before last) → nat_eq from.value head ≡ true → nat_eq last.value before ≡ true → IsWalkOf u (rings shape audit head) image (Ok x)
ends_well u image shape audit head taken x from before last r back same =
    told_ends u (rings shape audit head) image taken x (led_to from before last) (rings_are shape audit head) r (λ i. back)
    (λ i. ap (λ b. broken_if (not b) (breaks (asked_at audit head) L1 last (Some before))) same)

pub ends_broken : {B : Type 0} (u : B → List ℕ) (image : Option Image) (shape : ListShape) (audit head : ℕ) (taken walked : List ℕ) (from : VWord) (before : ℕ) (last : VWord) (stop : WalkStop) →
    Reaches (rings shape audit head) image taken walked (led_to from before last) → nat_eq from.value head ≡ true → nat_eq last.value before ≡ false →
    IsBroken stop (breaks (asked_at audit head) L1 last (Some before)) → IsWalkOf u (rings shape audit head) image (Err stop)
ends_broken u image shape audit head taken walked from before last stop r back differs e =
    told_ends_broken u (rings shape audit head) image taken walked (led_to from before last) (breaks (asked_at audit head) L1 last (Some before)) stop (rings_are shape audit head) r (λ i. back)
    (λ i. ap (λ b. broken_if (not b) (breaks (asked_at audit head) L1 last (Some before))) differs) e

-- what a walk without a violation says, and one with a violation
pub finite : {B : Type 0} (u : B → List ℕ) (image : Option Image) (shape : ListShape) (audit head : ℕ) (x : B) → IsWalkOf u (rings shape audit head) image (Ok x) → IfSome image (λ i. Ring (vword i) shape head (u x))
finite u None shape audit head x e = tt
finite u (Some i) shape audit head x e =
    ring_of_whole (vword i) shape (asked_at audit head) (u x)
    (whole_of_walk i.physical (rings shape audit head i) (words_of (vword i) shape.next shape.prev) (u x) (rings_are shape audit head i) (ring_words (vword i) shape (asked_at audit head)) e)

pub walked : (i : Image) (shape : ListShape) (audit head : ℕ) (ns : List ℕ) → Ring (vword i) shape head ns → ring_walk i shape audit head ≡ Ok ns
walked i shape audit head ns r =
    walk_of_whole i.physical (rings shape audit head i) (words_of (vword i) shape.next shape.prev) ns (rings_are shape audit head i) (ring_words (vword i) shape (asked_at audit head)) (whole_of_ring (vword i) shape (asked_at audit head) ns r)

unwalked : (i : Image) (shape : ListShape) (audit head : ℕ) (f : Violation) → ring_walk i shape audit head ≡ Err f → (ns : List ℕ) → Ring (vword i) shape head ns → ⊥
unwalked i shape audit head f e ns r = let ok = walked i shape audit head ns r in cc

pub none : {B : Type 0} (u : B → List ℕ) (image : Option Image) (shape : ListShape) (audit head : ℕ) (stop : WalkStop) → IsWalkOf u (rings shape audit head) image (Err stop) →
    OnBroken {A = B} (Err stop) (IfSome image (λ i. (ns : List ℕ) → Ring (vword i) shape head ns → ⊥))
none u None shape audit head (ends.Broken f) e = tt
none u (Some i) shape audit head (ends.Broken f) e = unwalked i shape audit head f e
none u image shape audit head ends.Fault e = tt
none u image shape audit head ends.NoMemory e = tt
