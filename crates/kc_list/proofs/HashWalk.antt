-- How the walk of a hash chain goes on, where the dump is told or not.
use Rattle.std.proofs.Common.{◌≡◌, ℕ, nat_eq, true, false, List, [], ◌∷◌, ◌++◌, Option, None, Some, refl, ap}
use Rattle.std.specs.Prelude.{Ok, Err, IfSome}
use Rattle.kc_memory.specs.declared.words.VWord.{VWord}
use Rattle.kc_memory.specs.Image.{Image}
use Rattle.kc_memory.specs.Translation.{vword}
use Rattle.kc_found.specs.declared.found.WalkStop.{WalkStop}
use Rattle.kc_found.specs.declared.found.WalkStop.TheVariants as ends
use Rattle.kc_found.specs.declared.shapes.HShape.{HShape}
use Rattle.kc_found.specs.Chains.{ChainOf}
use Rattle.kc_found.specs.FiniteLists.{HChain, words_of}
use Rattle.kc_found.specs.HashChains.{hash_links, next_of, hash_site, hash_chain, hash_walk}
use Rattle.kc_found.specs.Nodes.{at_offset, readable, one_taken}
use Rattle.kc_found.specs.Trials.{passed}
use Rattle.kc_found.specs.Violations.{Violation}
use Rattle.kc_found.specs.Walks.{OnBroken, WalksAs}
use Rattle.kc_found.specs.Going.{AreChains, Reaches, IsWalkOf}
use Rattle.kc_laws.specs.Chains.{told_begins, told_begins_broken, told_goes, told_goes_broken, told_ends, whole_of_walk, walk_of_whole}
use Rattle.kc_list.proofs.HashLaw.{hash_words, hashed_of_whole, whole_of_hashed}
use Rattle.kc_list.proofs.HashSites.{hash_is_chain}
use Rattle.kc_laws.specs.Pairs.{leads_by}
use Rattle.kc_list.proofs.Reading.{reads_held, reads_there}
use Rattle.kc_list.proofs.RingWalk.{asked_at}
use Rattle.kc_laws.specs.Trials.{if_some}

-- the hash chain of each dump
abbrev pub hashes : HShape → ℕ → ℕ → Image → ChainOf VWord
hashes shape audit head image = hash_chain (vword image) shape (asked_at audit head)

hashes_are : (shape : HShape) (audit head : ℕ) → AreChains (hashes shape audit head)
hashes_are shape audit head image = hash_is_chain image.physical (vword image) shape (asked_at audit head) (reads_held image)

pub hash_begins : {A : Type 0} (v : A → List ℕ) (image : Option Image) (shape : HShape) (audit head : ℕ) (x : A) (w : VWord) →
    IfSome image (λ i. vword i (at_offset head shape.first) ≡ Ok w) → WalksAs v (λ i. passed {X = ℕ} [] (one_taken (asked_at audit head) None (vword i (at_offset head shape.first)))) image (Ok x) →
    Reaches (hashes shape audit head) image (v x) [] w
hash_begins v image shape audit head x w there e =
    told_begins v (hashes shape audit head) image x w (hashes_are shape audit head)
    (if_some (λ (i : Image). vword i (at_offset head shape.first) ≡ Ok w) (λ (i : Image). (hashes shape audit head i).start ≡ Some w) image (λ i h. ap readable h) there) e

pub hash_begins_broken : {A B : Type 0} (v : A → List ℕ) (u : B → List ℕ) (image : Option Image) (shape : HShape) (audit head : ℕ) (stop : WalkStop) →
    WalksAs v (λ i. passed {X = ℕ} [] (one_taken (asked_at audit head) None (vword i (at_offset head shape.first)))) image (Err stop) → IsWalkOf u (hashes shape audit head) image (Err stop)
hash_begins_broken v u image shape audit head stop e = told_begins_broken v u (hashes shape audit head) image stop e

pub hash_goes : {A : Type 0} (v : A → List ℕ) (image : Option Image) (shape : HShape) (audit head : ℕ) (taken walked : List ℕ) (from : VWord) (x : A) (p : VWord × VWord) →
    Reaches (hashes shape audit head) image taken walked from → nat_eq from.value 0 ≡ false → IfSome image (λ i. hash_links (vword i) shape from.value ≡ Ok p) →
    WalksAs v (λ i. passed taken (hash_site (asked_at audit head) (hash_links (vword i) shape from.value) from)) image (Ok x) →
    Reaches (hashes shape audit head) image (v x) (walked ++ from.value ∷ []) p.0
hash_goes v image shape audit head taken walked from x p r inner there e =
    told_goes v (hashes shape audit head) image taken walked from p.0 from.value x (hashes_are shape audit head) r (λ i. inner) (λ i. refl)
    (if_some (λ (i : Image). hash_links (vword i) shape from.value ≡ Ok p) (λ (i : Image). (hashes shape audit head i).next from ≡ Some p.0) image
    (λ i h. leads_by (hash_links (vword i) shape from.value) next_of p h) there) e

pub hash_goes_broken : {A B : Type 0} (v : A → List ℕ) (u : B → List ℕ) (image : Option Image) (shape : HShape) (audit head : ℕ) (taken walked : List ℕ) (from : VWord) (stop : WalkStop) →
    Reaches (hashes shape audit head) image taken walked from → nat_eq from.value 0 ≡ false →
    WalksAs v (λ i. passed taken (hash_site (asked_at audit head) (hash_links (vword i) shape from.value) from)) image (Err stop) → IsWalkOf u (hashes shape audit head) image (Err stop)
hash_goes_broken v u image shape audit head taken walked from stop r inner e = told_goes_broken v u (hashes shape audit head) image taken walked from stop r (λ i. inner) e

pub hash_ends : {B : Type 0} (u : B → List ℕ) (image : Option Image) (shape : HShape) (audit head : ℕ) (taken : List ℕ) (x : B) (from : VWord) →
    Reaches (hashes shape audit head) image taken (u x) from → nat_eq from.value 0 ≡ true → IsWalkOf u (hashes shape audit head) image (Ok x)
hash_ends u image shape audit head taken x from r null = told_ends u (hashes shape audit head) image taken x from (hashes_are shape audit head) r (λ i. null) (λ i. refl)

-- what a walk without a violation says, and one with a violation
pub hash_finite : {B : Type 0} (u : B → List ℕ) (image : Option Image) (shape : HShape) (audit head : ℕ) (x : B) → IsWalkOf u (hashes shape audit head) image (Ok x) → IfSome image (λ i. HChain (vword i) shape head (u x))
hash_finite u None shape audit head x e = tt
hash_finite u (Some i) shape audit head x e =
    hashed_of_whole (vword i) shape (asked_at audit head) (u x) (reads_there i)
    (whole_of_walk i.physical (hashes shape audit head i) (words_of (vword i) shape.next shape.pprev) (u x) (hashes_are shape audit head i) (hash_words (vword i) shape (asked_at audit head)) e)

pub hash_walked : (i : Image) (shape : HShape) (audit head : ℕ) (ns : List ℕ) → HChain (vword i) shape head ns → hash_walk i shape audit head ≡ Ok ns
hash_walked i shape audit head ns h =
    walk_of_whole i.physical (hashes shape audit head i) (words_of (vword i) shape.next shape.pprev) ns (hashes_are shape audit head i) (hash_words (vword i) shape (asked_at audit head))
    (whole_of_hashed (vword i) shape (asked_at audit head) ns (reads_there i) h)

unwalked : (i : Image) (shape : HShape) (audit head : ℕ) (f : Violation) → hash_walk i shape audit head ≡ Err f → (ns : List ℕ) → HChain (vword i) shape head ns → ⊥
unwalked i shape audit head f e ns h = let ok = hash_walked i shape audit head ns h in cc

pub hash_none : {B : Type 0} (u : B → List ℕ) (image : Option Image) (shape : HShape) (audit head : ℕ) (stop : WalkStop) → IsWalkOf u (hashes shape audit head) image (Err stop) →
    OnBroken {A = B} (Err stop) (IfSome image (λ i. (ns : List ℕ) → HChain (vword i) shape head ns → ⊥))
hash_none u None shape audit head (ends.Broken f) e = tt
hash_none u (Some i) shape audit head (ends.Broken f) e = unwalked i shape audit head f e
hash_none u image shape audit head ends.Fault e = tt
hash_none u image shape audit head ends.NoMemory e = tt
