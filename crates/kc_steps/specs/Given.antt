-- Chains whose lists are given: each takes the first list that is there, where a test of it is true.
use Rattle.std.specs.Prelude.{◌≡◌, ℕ, Bool, true, if◌then◌else◌, List, [], ◌∷◌, None, Ok, Err}
use Rattle.kc_memory.specs.declared.rule.Rule.{Rule}
use Rattle.kc_memory.specs.declared.rule.Rule.TheVariants.{H1, L1, U5}
use Rattle.kc_memory.specs.Bits.{Number}
use Rattle.kc_memory.specs.Image.{Image}
use Rattle.kc_found.specs.declared.asked.Asked.{Asked}
use Rattle.kc_found.specs.declared.free.Grid.{Grid}
use Rattle.kc_found.specs.declared.shapes.HShape.{HShape}
use Rattle.kc_found.specs.declared.shapes.ListShape.{ListShape}
use Rattle.kc_found.specs.FreeLists.{IsGrid, free_list, low_word}
use Rattle.kc_found.specs.HashChains.{hash_walk}
use Rattle.kc_found.specs.Rings.{ring_walk}
use Rattle.kc_found.specs.Violations.{Violation}
use Rattle.kc_steps.specs.Chains.{Came, FreeBy, HashBy, Lists, RingBy, TakesFree, TakesHashes, TakesRings}

-- A list that isn't there, or doesn't pass, is told as a violation that no word shows: of L1 at the ring's head, of H1 at the hash
-- chain's, of U5 at the first pointer of the free list.
abbrev pub misfit : Asked → Rule → ℕ → Violation
misfit asked rule at = record {
  audit = asked.audit;
  start = asked.start;
  rule = rule;
  at = at;
  expected = None;
  stop = None;
  places = [];
}

abbrev pub taken_if : (List ℕ → Bool) → Violation → Lists → Came (List ℕ)
taken_if test v [] = Err v
taken_if test v (ns ∷ rest) = if test ns then Ok (ns, rest) else Err v

abbrev pub ring_given : (ListShape → ℕ → List ℕ → Bool) → RingBy
ring_given test asked shape head lists = taken_if (test shape head) (misfit asked L1 head) lists

abbrev pub free_given : (Grid → Number → List ℕ → Bool) → FreeBy
free_given test asked grid first lists = taken_if (test grid first) (misfit asked U5 (low_word first.value)) lists

abbrev pub hash_given : (HShape → ℕ → List ℕ → Bool) → HashBy
hash_given test asked shape head lists = taken_if (test shape head) (misfit asked H1 head) lists

-- a test is true exactly of the nodes of the ring with a head
abbrev pub TestsRings : Image → (ListShape → ℕ → List ℕ → Bool) → Type 0
TestsRings image test =
    (shape : ListShape) (audit head : ℕ) (ns : List ℕ)
    → (test shape head ns ≡ true → ring_walk image shape audit head ≡ Ok ns) × (ring_walk image shape audit head ≡ Ok ns → test shape head ns ≡ true)

-- and of the objects of the free list on a grid
abbrev pub TestsFree : Image → (Grid → Number → List ℕ → Bool) → Type 0
TestsFree image test =
    (grid : Grid) (first : Number) (asked : Asked) (os : List ℕ) → IsGrid grid
    → (test grid first os ≡ true → free_list image grid first asked ≡ Ok os) × (free_list image grid first asked ≡ Ok os → test grid first os ≡ true)

-- and of the nodes of the hash chain with a head
abbrev pub TestsHashes : Image → (HShape → ℕ → List ℕ → Bool) → Type 0
TestsHashes image test =
    (shape : HShape) (audit head : ℕ) (ns : List ℕ)
    → (test shape head ns ≡ true → hash_walk image shape audit head ≡ Ok ns) × (hash_walk image shape audit head ≡ Ok ns → test shape head ns ≡ true)

-- so the lists that are taken are those of the walks
abbrev pub GivenRingsAreTaken : Type 0
GivenRingsAreTaken = (image : Image) (test : ListShape → ℕ → List ℕ → Bool) → TestsRings image test → TakesRings image (ring_given test)

abbrev pub GivenFreeAreTaken : Type 0
GivenFreeAreTaken = (image : Image) (test : Grid → Number → List ℕ → Bool) → TestsFree image test → TakesFree image (free_given test)

abbrev pub GivenHashesAreTaken : Type 0
GivenHashesAreTaken = (image : Image) (test : HShape → ℕ → List ℕ → Bool) → TestsHashes image test → TakesHashes image (hash_given test)
