-- A chain whose elements are a finite list.
use Rattle.std.proofs.Common.{◌≡◌, ℕ, nat_eq, true, false, List, [], ◌∷◌, ◌++◌, Some}
use Rattle.std.specs.List.{IsDistinct}
use Rattle.kc_found.specs.Chains.{ChainOf}
use Rattle.kc_found.specs.Trials.{claimed_in, IsUnbroken}

-- these are the elements from here to the end, and no rule but A is broken at their sites
unfoldable pub Linked : {S : Type 0} → ChainOf S → S → List ℕ → Type 0
Linked k s [] = (k.ends s ≡ true) × IsUnbroken (k.last s)
Linked {S} k s (n ∷ ns) = (k.ends s ≡ false) × (k.element s ≡ n) × IsUnbroken (k.site s) × ((t : S) × (k.next s ≡ Some t) × Linked k t ns)

-- the words that the sites of some elements take
pub record HasWords {S : Type 0} (k : ChainOf S) (words : List ℕ → List ℕ) : Type 0 where
  pub none : words [] ≡ []
  pub more : (s : S) (ns : List ℕ) → IsUnbroken (k.site s) → words (k.element s ∷ ns) ≡ claimed_in (k.site s) ++ words ns

-- these are all elements of the chain, and each word is taken once
pub record Whole {S : Type 0} (k : ChainOf S) (words : List ℕ → List ℕ) (ns : List ℕ) : Type 0 where
  pub from : S
  pub start : k.start ≡ Some from
  pub head : IsUnbroken k.head
  pub linked : Linked k from ns
  pub different : IsDistinct nat_eq (claimed_in k.head ++ words ns)
