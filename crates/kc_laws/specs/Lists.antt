-- Lists of nodes, and what their words hold.
use Rattle.std.proofs.Common.{◌≡◌, ℕ, Bool, true, false, List, [], ◌∷◌, ◌++◌, Option, Some}
use Rattle.std.specs.Prelude.{Result, Ok, not, ◌||◌, map, reverse}
use Rattle.kc_memory.specs.declared.words.VWord.{VWord}
use Rattle.kc_memory.specs.Stopped.{Stopped}
use Rattle.kc_found.specs.FiniteLists.{value_of, values, words_of}
use Rattle.kc_found.specs.Nodes.{at_offset, node_words}
use Rattle.kc_found.specs.Trials.{Reader}
use Rattle.kc_found.proofs.Finite as finite

pub not_false : (b : Bool) → not b ≡ false → b ≡ true
not_false = finite.not_false

pub not_true : (b : Bool) → not b ≡ true → b ≡ false
not_true = finite.not_true

pub or_false : (a b : Bool) → not (a || b) ≡ true → (a ≡ false) × (not b ≡ true)
or_false = finite.or_false

-- the words of the first element, and then those of the others
pub words_at : (read : Reader) (first second n : ℕ) (ns : List ℕ) (p : VWord × VWord) → node_words read first second n ≡ Ok p → words_of read first second (n ∷ ns) ≡ p.0.pa ∷ p.1.pa ∷ words_of read first second ns
words_at = finite.words_at

-- where a list of what words hold is a list of numbers, the first word is read and holds the first number
pub some_word : (r : Result VWord Stopped) (v : ℕ) (xs ys : List (Option ℕ)) → value_of r ∷ xs ≡ Some v ∷ ys → (w : VWord) × (r ≡ Ok w) × (w.value ≡ v) × (xs ≡ ys)
some_word = finite.some_word

-- a list with one element after it has a first
pub first_of : (ns : List ℕ) (h : ℕ) → (v : ℕ) × (ys : List (Option ℕ)) × (map Some (ns ++ h ∷ []) ≡ Some v ∷ ys)
first_of = finite.first_of

-- and the last word is read
pub snoc_some : (r : Result VWord Stopped) (xs : List (Option ℕ)) (ys : List ℕ) → xs ++ value_of r ∷ [] ≡ map Some ys → (w : VWord) × (r ≡ Ok w)
snoc_some = finite.snoc_some

-- what the nodes hold in turned order, from the head on, is what they hold in their order and then the head, turned
pub turned : (read : Reader) (offset head : ℕ) (ns : List ℕ) → values read offset (head ∷ reverse ns) ≡ reverse (values read offset ns ++ value_of (read (at_offset head offset)) ∷ [])
turned = finite.turned

-- and so are the nodes themselves
pub turned_some : (head : ℕ) (ns : List ℕ) → map Some (reverse ns ++ head ∷ []) ≡ reverse (map Some (head ∷ ns))
turned_some = finite.turned_some
