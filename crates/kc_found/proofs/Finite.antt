-- Lists of words that can be read.
use Rattle.std.proofs.Common.{◌≡◌, ℕ, Bool, true, false, List, [], ◌∷◌, ◌++◌, Option, None, Some, refl, sym, ◌∙◌, ap}
use Rattle.std.specs.Prelude.{Result, Ok, Err, not, ◌||◌, map, reverse}
use Rattle.std.proofs.lemmas.List.{map-append, reverse-append}
use Rattle.kc_memory.specs.declared.words.VWord.{VWord}
use Rattle.kc_memory.specs.Stopped.{Stopped}
use Rattle.kc_found.specs.FiniteLists.{value_of, values, words_of}
use Rattle.kc_found.specs.Nodes.{at_offset, node_words}
use Rattle.kc_found.specs.Trials.{Reader, broken_if, IsUnbroken}
use Rattle.kc_found.specs.Violations.{Violation}
use Rattle.kc_found.proofs.Pairs.{both_read}

pub not_false : (b : Bool) → not b ≡ false → b ≡ true
not_false true e = refl
not_false false e = absurd (cc)

pub not_true : (b : Bool) → not b ≡ true → b ≡ false
not_true false e = refl
not_true true e = absurd (cc)

pub or_false : (a b : Bool) → not (a || b) ≡ true → (a ≡ false) × (not b ≡ true)
or_false true b e = absurd (cc)
or_false false b e = (refl, e)

pub if_only : (b : Bool) (v : Violation) → IsUnbroken {X = ℕ} (broken_if b v) → b ≡ false
if_only true v u = absurd u
if_only false v u = refl

-- the words of a node before those of others
pub words_at : (read : Reader) (first second n : ℕ) (ns : List ℕ) (p : VWord × VWord) → node_words read first second n ≡ Ok p → words_of read first second (n ∷ ns) ≡ p.0.pa ∷ p.1.pa ∷ words_of read first second ns
words_at read first second n ns p e = let b = both_read read (at_offset n first) (at_offset n second) p e in rw (b.0, b.1) refl

-- a word that holds a number can be read
pub some_word : (r : Result VWord Stopped) (v : ℕ) (xs ys : List (Option ℕ)) → value_of r ∷ xs ≡ Some v ∷ ys → (w : VWord) × (r ≡ Ok w) × (w.value ≡ v) × (xs ≡ ys)
some_word (Ok w) v xs ys e = (w, refl, cc, cc)
some_word (Err m) v xs ys e = absurd (cc)

pub first_of : (ns : List ℕ) (h : ℕ) → (v : ℕ) × (ys : List (Option ℕ)) × (map Some (ns ++ h ∷ []) ≡ Some v ∷ ys)
first_of [] h = (h, [], refl)
first_of (n ∷ ns) h = (n, map Some (ns ++ h ∷ []), refl)

none_among : (xs : List (Option ℕ)) (ys : List ℕ) → xs ++ None ∷ [] ≡ map Some ys → ⊥
none_among [] [] e = cc
none_among [] (y ∷ ys) e = cc
none_among (x ∷ xs) [] e = cc
none_among (x ∷ xs) (y ∷ ys) e = let more : xs ++ None ∷ [] ≡ map Some ys = cc in none_among xs ys more

pub snoc_some : (r : Result VWord Stopped) (xs : List (Option ℕ)) (ys : List ℕ) → xs ++ value_of r ∷ [] ≡ map Some ys → (w : VWord) × (r ≡ Ok w)
snoc_some (Ok w) xs ys e = (w, refl)
snoc_some (Err m) xs ys e = absurd (none_among xs ys e)

map_reverse : {A B : Type 0} (f : A → B) (xs : List A) → map f (reverse xs) ≡ reverse (map f xs)
map_reverse f [] = refl
map_reverse f (x ∷ xs) = ap (map f) (reverse-append (x ∷ []) xs) ∙ map-append f (reverse xs) (x ∷ []) ∙ ap (λ ys. ys ++ f x ∷ []) (map_reverse f xs) ∙ sym (reverse-append (f x ∷ []) (map f xs))

-- the way back, from its end
pub turned : (read : Reader) (offset head : ℕ) (ns : List ℕ) → values read offset (head ∷ reverse ns) ≡ reverse (values read offset ns ++ value_of (read (at_offset head offset)) ∷ [])
turned read offset head ns = ap (λ xs. value_of (read (at_offset head offset)) ∷ xs) (map_reverse (λ n. value_of (read (at_offset n offset))) ns) ∙ sym (reverse-append (values read offset ns) (value_of (read (at_offset head offset)) ∷ []))

pub turned_some : (head : ℕ) (ns : List ℕ) → map Some (reverse ns ++ head ∷ []) ≡ reverse (map Some (head ∷ ns))
turned_some head ns = ap (map Some) (sym (reverse-append (head ∷ []) ns)) ∙ map_reverse Some (head ∷ ns)
