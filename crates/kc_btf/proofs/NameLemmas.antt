-- A name that is compared without going through all of another.
use Rattle.std.proofs.Common.{◌≡◌, ℕ, zero, suc, ◌+◌, Bool, true, false, List, [], ◌∷◌, length, take, min, bytes_eq, ◌==◌, ◌&&◌, refl, ap, ◌∙◌, if◌then◌else◌, arith}
use Rattle.std.specs.List.{before_first, position_or_len}
use Rattle.std.proofs.lemmas.List.{take_min}

one_more : (n : ℕ) → 1 + n ≡ suc n
one_more n = omega arith

more_by_one : (n : ℕ) → n + 1 ≡ suc n
more_by_one n = omega arith

first_is : (p : ℕ → Bool) (c : ℕ) (cs : List ℕ) (b : Bool) → p c ≡ b → before_first p (c ∷ cs) ≡ (if b then [] else c ∷ before_first p cs)
first_is p c cs true is = rw is refl
first_is p c cs false is = rw is (ap (λ n. take n (c ∷ cs)) (one_more (position_or_len p cs)))

window_by : (p : ℕ → Bool) (c : ℕ) (cs name : List ℕ) (b : Bool) → p c ≡ b
    → ((n : ℕ) (ns : List ℕ) → name ≡ n ∷ ns → bytes_eq (before_first p (take (suc (length ns)) cs)) ns ≡ bytes_eq (before_first p cs) ns)
    → bytes_eq (before_first p (c ∷ take (length name) cs)) name ≡ bytes_eq (before_first p (c ∷ cs)) name
window_by p c cs name true is inner = rw (first_is p c (take (length name) cs) true is, first_is p c cs true is) refl
window_by p c cs [] false is inner = rw (first_is p c (take 0 cs) false is, first_is p c cs false is) refl
window_by p c cs (n ∷ ns) false is inner =
    rw (first_is p c (take (length (n ∷ ns)) cs) false is, first_is p c cs false is) (ap (λ e. (c == n) && e) (inner n ns refl))

-- one byte more than a name has tells whether it stands before the first that passes
window_tells : (p : ℕ → Bool) (text name : List ℕ) → bytes_eq (before_first p (take (suc (length name)) text)) name ≡ bytes_eq (before_first p text) name
window_tells p [] name = refl
window_tells p (c ∷ cs) name = window_by p c cs name (p c) refl (λ n ns is. window_tells p cs ns)

pub window_is_enough : (text name : List ℕ) → bytes_eq (before_first (λ c. c == 0) (take (min (length name + 1) (length text)) text)) name ≡ bytes_eq (before_first (λ c. c == 0) text) name
window_is_enough text name =
    ap (λ window. bytes_eq (before_first (λ c. c == 0) window) name) (take_min (length name + 1) text ∙ ap (λ n. take n text) (more_by_one (length name)))
    ∙ window_tells (λ c. c == 0) text name

start_by : (p : ℕ → Bool) (c : ℕ) (cs : List ℕ) (n : ℕ) (b : Bool) → p c ≡ b → before_first p (take n cs) ≡ take n (before_first p cs)
    → before_first p (c ∷ take n cs) ≡ take (suc n) (before_first p (c ∷ cs))
start_by p c cs n true is inner = rw (first_is p c (take n cs) true is, first_is p c cs true is) refl
start_by p c cs n false is inner = rw (first_is p c (take n cs) false is, first_is p c cs false is) (ap (λ e. c ∷ e) inner)

-- the first bytes of a text before what passes are the first of those before it
start_of_start : (p : ℕ → Bool) (n : ℕ) (text : List ℕ) → before_first p (take n text) ≡ take n (before_first p text)
start_of_start p zero text = refl
start_of_start p (suc n) [] = refl
start_of_start p (suc n) (c ∷ cs) = start_by p c cs n (p c) refl (start_of_start p n cs)

pub start_before : (text : List ℕ) (n : ℕ) → before_first (λ c. c == 0) (take (min n (length text)) text) ≡ take n (before_first (λ c. c == 0) text)
start_before text n = ap (λ window. before_first (λ c. c == 0) window) (take_min n text) ∙ start_of_start (λ c. c == 0) n text
