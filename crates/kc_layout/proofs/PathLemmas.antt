-- The steps of a path, one by one.
use Rattle.std.proofs.Common.{◌≡◌, ℕ, zero, suc, ◌+◌, ◌-◌, ◌<◌, ◌≤◌, Bool, true, false, List, [], ◌∷◌, length, ◌==◌, Option, Some, None, option_map, is_some, not, cond, nat_lt, nat_eq, ap, ◌∙◌, sym, refl, arith}
use Rattle.std.specs.Prelude.{position}
use Rattle.std.specs.List.{position_or_len}
use Rattle.std.proofs.lemmas.Bool.Decides.{nat_tests}
use Rattle.std.proofs.lemmas.List.Sums.{prefix_len-le-length}
use Rattle.kc_layout.specs.Path.{Step, Cut, cut, steps_from}

-- the end of a text's first part
chosen : (b : Bool) (n k : ℕ) → Some n ≡ cond b (Some k) None → n ≡ k
chosen true n k is = cc
chosen false n k is = let none : ⊥ = cc in absurd none

unchosen : (b : Bool) (k : ℕ) → None ≡ cond b (Some k) None → b ≡ false
unchosen true k is = let none : ⊥ = cc in absurd none
unchosen false k is = refl

pub position_or_len-Some : {X : Type 0} (p : X → Bool) (xs : List X) (n : ℕ) → Some n ≡ position p xs → n ≡ position_or_len p xs
position_or_len-Some p xs n is = chosen (nat_lt (position_or_len p xs) (length xs)) n (position_or_len p xs) is

pub position_or_len-None : {X : Type 0} (p : X → Bool) (xs : List X) → None ≡ position p xs → length xs ≡ position_or_len p xs
position_or_len-None p xs is =
    let end : nat_lt (position_or_len p xs) (length xs) ≡ false = unchosen (nat_lt (position_or_len p xs) (length xs)) (position_or_len p xs) is in
    let within : position_or_len p xs ≤ length xs = prefix_len-le-length (λ x. not (p x)) xs in
    grind (arith, nat_tests)

-- at the end of the text no step is left
pub steps-empty : (most : ℕ) (first : Bool) (text : List ℕ) → (length text == 0) ≡ true → steps_from most first text ≡ Some []
unfolding steps_from
steps-empty zero first [] empty = refl
steps-empty (suc most) first [] empty = refl
steps-empty most first (c ∷ cs) empty = absurd (grind (arith, nat_tests))

-- a text that goes on with no step
pub steps-stop : (most : ℕ) (first : Bool) (text : List ℕ) → (length text == 0) ≡ false → None ≡ cut first text → steps_from most first text ≡ None
unfolding steps_from
steps-stop most first [] more stop = absurd (grind (arith, nat_tests))
steps-stop zero first (c ∷ cs) more stop = refl
steps-stop (suc most) first (c ∷ cs) more stop = rw (← stop) refl

-- a step, and those behind it
pub steps-next : (most : ℕ) (first : Bool) (text : List ℕ) (here : Cut) → 0 < most → (length text == 0) ≡ false → Some here ≡ cut first text →
    steps_from most first text ≡ option_map (λ more. here.step ∷ more) (steps_from (most - 1) false here.rest)
unfolding steps_from
steps-next most first [] here some more is = absurd (grind (arith, nat_tests))
steps-next zero first (c ∷ cs) here some more is = absurd (omega arith)
steps-next (suc most) first (c ∷ cs) here some more is =
    let one : suc most - 1 ≡ most = omega arith in
    rw (one, ← is) refl

-- no more steps may come
pub steps-full : (most : ℕ) (first : Bool) (text : List ℕ) → most ≡ 0 → (length text == 0) ≡ is_some (steps_from most first text)
unfolding steps_from
steps-full zero first [] full = refl
steps-full zero first (c ∷ cs) full = grind (arith, nat_tests)
steps-full (suc most) first text full = absurd (omega arith)

-- a step is cut off some text
pub some_text : (first : Bool) (text : List ℕ) (here : Cut) → Some here ≡ cut first text → (length text == 0) ≡ false
some_text true [] here is = let none : ⊥ = cc in absurd none
some_text false [] here is = let none : ⊥ = cc in absurd none
some_text first (c ∷ cs) here is = grind (arith, nat_tests)

-- the same, where so many steps were taken
pub steps-after : (taken : ℕ) (first : Bool) (text : List ℕ) (here : Cut) → taken < 256 → Some here ≡ cut first text →
    steps_from (256 - taken) first text ≡ option_map (λ more. here.step ∷ more) (steps_from (256 - (taken + 1)) (nat_eq (taken + 1) 0) here.rest)
steps-after taken first text here some is =
    let fewer : 256 - (taken + 1) ≡ 256 - taken - 1 = omega arith in
    let later : nat_eq (taken + 1) 0 ≡ false = grind (arith, nat_tests) in
    rw (fewer, later) (steps-next (256 - taken) first text here (omega arith) (some_text first text here is) is)

is_some-map : {X Y : Type 0} (f : X → Y) (o : Option X) → is_some (option_map f o) ≡ is_some o
is_some-map f None = refl
is_some-map f (Some x) = refl

pub is_some-next : (taken : ℕ) (first : Bool) (text : List ℕ) (here : Cut) → taken < 256 → Some here ≡ cut first text →
    is_some (steps_from (256 - (taken + 1)) (nat_eq (taken + 1) 0) here.rest) ≡ is_some (steps_from (256 - taken) first text)
is_some-next taken first text here some is =
    sym (ap (λ (o : Option (List Step)). is_some o) (steps-after taken first text here some is) ∙ is_some-map (λ more. here.step ∷ more) (steps_from (256 - (taken + 1)) (nat_eq (taken + 1) 0) here.rest))

-- where a path goes on with no step, it is at its end
pub steps-ended : (most : ℕ) (first : Bool) (text : List ℕ) → is_some (steps_from most first text) ≡ true → None ≡ cut first text → steps_from most first text ≡ Some []
steps-ended most first [] path stop = steps-empty most first [] refl
steps-ended most first (c ∷ cs) path stop =
    let none : is_some (steps_from most first (c ∷ cs)) ≡ false = rw (steps-stop most first (c ∷ cs) (grind (arith, nat_tests)) stop) refl in
    let wrong : ⊥ = cc in absurd wrong

pub steps-all : (most : ℕ) (first : Bool) (text : List ℕ) → most ≡ 0 → is_some (steps_from most first text) ≡ true → steps_from most first text ≡ Some []
steps-all most first text full path = steps-empty most first text (steps-full most first text full ∙ path)
