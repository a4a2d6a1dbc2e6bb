-- The words taken, by rising address, after one more.
use Rattle.std.proofs.Common.{◌≡◌, ℕ, ◌+◌, nat_eq, Bool, true, false, List, [], ◌∷◌, length, Ordering, Less, Equal, Greater, refl, ◌∙◌, arith}
use Rattle.std.specs.Prelude.{◌||◌}
use Rattle.std.specs.BTreeMap.{is_at}
use Rattle.std.specs.Cmp.{nat_eq_equiv, unsigned_tied}
use Rattle.std.specs.List.{IsDistinct, AllByRecursion, list_any}
use Rattle.std.specs.Ordering.{is_eq, match_ordering, nat_cmp}
use Rattle.kc_found.specs.Taken.{is_taken, with_word}

-- a set finds a word by the order of the addresses
pub found_by_order : (xs : List ℕ) (x : ℕ) → list_any (is_at (nat_cmp x)) xs ≡ is_taken xs x
found_by_order [] x = refl
found_by_order (y ∷ ys) x = rw (unsigned_tied x y, found_by_order ys x) refl

neither : (a b : Bool) → (a || b) ≡ false → (a ≡ false) × (b ≡ false)
neither true b e = absurd (cc)
neither false b e = (refl, e)

-- it isn't the first, and not among the others
parts : (x : ℕ) (xs : List ℕ) (p : ℕ) → is_taken (x ∷ xs) p ≡ false → (nat_eq p x ≡ false) × (is_taken xs p ≡ false)
parts x xs p new = neither (nat_eq p x) (is_taken xs p) new

-- a word that isn't the first stands before it, or further on
stands_by : (C : List ℕ → Type 0) (o : Ordering) (x p : ℕ) (xs more : List ℕ) → is_eq o ≡ false → C (p ∷ x ∷ xs) → C (x ∷ more) → C (match_ordering o (p ∷ x ∷ xs) (x ∷ xs) (x ∷ more))
stands_by C Less x p xs more other before after = before
stands_by C Equal x p xs more other before after = absurd (cc)
stands_by C Greater x p xs more other before after = after

stands : (C : List ℕ → Type 0) (x p : ℕ) (xs : List ℕ) → nat_eq p x ≡ false → C (p ∷ x ∷ xs) → C (x ∷ with_word xs p) → C (with_word (x ∷ xs) p)
stands C x p xs other before after = stands_by C (nat_cmp p x) x p xs (with_word xs p) (unsigned_tied p x ∙ other) before after

pub one_longer : (xs : List ℕ) (p : ℕ) → is_taken xs p ≡ false → length (with_word xs p) ≡ length xs + 1
one_longer [] p new = refl
one_longer (x ∷ xs) p new =
    let apart = parts x xs p new in
    let rest = one_longer xs p apart.1 in
    stands (λ ys. length ys ≡ length (x ∷ xs) + 1) x p xs apart.0 (omega arith) (omega (arith, rest))

-- what holds of each of them and of one more holds of all
pub all_with : (P : ℕ → Type 0) (xs : List ℕ) (p : ℕ) → is_taken xs p ≡ false → AllByRecursion P xs → P p → AllByRecursion P (with_word xs p)
all_with P [] p new all here = (here, tt)
all_with P (x ∷ xs) p new all here =
    let apart = parts x xs p new in
    stands (AllByRecursion P) x p xs apart.0 (here, all) (all.0, all_with P xs p apart.1 all.1 here)

-- and the other way round
pub all_without : (P : ℕ → Type 0) (xs : List ℕ) (p : ℕ) → is_taken xs p ≡ false → AllByRecursion P (with_word xs p) → P p × AllByRecursion P xs
all_without P [] p new all = (all.0, tt)
all_without P (x ∷ xs) p new all =
    let apart = parts x xs p new in
    stands (λ ys. AllByRecursion P ys → P p × AllByRecursion P (x ∷ xs)) x p xs apart.0 (λ h. (h.0, h.1)) (λ h. let rest = all_without P xs p apart.1 h.1 in (rest.0, (h.0, rest.1))) all

-- a word isn't among others that differ from it
pub each_differs : (xs : List ℕ) (p : ℕ) → is_taken xs p ≡ false → AllByRecursion (λ x. nat_eq p x ≡ false) xs
each_differs [] p new = tt
each_differs (x ∷ xs) p new = let apart = parts x xs p new in (apart.0, each_differs xs p apart.1)

pub not_among : (xs : List ℕ) (p : ℕ) → AllByRecursion (λ x. nat_eq p x ≡ false) xs → is_taken xs p ≡ false
not_among [] p all = refl
not_among (x ∷ xs) p all = rw (all.0) (not_among xs p all.1)

-- one more word keeps them different
pub still_distinct : (xs : List ℕ) (p : ℕ) → is_taken xs p ≡ false → IsDistinct nat_eq xs → IsDistinct nat_eq (with_word xs p)
unfolding IsDistinct
still_distinct [] p new d = (tt, tt)
still_distinct (x ∷ xs) p new d =
    let apart = parts x xs p new in
    stands (IsDistinct nat_eq) x p xs apart.0 (each_differs (x ∷ xs) p new, d) (all_with (λ y. nat_eq x y ≡ false) xs p apart.1 d.0 (nat_eq_equiv.symm x p ∙ apart.0), still_distinct xs p apart.1 d.1)

-- which words are new after one more
pub new_before : (xs : List ℕ) (p q : ℕ) → is_taken xs p ≡ false → is_taken (with_word xs p) q ≡ false → (nat_eq p q ≡ false) × (is_taken xs q ≡ false)
new_before xs p q new is =
    let both = all_without (λ x. nat_eq q x ≡ false) xs p new (each_differs (with_word xs p) q is) in
    (nat_eq_equiv.symm p q ∙ both.0, not_among xs q both.1)

pub new_after : (xs : List ℕ) (p q : ℕ) → is_taken xs p ≡ false → nat_eq p q ≡ false → is_taken xs q ≡ false → is_taken (with_word xs p) q ≡ false
new_after xs p q new other is = not_among (with_word xs p) q (all_with (λ x. nat_eq q x ≡ false) xs p new (each_differs xs q is) (nat_eq_equiv.symm q p ∙ other))
