-- That the tree holds each key once, in order.
use Rattle.std.proofs.Common.{◌≡◌, ◌⊎◌, ℕ, zero, suc, ◌+◌, ◌-◌, ◌*◌, ◌/◌, ◌^◌, ◌<◌, ◌≤◌, Bool, true, false, nat_lt, List, [], ◌∷◌, ◌++◌, length, map, flat_map, Option, Some, None, refl, sym, ap, ◌∙◌, arith, inl, inr, add-one}
use Rattle.std.specs.List.{range_with_len}
use Rattle.std.proofs.Math.Nat.{pow-suc}
use Rattle.std.proofs.lemmas.Bool.{ltb-true, lt-ltb}
use Rattle.std.proofs.lemmas.Bool.Decides.{leb_tells}
use Rattle.std.proofs.lemmas.List.{length-append, length-map, map-append}
use Rattle.std.proofs.lemmas.List.FromFn.{length-range_with_len}
use Rattle.kc_gen.specs.declared.items.Knot.{Knot}
use Rattle.kc_gen.specs.Items.{depth, item_bytes, items, knot_over, middle, tree}
use Rattle.kc_gen.specs.Laws.{HoldsEachKey, ItemsFill}
use Rattle.kc_gen.specs.Least.{least}

abbrev keys : List Knot → List ℕ
keys knots = map (λ (knot : Knot). knot.key) knots

-- numbers and those after them
range_joins : (a x y : ℕ) → range_with_len a x ++ range_with_len (a + x) y ≡ range_with_len a (x + y)
range_joins a zero y = let same : a + 0 ≡ a = omega arith in let all : 0 + y ≡ y = omega arith in rw (same, all) refl
range_joins a (suc x) y =
    let next : a + suc x ≡ a + 1 + x = omega arith in
    let all : suc x + y ≡ suc (x + y) = omega arith in
    rw (next, all) (ap (λ l. a ∷ l) (range_joins (a + 1) x y))

-- the middle parts the keys in two halves, and itself
below_middle : (below lo hi : ℕ) → lo < hi → hi - lo < 2 ^ suc below → middle lo hi - lo < 2 ^ below
below_middle below lo hi some few = let twice : 2 ^ suc below ≡ 2 ^ below * 2 = pow-suc 2 below in omega (arith, twice, few)

above_middle : (below lo hi : ℕ) → lo < hi → hi - lo < 2 ^ suc below → hi - (middle lo hi + 1) < 2 ^ below
above_middle below lo hi some few = let twice : 2 ^ suc below ≡ 2 ^ below * 2 = pow-suc 2 below in omega (arith, twice, few)

halves : (lo hi : ℕ) → lo < hi
    → range_with_len lo (middle lo hi - lo) ++ middle lo hi ∷ range_with_len (middle lo hi + 1) (hi - (middle lo hi + 1)) ≡ range_with_len lo (hi - lo)
halves lo hi some =
    let first : lo + (middle lo hi - lo) ≡ middle lo hi = omega arith in
    let all : (middle lo hi - lo) + suc (hi - (middle lo hi + 1)) ≡ hi - lo = omega arith in
    ap (λ m. range_with_len lo (middle lo hi - lo) ++ range_with_len m (suc (hi - (middle lo hi + 1)))) (sym first)
    ∙ range_joins lo (middle lo hi - lo) (suc (hi - (middle lo hi + 1))) ∙ ap (range_with_len lo) all

tree_keys : (levels lo hi : ℕ) (parent : Option ℕ) → hi - lo < 2 ^ levels → keys (tree levels lo hi parent) ≡ range_with_len lo (hi - lo)
tree_keys zero lo hi parent few = let none : hi - lo ≡ 0 = omega arith in rw none refl
tree_keys (suc below) lo hi parent few =
    elim (leb_tells (suc lo) hi) [
      | inl some ↦
          rw (some.0, map-append, tree_keys below lo (middle lo hi) (Some (middle lo hi)) (below_middle below lo hi some.1 few), tree_keys below (middle lo hi + 1) hi (Some (middle lo hi)) (above_middle below lo hi some.1 few))
          (halves lo hi some.1)
      | inr none ↦ let zero : hi - lo ≡ 0 = omega arith in rw (none.0, zero) refl
    ]

decided : (b : Bool) → (b ≡ true) ⊎ (b ≡ false)
decided true = inl refl
decided false = inr refl

-- a number that passes is found where the last one passes
least_passes : (passes : ℕ → Bool) (more k : ℕ) → passes (k + more) ≡ true → passes (least passes more k) ≡ true
least_passes passes zero k last = let same : k + 0 ≡ k = omega arith in rw same at last
least_passes passes (suc more) k last =
    let next : k + suc more ≡ k + 1 + more = omega arith in
    elim (decided (passes k)) [
      | inl is ↦ rw is is
      | inr not ↦ rw not (least_passes passes more (k + 1) (rw next at last))
    ]

depth_enough : (n : ℕ) → n ≤ 100000 → n < 2 ^ (depth n + 1)
depth_enough n few =
    let last : nat_lt n (2 * 2 ^ (0 + 16)) ≡ true = lt-ltb n (2 * 2 ^ (0 + 16)) (omega arith) in
    let below : n < 2 * 2 ^ depth n = ltb-true n (2 * 2 ^ depth n) (least_passes (λ d. nat_lt n (2 * 2 ^ d)) 16 0 last) in
    let twice : 2 ^ suc (depth n) ≡ 2 ^ depth n * 2 = pow-suc 2 (depth n) in
    rw add-one (omega (arith, below, twice))

pub each_key : HoldsEachKey
each_key n few = let all : n - 0 ≡ n = omega arith in tree_keys (depth n + 1) 0 n None (rw all (depth_enough n few)) ∙ ap (range_with_len 0) all

bytes_fill : (n : ℕ) (hurt : Option ℕ) (knots : List Knot) → length (flat_map (item_bytes n hurt) knots) ≡ 64 * length knots
bytes_fill n hurt [] = refl
bytes_fill n hurt (k ∷ ks) = let rest : length (flat_map (item_bytes n hurt) ks) ≡ 64 * length ks = bytes_fill n hurt ks in rw (length-append, rest) (omega arith)

pub items_fill : ItemsFill
items_fill n hurt few =
    bytes_fill n hurt (tree (depth n + 1) 0 n None)
    ∙ ap (λ l. 64 * l) (sym (length-map (tree (depth n + 1) 0 n None) (λ (knot : Knot). knot.key)) ∙ ap length (each_key n few) ∙ length-range_with_len 0 n)
