-- What one step of a loop or of a recursion adds to what stands.
use Rattle.std.proofs.Common.{◌≡◌, ℕ, zero, suc, ◌+◌, ◌-◌, ◌*◌, ◌/◌, ◌%◌, ◌^◌, ◌<◌, ◌≤◌, Bool, true, false, nat_lt, List, [], ◌∷◌, ◌++◌, flat_map, Option, Some, refl, ap, ◌∙◌, sym, arith, append_assoc, add-one}
use Rattle.std.proofs.lemmas.Grind.{flat_map-append}
use Rattle.std.proofs.Math.Nat.{mod-eq_of_lt, mul-le-mul_left}
use Rattle.std.proofs.Math.Pow.{pow_mono}
use native.Mathlib.Numerals.{unary_clauses}
use Rattle.kc_gen.specs.declared.array.Node.{Node}
use Rattle.kc_gen.specs.declared.items.Knot.{Knot}
use Rattle.kc_gen.specs.Array.{child, count, node_bytes, nodes_from}
use Rattle.kc_gen.specs.Bytes.{each, number_bytes}
use Rattle.kc_gen.specs.Items.{knot_over, middle, tree}
use Rattle.kc_gen.specs.Least.{least}

pub number_more : (xs : List ℕ) (width k n : ℕ) → k < width → (xs ++ n % 256 ∷ []) ++ number_bytes (width - (k + 1)) (n / 256) ≡ xs ++ number_bytes (width - k) n
number_more xs width k n more =
    let one : width - k ≡ suc (width - (k + 1)) = omega arith in
    rw one (append_assoc xs (n % 256 ∷ []) (number_bytes (width - (k + 1)) (n / 256)))

each_more : (k : ℕ) (f : ℕ → List ℕ) → each (k + 1) f ≡ each k f ++ f k
each_more k f = rw add-one refl

-- what stands for one more number
pub more : (old xs ys : List ℕ) (k : ℕ) (f : ℕ → List ℕ) → xs ≡ old ++ each k f → ys ≡ xs ++ f k → ys ≡ old ++ each (k + 1) f
more old xs ys k f so_far one = rw (each_more, one, so_far) (append_assoc old (each k f) (f k))

-- the same after a head
pub one_more : (old head xs ys : List ℕ) (k : ℕ) (f : ℕ → List ℕ) → xs ≡ old ++ (head ++ each k f) → ys ≡ xs ++ f k → ys ≡ old ++ (head ++ each (k + 1) f)
one_more old head xs ys k f so_far one =
    more (old ++ head) xs ys k f (so_far ∙ sym (append_assoc old head (each k f))) one ∙ append_assoc old head (each (k + 1) f)

pub least_here : (passes : ℕ → Bool) (more k : ℕ) → 0 < more → passes k ≡ true → least passes more k ≡ k
least_here passes zero k some is = absurd (let none : ⊥ = omega arith in none)
least_here passes (suc more) k some is = rw is refl

pub least_on : (passes : ℕ → Bool) (more k : ℕ) → k < more → passes k ≡ false → least passes (more - k) k ≡ least passes (more - (k + 1)) (k + 1)
least_on passes more k some is =
    let one : more - k ≡ suc (more - (k + 1)) = omega arith in
    rw (one, is) refl

-- a tree is its root between the trees over the keys below it and above it
tree_parts : (levels lo hi : ℕ) (parent : Option ℕ) → 0 < levels → nat_lt lo hi ≡ true
    → tree levels lo hi parent
    ≡ tree (levels - 1) lo (middle lo hi) (Some (middle lo hi)) ++ knot_over (levels - 1) lo hi parent ∷ tree (levels - 1) (middle lo hi + 1) hi (Some (middle lo hi))
tree_parts levels lo hi parent some keys =
    let one : levels ≡ suc (levels - 1) = omega arith in
    let below : suc (levels - 1) - 1 ≡ levels - 1 = omega arith in
    rw (one, below, keys) refl

pub tree_bytes : (f : Knot → List ℕ) (levels lo hi : ℕ) (parent : Option ℕ) (old left knot right : List ℕ) → 0 < levels → nat_lt lo hi ≡ true
    → left ≡ old ++ flat_map f (tree (levels - 1) lo (middle lo hi) (Some (middle lo hi))) → knot ≡ left ++ f (knot_over (levels - 1) lo hi parent)
    → right ≡ knot ++ flat_map f (tree (levels - 1) (middle lo hi + 1) hi (Some (middle lo hi))) → right ≡ old ++ flat_map f (tree levels lo hi parent)
tree_bytes f levels lo hi parent old left knot right some keys is_left is_knot is_right =
    rw (tree_parts levels lo hi parent some keys, flat_map-append, is_right, is_knot, is_left)
    (append_assoc (old ++ flat_map f (tree (levels - 1) lo (middle lo hi) (Some (middle lo hi)))) (f (knot_over (levels - 1) lo hi parent)) (flat_map f (tree (levels - 1) (middle lo hi + 1) hi (Some (middle lo hi))))
    ∙ append_assoc old (flat_map f (tree (levels - 1) lo (middle lo hi) (Some (middle lo hi)))) (f (knot_over (levels - 1) lo hi parent) ++ flat_map f (tree (levels - 1) (middle lo hi + 1) hi (Some (middle lo hi)))))

-- a node with what is below all its slots is all from it down
pub nodes_parts : (n level k : ℕ) (node : Node) → 0 < level → k ≡ count n level node
    → node_bytes n level node ++ each k (λ i. nodes_from n (level - 1) (child n (level - 1) node i)) ≡ nodes_from n level node
nodes_parts n level k node some all =
    let one : level ≡ suc (level - 1) = omega arith in
    let below : suc (level - 1) - 1 ≡ level - 1 = omega arith in
    rw (all, one, below) refl

-- the slots of a node lie in those of the node above it
pub slot_fits : (base below i : ℕ) → i < 16 → base + 16 * 16 ^ suc below ≤ 16777216 → (base + 16 ^ suc below * i) + 16 * 16 ^ below ≤ 16777216
slot_fits base below i slot fits =
    let power : 16 ^ suc below ≡ 16 * 16 ^ below = simp unary_clauses (omega arith) in
    let slots : 16 ^ suc below * (i + 1) ≤ 16 ^ suc below * 16 = mul-le-mul_left (16 ^ suc below) (omega arith) in
    omega (arith, power, slots, fits)

-- doubling does not pass 64 bits here
pub power_small : (d : ℕ) → d < 16 → 2 * 2 ^ d % 2 ^ 64 ≡ 2 * 2 ^ d
power_small d few = let small : 2 ^ d ≤ 2 ^ 16 = pow_mono {i = d} {j = 16} (omega arith) in mod-eq_of_lt (omega (arith, small))

-- three pieces one after another
pub three : (old a b c xs ys zs : List ℕ) → xs ≡ old ++ a → ys ≡ xs ++ b → zs ≡ ys ++ c → zs ≡ old ++ (a ++ b ++ c)
three old a b c xs ys zs first second third = rw (third, second, first) (ap (λ l. l ++ c) (append_assoc old a b) ∙ append_assoc old (a ++ b) c)
