-- The items: a ring, and a tree over their keys.
use Rattle.std.specs.Prelude.{ℕ, zero, suc, ◌+◌, ◌-◌, ◌*◌, ◌/◌, ◌%◌, ◌^◌, ◌&&◌, nat_eq, nat_lt, if◌then◌else◌, List, [], ◌∷◌, ◌++◌, flat_map, Option, Some, None, is_some, option_map}
use Rattle.kc_gen.specs.declared.items.Knot.{Knot}
use Rattle.kc_gen.specs.Bytes.{word_bytes}
use Rattle.kc_gen.specs.Least.{least}
use Rattle.kc_gen.specs.Places.{image, item, ring_head, tree_node}

-- The ring of n items, in order: what item k's `next` and `prev` hold.
abbrev pub next : ℕ → ℕ → ℕ
next n k = if nat_eq (k + 1) n then image ring_head else item (k + 1)

abbrev pub before : ℕ → ℕ
before k = if nat_eq k 0 then image ring_head else item (k - 1)

-- the `prev` word of the item that is hurt is 0
abbrev pub prev : Option ℕ → ℕ → ℕ
prev None k = before k
prev (Some hurt) k = if nat_eq hurt k then 0 else before k

-- The tree over the keys from lo up to, not including, hi: its root, where there are any.
abbrev pub middle : ℕ → ℕ → ℕ
middle lo hi = lo + (hi - lo) / 2

abbrev pub root : ℕ → ℕ → Option ℕ
root lo hi = if nat_lt lo hi then Some (middle lo hi) else None

-- The root over some keys, with so many levels below it. The lowest level is red, but for the root of all.
abbrev pub knot_over : ℕ → ℕ → ℕ → Option ℕ → Knot
knot_over below lo hi parent = record {
  key = middle lo hi;
  parent = parent;
  left = root lo (middle lo hi);
  right = root (middle lo hi + 1) hi;
  red = nat_eq below 0 && is_some parent;
}

-- The knots of the tree, from the least key on.
abbrev pub tree : ℕ → ℕ → ℕ → Option ℕ → List Knot
tree zero lo hi parent = []
tree (suc below) lo hi parent =
    if nat_lt lo hi then
    tree below lo (middle lo hi) (Some (middle lo hi)) ++ knot_over below lo hi parent ∷ tree below (middle lo hi + 1) hi (Some (middle lo hi))
    else []

-- the greatest depth in a tree of n keys: the greatest number d with 2^d not above n
abbrev pub depth : ℕ → ℕ
depth n = least (λ d. nat_lt n (2 * 2 ^ d)) 16 0

-- a pointer to a knot, or 0
abbrev pub knot_pointer : Option ℕ → ℕ
knot_pointer None = 0
knot_pointer (Some k) = tree_node k

-- the parent, and 1 for a black knot
abbrev pub parent_word : Knot → ℕ
parent_word knot = knot_pointer knot.parent + (if knot.red then 0 else 1)

-- The bytes of an item: `link`, `hnode` that leads nowhere, `key` with `small` 0 above it, and `rb`.
abbrev pub item_bytes : ℕ → Option ℕ → Knot → List ℕ
item_bytes n hurt knot =
    flat_map word_bytes
    (next n knot.key ∷ prev hurt knot.key ∷ 0 ∷ 0 ∷ knot.key ∷ parent_word knot ∷ knot_pointer knot.right ∷ knot_pointer knot.left ∷ [])

-- which item is hurt, of n
abbrev pub hurt_item : ℕ → Option ℕ → Option ℕ
hurt_item n hurt = option_map (λ k. k % n) hurt

-- all n items
abbrev pub items : ℕ → Option ℕ → List ℕ
items n hurt = flat_map (item_bytes n hurt) (tree (depth n + 1) 0 n None)
