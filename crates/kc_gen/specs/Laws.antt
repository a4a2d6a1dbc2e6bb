-- What the definitions give, in the words of the structures.
use Rattle.std.specs.Prelude.{◌≡◌, ℕ, ◌+◌, ◌*◌, ◌≤◌, List, length, map, Option, None}
use Rattle.std.specs.List.{range_with_len}
use Rattle.kc_gen.specs.declared.items.Knot.{Knot}
use Rattle.kc_gen.specs.Items.{depth, items, tree}

-- The knots of the tree are those of all n items, each once, in the order of their keys.
abbrev pub HoldsEachKey : Type 0
HoldsEachKey = (n : ℕ) → n ≤ 100000 → map (λ (knot : Knot). knot.key) (tree (depth n + 1) 0 n None) ≡ range_with_len 0 n

-- So the items fill 64 bytes each, up to where the nodes begin.
abbrev pub ItemsFill : Type 0
ItemsFill = (n : ℕ) (hurt : Option ℕ) → n ≤ 100000 → length (items n hurt) ≡ 64 * n
