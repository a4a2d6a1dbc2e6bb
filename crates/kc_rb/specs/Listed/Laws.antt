-- What the tests of lists say of finite trees.
use Rattle.std.specs.Prelude.{◌≡◌, ℕ, List, [], true}
use Rattle.kc_memory.specs.Image.{Image}
use Rattle.kc_found.specs.declared.shapes.RbShape.{RbShape}
use Rattle.kc_found.specs.RbFinite.{RbTree}
use Rattle.kc_found.specs.RbTrees.{reads_of}
use Rattle.kc_rb.specs.Listed.Trees.{is_tree, pre, turn}

-- numbers that pass are those of a red-black tree of the definition
abbrev pub OnlyTreesPass : Type 0
OnlyTreesPass = (image : Image) (shape : RbShape) (start : ℕ) (ns : List ℕ) → is_tree image shape start ns ≡ true → RbTree (reads_of image) shape start (turn [] ns)

-- and the numbers of each one pass
abbrev pub TreesPass : Type 0
TreesPass =
    (image : Image) (shape : RbShape) (start : ℕ) (ms : List ℕ) (t : RbTree (reads_of image) shape start ms)
    → (is_tree image shape start (pre t.tree) ≡ true) × (turn [] (pre t.tree) ≡ ms)

-- so a tree's numbers are the only ones that pass
abbrev pub TreesPassOnce : Type 0
TreesPassOnce = (image : Image) (shape : RbShape) (start : ℕ) (ns ms : List ℕ) → is_tree image shape start ns ≡ true → is_tree image shape start ms ≡ true → ns ≡ ms
