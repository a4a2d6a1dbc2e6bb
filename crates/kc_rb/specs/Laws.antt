-- What the walks of red-black trees say of finite trees of nodes.
use Rattle.std.specs.Prelude.{◌≡◌, ℕ, List, None, Ok, Err, ◌⊎◌}
use Rattle.std.specs.List.{AllByRecursion}
use Rattle.kc_memory.specs.Image.{Image}
use Rattle.kc_memory.specs.Places.{AllStandIn}
use Rattle.kc_found.specs.declared.shapes.RbShape.{RbShape}
use Rattle.kc_found.specs.RbFinite.{RbTree, AreRising, blacks_above, keys_in}
use Rattle.kc_found.specs.RbTrees.{reads_of, tree_walk}
use Rattle.kc_found.specs.Violations.{Violation}

-- a red-black tree of the definition is walked whole, and what is walked without a violation is one
abbrev pub TreesAreWalked : Type 0
TreesAreWalked =
    (image : Image) (shape : RbShape) (audit start : ℕ) (ns : List ℕ)
    → (RbTree (reads_of image) shape start ns → tree_walk image shape audit start ≡ Ok ns)
    × (tree_walk image shape audit start ≡ Ok ns → RbTree (reads_of image) shape start ns)

-- whatever the memory is, cyclic or with several addresses of one word, there is such a tree or a first violation, and
-- never both
abbrev pub TreeOrViolation : Type 0
TreeOrViolation =
    (image : Image) (shape : RbShape) (audit start : ℕ)
    → (((ns : List ℕ) × RbTree (reads_of image) shape start ns) ⊎ ((v : Violation) × (tree_walk image shape audit start ≡ Err v)))
    × ((ns : List ℕ) (v : Violation) → RbTree (reads_of image) shape start ns → tree_walk image shape audit start ≡ Err v → ⊥)

-- from left to right its keys never fall, and rise where they are unique
abbrev pub KeysRise : Type 0
KeysRise =
    (image : Image) (shape : RbShape) (start : ℕ) (ns : List ℕ)
    → RbTree (reads_of image) shape start ns → AreRising shape.unique None (keys_in (reads_of image) shape ns)

-- all its nulls have one number of black nodes above them
abbrev pub NullsAgree : Type 0
NullsAgree =
    (image : Image) (shape : RbShape) (start : ℕ) (ns : List ℕ) (t : RbTree (reads_of image) shape start ns)
    → AllByRecursion (λ n. n ≡ t.number) (blacks_above (reads_of image) shape t.tree 0)

-- what a violation shows is true of the dump
abbrev pub TreePlacesStand : Type 0
TreePlacesStand =
    (image : Image) (shape : RbShape) (audit start : ℕ) (v : Violation)
    → tree_walk image shape audit start ≡ Err v → AllStandIn image v.places
