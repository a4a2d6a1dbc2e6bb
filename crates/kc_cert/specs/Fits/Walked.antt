-- That shapes are what is walked.
use Rattle.std.specs.Prelude.{◌≡◌, ℕ, ◌≤◌, length, true, List, Ok}
use Rattle.kc_memory.specs.Image.{Image}
use Rattle.kc_kinds.specs.declared.kind.Kind.{Kind}
use Rattle.kc_kinds.specs.Structures.{nodes_of}
use Rattle.kc_cert.specs.Fits.Shapes.{is_shape, nodes_in}
use Rattle.kc_cert.specs.Fits.Size.{lists_size}

-- a shape is what is walked: its nodes are those of the walk
abbrev pub ShapesAreWalked : Type 0
ShapesAreWalked = (i : Image) (kind : Kind) (n start : ℕ) (lists : List (List ℕ)) → is_shape i kind n start lists ≡ true → nodes_of i kind n start ≡ Ok (nodes_in kind lists)

-- and it has no more nodes than its lists have numbers
abbrev pub ShapesAreLong : Type 0
ShapesAreLong = (kind : Kind) (lists : List (List ℕ)) → length (nodes_in kind lists) ≤ lists_size lists
