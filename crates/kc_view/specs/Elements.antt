-- The elements of an array at a virtual address.
use Rattle.std.specs.Prelude.{ℕ, ◌*◌, nat_lt, if◌then◌else◌, Option, None, option_map, option_and_then}
use Rattle.kc_btf.specs.declared.types.ArrayOf.{ArrayOf}
use Rattle.kc_layout.specs.Bare.{array_under}
use Rattle.kc_layout.specs.Size.{size}
use Rattle.kc_view.specs.Typed.{Typed, laid}

-- the element with an index, which an array has whose elements have a size
abbrev pub element_in : Typed → ℕ → ArrayOf → Option Typed
element_in view index array =
    if nat_lt index array.nelems then option_map (λ size. laid view.types view.at (index * size) array.ty) (size view.types array.ty)
    else None

abbrev pub element_of : Typed → ℕ → Option Typed
element_of view index = option_and_then (element_in view index) (array_under view.types view.ty)
