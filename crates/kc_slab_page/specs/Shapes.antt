-- Where the words stand that tell what a page is.
use Rattle.std.specs.Prelude.{ℕ, List, Option, option_and_then, option_map}
use Rattle.kc_kinds.specs.Kernels.{Kernel}
use Rattle.kc_owner.specs.Object.Shapes.{object_shape}
use Rattle.kc_slab_page.specs.declared.shape.PageShape.{PageShape}
use Rattle.kc_slab_page.specs.Fences.{fence_shape}
use Rattle.kc_slab_page.specs.Guards.{guard_shape}
use Rattle.kc_slab_page.specs.Marks.{slab_mark}

-- in a kernel that has them, by the notes of its dump
abbrev pub page_shape : Kernel → List ℕ → Option PageShape
page_shape kernel note =
    option_and_then (λ objects. option_map (λ mark. record { objects = objects; mark = mark; guards = guard_shape kernel; fence = fence_shape kernel }) (slab_mark kernel note))
    (object_shape kernel)
