-- What the walk of an xarray says of finite trees of nodes.
use Rattle.std.specs.Prelude.{◌≡◌, ℕ, List, Ok, Err, ◌⊎◌}
use Rattle.kc_memory.specs.Image.{Image}
use Rattle.kc_memory.specs.Places.{AllStandIn}
use Rattle.kc_found.specs.declared.xarrays.XaItem.{XaItem}
use Rattle.kc_found.specs.FiniteXarrays.{NoXArray, RisesFrom, XArray}
use Rattle.kc_found.specs.Violations.{Violation}
use Rattle.kc_found.specs.XaLayouts.{IsChunk, XaLayout}
use Rattle.kc_found.specs.XaSites.{xa_course, xa_judged}

-- an xarray of the definition is walked whole, and what is walked without a violation is one
abbrev pub XarraysAreWalked : Type 0
XarraysAreWalked =
    (image : Image) (shape : XaLayout) (audit start : ℕ) (items : List XaItem)
    → (XArray (xa_course image shape (record { audit = audit; start = start })) items → xa_judged image shape audit start ≡ Ok items)
    × (xa_judged image shape audit start ≡ Ok items → XArray (xa_course image shape (record { audit = audit; start = start })) items)

-- whatever the memory is, cyclic or with several addresses of one word, there is such a tree or a first violation, and
-- never both
abbrev pub XarrayOrViolation : Type 0
XarrayOrViolation =
    (image : Image) (shape : XaLayout) (audit start : ℕ)
    → (((items : List XaItem) × XArray (xa_course image shape (record { audit = audit; start = start })) items) ⊎ ((v : Violation) × (xa_judged image shape audit start ≡ Err v)))
    × ((v : Violation) → xa_judged image shape audit start ≡ Err v → NoXArray (xa_course image shape (record { audit = audit; start = start })))

-- what a violation shows is true of the dump
abbrev pub XarrayPlacesStand : Type 0
XarrayPlacesStand =
    (image : Image) (shape : XaLayout) (audit start : ℕ) (v : Violation)
    → xa_judged image shape audit start ≡ Err v → AllStandIn image v.places

-- the indexes of an xarray's pointers rise
abbrev pub IndexesRise : Type 0
IndexesRise =
    (image : Image) (shape : XaLayout) (audit start : ℕ) (items : List XaItem) → IsChunk shape.chunk
    → XArray (xa_course image shape (record { audit = audit; start = start })) items → RisesFrom 0 items
