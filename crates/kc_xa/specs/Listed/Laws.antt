-- What the test of an xarray says of finite trees of nodes, and of what is walked.
use Rattle.std.specs.Prelude.{◌≡◌, ℕ, ◌≤◌, List, length, map, true, Ok}
use Rattle.kc_memory.specs.Image.{Image}
use Rattle.kc_found.specs.declared.xarrays.XaItem.{XaItem}
use Rattle.kc_found.specs.FiniteXarrays.{XArray}
use Rattle.kc_found.specs.XaLayouts.{XaLayout}
use Rattle.kc_found.specs.XaSites.{xa_course, xa_judged}
use Rattle.kc_xa.specs.Listed.Entries.{is_xarray, items_in, pointers, top_entries}

-- the pointers that a walk met
abbrev pub met_pointers : List XaItem → List ℕ
met_pointers items = map (λ x. x.entry) items

-- numbers that pass are the entries of a finite xarray of the definition, and its pointers are those among them
abbrev pub OnlyXarraysPass : Type 0
OnlyXarraysPass =
    (image : Image) (shape : XaLayout) (start : ℕ) (ns : List ℕ) → is_xarray image shape start ns ≡ true → (audit : ℕ)
    → (items : List XaItem) × (x : XArray (xa_course image shape (record { audit = audit; start = start })) items) × (top_entries x.head x.top ≡ ns) × (met_pointers items ≡ pointers ns)

-- and the entries of each one pass
abbrev pub XarraysPass : Type 0
XarraysPass =
    (image : Image) (shape : XaLayout) (audit start : ℕ) (items : List XaItem) (x : XArray (xa_course image shape (record { audit = audit; start = start })) items)
    → (is_xarray image shape start (top_entries x.head x.top) ≡ true) × (met_pointers items ≡ pointers (top_entries x.head x.top))

-- numbers that pass are those of a walk without a violation, which meets the pointers among them
abbrev pub OnlyWalksPass : Type 0
OnlyWalksPass =
    (image : Image) (shape : XaLayout) (start : ℕ) (ns : List ℕ) → is_xarray image shape start ns ≡ true → (audit : ℕ)
    → (items : List XaItem) × (xa_judged image shape audit start ≡ Ok items) × (met_pointers items ≡ pointers ns)

-- and there are such numbers for each walk without a violation
abbrev pub WalksPass : Type 0
WalksPass =
    (image : Image) (shape : XaLayout) (audit start : ℕ) (items : List XaItem) → xa_judged image shape audit start ≡ Ok items
    → (ns : List ℕ) × (is_xarray image shape start ns ≡ true) × (met_pointers items ≡ pointers ns)

-- among entries there are no more pointers than entries
abbrev pub PointersAreFew : Type 0
PointersAreFew = (ns : List ℕ) → length (pointers ns) ≤ length ns

-- no two lists of numbers are the entries of one xarray
abbrev pub XarraysPassOnce : Type 0
XarraysPassOnce = (image : Image) (shape : XaLayout) (start : ℕ) (ns ms : List ℕ) → is_xarray image shape start ns ≡ true → is_xarray image shape start ms ≡ true → ns ≡ ms

-- the pointers, with their indexes, of numbers that pass are those of the walk
abbrev pub ItemsAreWalked : Type 0
ItemsAreWalked = (image : Image) (shape : XaLayout) (start : ℕ) (ns : List ℕ) → is_xarray image shape start ns ≡ true → (audit : ℕ) → xa_judged image shape audit start ≡ Ok (items_in image shape start ns)
