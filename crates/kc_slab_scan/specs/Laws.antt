-- What is told of slabs is true of the dump.
use Rattle.std.specs.Prelude.{◌≡◌, ℕ, ◌-◌, ◌^◌, min, List, [], length, ⊤}
use Rattle.std.specs.List.{AllByRecursion}
use Rattle.kc_memory.specs.Image.{Image}
use Rattle.kc_memory.specs.Places.{AllStandIn}
use Rattle.kc_slab_page.specs.declared.page.PageSeen.{PageSeen}
use Rattle.kc_slab_page.specs.declared.page.PageSeen.TheVariants.{Absent, Fenced, Other, Unmarked, Slab}
use Rattle.kc_slab_page.specs.declared.guarding.SlabState.{SlabState}
use Rattle.kc_slab_page.specs.declared.guarding.SlabState.TheVariants.{Whole, Broken, Untold}
use Rattle.kc_slab_page.specs.declared.shape.PageShape.{PageShape}
use Rattle.kc_slab_page.specs.Caches.{Caches}
use Rattle.kc_slab_page.specs.Laws.{fault_places}
use Rattle.kc_slab_page.specs.Pages.{page_seen}
use Rattle.kc_slab_scan.specs.declared.totals.BrokenSlab.{BrokenSlab}
use Rattle.kc_slab_scan.specs.Scans.{scanned}

-- the words that show what a slab breaks stand in the dump, at the places that are shown
abbrev pub Stands : Image → BrokenSlab → Type 0
Stands image b = AllStandIn image (fault_places b.found)

abbrev pub BrokenStand : Type 0
BrokenStand =
    (image : Image) (shape : PageShape) (caches : Caches) (frames : List ℕ) → AllByRecursion (Stands image) (scanned image shape caches frames).broken

-- as many frames are counted as there are, in 64 bits
abbrev pub FramesAreCounted : Type 0
FramesAreCounted =
    (image : Image) (shape : PageShape) (caches : Caches) (frames : List ℕ) → (scanned image shape caches frames).totals.frames ≡ min (length frames) (2 ^ 64 - 1)

-- a slab breaks no rule, and it can be told how its cache's objects lie
abbrev pub IsSoundState : SlabState → Type 0
IsSoundState (Whole free) = ⊤
IsSoundState (Broken v) = ⊥
IsSoundState Untold = ⊥

-- so is a page where it is a slab's first one
abbrev pub IsSound : PageSeen → Type 0
IsSound Absent = ⊤
IsSound Other = ⊤
IsSound Unmarked = ⊤
IsSound Fenced = ⊤
IsSound (Slab s) = IsSoundState s.state

-- where no slab is told that breaks a rule, and none that can't be told, so is each page
abbrev pub SoundIsOfAll : Type 0
SoundIsOfAll =
    (image : Image) (shape : PageShape) (caches : Caches) (frames : List ℕ)
    → (scanned image shape caches frames).broken ≡ [] → (scanned image shape caches frames).totals.untold ≡ 0
    → AllByRecursion (λ n. IsSound (page_seen image shape caches n)) frames
