-- What the walks of free lists and of slab caches say of finite lists of objects and of slabs.
use Rattle.std.specs.Prelude.{◌≡◌, ℕ, List, Some, Ok, Err}
use Rattle.kc_memory.specs.Bits.{Number}
use Rattle.kc_memory.specs.Image.{Image}
use Rattle.kc_memory.specs.Places.{AllStandIn}
use Rattle.kc_found.specs.declared.asked.Asked.{Asked}
use Rattle.kc_found.specs.declared.free.FreeLed.{FreeLed}
use Rattle.kc_found.specs.declared.free.Grid.{Grid}
use Rattle.kc_found.specs.FiniteLists.{FreeChain}
use Rattle.kc_found.specs.FreeLists.{IsGrid, free_chain, free_list, low_word, number_in}
use Rattle.kc_found.specs.Going.{IsChain}
use Rattle.kc_found.specs.Violations.{Violation, places_by}
use Rattle.kc_view.specs.declared.slub.SlubShape.{SlubShape}
use Rattle.kc_view.specs.Caches.{cache_slabs}
use Rattle.kc_view.specs.FiniteCaches.{Slub}

-- a free list of the definition is walked whole, and what is walked without a violation is one
abbrev pub FreeListsAreWalked : Type 0
FreeListsAreWalked =
    (image : Image) (grid : Grid) (first : Number) (asked : Asked) (os : List ℕ) → IsGrid grid
    → (FreeChain (number_in image) grid (low_word first.value) os → free_list image grid first asked ≡ Ok os)
    × (free_list image grid first asked ≡ Ok os → FreeChain (number_in image) grid (low_word first.value) os)

-- a free list is a chain, whose sites each take a word of the memory
abbrev pub FreeListsAreChains : Type 0
FreeListsAreChains =
    (image : Image) (grid : Grid) (asked : Asked) (first : FreeLed) → IsChain image.physical (free_chain (number_in image) grid asked first)

-- what a free list's violation shows is true of the dump, where that is what shows the slab's own pointer
abbrev pub FreePlacesStand : Type 0
FreePlacesStand =
    (image : Image) (grid : Grid) (first : Number) (asked : Asked) (v : Violation)
    → AllStandIn image (places_by (Some first))
    → free_list image grid first asked ≡ Err v → AllStandIn image v.places

-- the slabs of a cache of the definition are walked whole, and what is walked without a violation are such slabs
abbrev pub CachesAreWalked : Type 0
CachesAreWalked =
    (image : Image) (shape : SlubShape) (audit start : ℕ) (slabs : List ℕ)
    → (Slub image shape start slabs → cache_slabs image shape (record { audit = audit; start = start }) ≡ Ok slabs)
    × (cache_slabs image shape (record { audit = audit; start = start }) ≡ Ok slabs → Slub image shape start slabs)

-- what a violation shows is true of the dump
abbrev pub CachePlacesStand : Type 0
CachePlacesStand =
    (image : Image) (shape : SlubShape) (audit start : ℕ) (v : Violation)
    → cache_slabs image shape (record { audit = audit; start = start }) ≡ Err v → AllStandIn image v.places
