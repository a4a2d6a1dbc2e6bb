-- A slab, once its objects' places and its free list are told.
use Rattle.std.proofs.Common.{◌≡◌, ℕ, ◌+◌, ◌*◌, ◌%◌, ◌^◌, Option, Some, None, Result, Ok, arith, refl, sym, ap, ◌∙◌}
use Rattle.kc_memory.specs.Image.{Image}
use Rattle.kc_view.specs.declared.slub.SlabObjects.{SlabObjects}
use Rattle.kc_view.specs.declared.slub.SlubBases.{SlubBases}
use Rattle.kc_view.specs.Caches.{grid_of, page_of}
use Rattle.kc_found.specs.declared.free.Grid.{Grid}
use Rattle.kc_found.specs.Violations.{Violation}
use Rattle.kc_found.specs.Walks.{WalksAs}
use Rattle.kc_owner.specs.declared.object.cache.Cache.{Cache}
use Rattle.kc_owner.specs.declared.object.counts.SlabCounts.{SlabCounts}
use Rattle.kc_owner.specs.declared.object.free.FreeSpot.{FreeSpot}
use Rattle.kc_owner.specs.declared.object.shape.ObjectShape.{ObjectShape}
use Rattle.kc_owner.specs.declared.object.slab.Slab.{Slab}
use Rattle.kc_owner.specs.declared.object.spot.Spot.{Spot}
use Rattle.kc_owner.specs.Object.FreeSpots.{free_spot}
use Rattle.kc_owner.specs.Object.Slabs.{slab_with, start_of}
use Rattle.kc_owner.specs.Object.Spots.{spot_of}

slab_made : (i : Image) (shape : ObjectShape) (b : SlubBases) (slab pa : ℕ) (cache : Cache) (o : SlabObjects) (n : SlabCounts) (start : ℕ) (grid : Grid) (spot : Spot) (free : Result FreeSpot Violation)
    → start ≡ start_of shape.slub b slab → grid ≡ grid_of shape.slub b o slab n.objects → spot ≡ spot_of grid o.left_pad start pa → free_spot i shape.slub grid slab spot ≡ free
    → slab_with i shape b slab pa cache o n ≡ record { cache = cache; first = (b.direct + start) % 2 ^ 64; objects = o; counts = n; spot = spot; free = free }
slab_made i shape b slab pa cache o n start grid spot free from lies at told = rw (sym told) (rw at (rw lies (rw from refl)))

free_is : (i : Image) (shape : ObjectShape) (slab : ℕ) (grid : Grid) (spot : Spot) (free : Result FreeSpot Violation)
    → WalksAs {A = Result FreeSpot Violation} (λ f. f) (λ i. Ok (free_spot i shape.slub grid slab spot)) (Some i) (Ok free) → free_spot i shape.slub grid slab spot ≡ free
free_is i shape slab grid spot free told = cc

start_is : (shape : ObjectShape) (b : SlubBases) (slab page : ℕ) → page ≡ page_of shape.slub b slab → page * 4096 ≡ start_of shape.slub b slab
start_is shape b slab page is = ap (λ p. p * 4096) is ∙ omega arith

pub slab_told : (image : Option Image) (shape : ObjectShape) (b : SlubBases) (slab pa : ℕ) (cache : Cache) (o : SlabObjects) (n : SlabCounts) (page at : ℕ) (grid : Grid) (spot : Spot) (free : Result FreeSpot Violation)
    → page ≡ page_of shape.slub b slab → grid ≡ grid_of shape.slub b o slab n.objects → spot ≡ spot_of grid o.left_pad (page * 4096) pa → at ≡ slab
    → WalksAs {A = Result FreeSpot Violation} (λ f. f) (λ i. Ok (free_spot i shape.slub grid at spot)) image (Ok free)
    → WalksAs {A = Slab} (λ s. s) (λ i. Ok (slab_with i shape b slab pa cache o n)) image (Ok (record { cache = cache; first = (b.direct + page * 4096) % 2 ^ 64; objects = o; counts = n; spot = spot; free = free }))
slab_told None shape b slab pa cache o n page at grid spot free from lies stands same told = tt
slab_told (Some i) shape b slab pa cache o n page at grid spot free from lies stands same told =
    ap (λ (s : Slab). Ok s) (slab_made i shape b slab pa cache o n (page * 4096) grid spot free (start_is shape b slab page from) lies stands (free_is i shape slab grid spot free (rw same at told)))
