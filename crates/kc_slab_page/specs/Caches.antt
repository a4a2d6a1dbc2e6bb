-- The slab caches of a kernel. Source: the kernel's mm/slab_common.c, the ring `slab_caches`; include/linux/slub_def.h, `struct kmem_cache`
-- (from 6.8 on in mm/slab.h).
use Rattle.std.specs.Prelude.{ℕ, Bool, true, ◌&&◌, is_none, if◌then◌else◌, List, [], ◌∷◌, Option, Some, None, Result, Ok}
use Rattle.std.specs.BTreeMap.{insert_entry}
use Rattle.std.specs.Ordering.{nat_cmp}
use Rattle.std.specs.Str.{bytes_eq}
use Rattle.kc_memory.specs.Image.{Image}
use Rattle.kc_view.specs.declared.slub.SlabObjects.{SlabObjects}
use Rattle.kc_view.specs.declared.slub.SlubBases.{SlubBases}
use Rattle.kc_view.specs.Caches.{objects_of}
use Rattle.kc_found.specs.Trials.{and_then as ◌>>=◌}
use Rattle.kc_found.specs.Violations.{Violation}
use Rattle.kc_owner.specs.Known.{known}
use Rattle.kc_owner.specs.Looked.{looked_at}
use Rattle.kc_owner.specs.Object.Caches.{text_by}
use Rattle.kc_owner.specs.Object.Keys.{cache_by}
use Rattle.kc_owner.specs.Object.Pages.{bases_at}
use Rattle.kc_slab_page.specs.declared.caches.CacheSeen.{CacheSeen}
use Rattle.kc_slab_page.specs.declared.caches.SlabCaches.{SlabCaches}
use Rattle.kc_slab_page.specs.declared.fence.FencePool.{FencePool}
use Rattle.kc_slab_page.specs.declared.shape.PageShape.{PageShape}
use Rattle.kc_slab_page.specs.Fences.{pool_at}
use Rattle.kc_slab_page.specs.Guards.{runs_of}
use Rattle.kc_owner.specs.Rings.{RingParts, ring_nodes}

-- what a cache says of itself
abbrev pub cache_with : Image → PageShape → ℕ → Result SlabObjects Violation → CacheSeen
cache_with image shape at objects = record {
  name = text_by image (known image at shape.objects.name);
  objects = objects;
  runs = runs_of image shape.guards objects at;
}

abbrev pub cache_seen : Image → PageShape → ℕ → CacheSeen
cache_seen image shape at = cache_with image shape at (objects_of image (looked_at at) shape.objects.slub)

-- all caches are wanted, or those with a name
abbrev pub is_wanted : Option (List ℕ) → List ℕ → Bool
is_wanted None name = true
is_wanted (Some wanted) name = bytes_eq name wanted

-- caches by their addresses, ascending
abbrev pub Entries : Type 0
Entries = List (ℕ × CacheSeen)

-- with one more, where it is wanted
abbrev pub with_seen : Option (List ℕ) → Entries → ℕ → CacheSeen → Entries
with_seen wanted caches at cache = if is_wanted wanted cache.name then insert_entry nat_cmp caches at cache else caches

-- with that of a node of the ring of all caches
abbrev pub with_cache : Image → PageShape → Option (List ℕ) → Entries → ℕ → Entries
with_cache image shape wanted caches node = with_seen wanted caches (cache_by shape.objects node) (cache_seen image shape (cache_by shape.objects node))

-- with those of some nodes
unfoldable pub caches_from : Image → PageShape → Option (List ℕ) → Entries → List ℕ → Entries
caches_from image shape wanted caches [] = caches
caches_from image shape wanted caches (n ∷ ns) = caches_from image shape wanted (with_cache image shape wanted caches n) ns

-- where page descriptors and physical memory begin, the nodes of the ring of all caches, the rule that it breaks, where it does, the caches,
-- whether they are all of the kernel's, and KFENCE's pool
pub record Caches : Type 0 where
  pub bases : SlubBases
  pub nodes : List ℕ
  pub broken : Option Violation
  pub entries : Entries
  pub all : Bool
  pub pool : Option FencePool

abbrev pub caches_view : SlabCaches → Caches
caches_view c = record { bases = c.bases; nodes = c.nodes; broken = c.broken; entries = c.caches.entries; all = c.all; pool = c.pool }

abbrev pub caches_by : Image → PageShape → Option (List ℕ) → SlubBases → RingParts → Caches
caches_by image shape wanted b ring = record {
  bases = b;
  nodes = ring.nodes;
  broken = ring.broken;
  entries = caches_from image shape wanted [] ring.nodes;
  all = is_none wanted && is_none ring.broken;
  pool = pool_at image b shape.fence;
}

-- those of the ring of all caches that are wanted, also where it is broken
abbrev pub caches_in : Image → PageShape → Option (List ℕ) → Result Caches Violation
caches_in image shape wanted = do
  b ← bases_at image (looked_at shape.objects.caches) shape.objects.slub
  Ok (caches_by image shape wanted b (ring_nodes image shape.objects.slub.list shape.objects.caches))
