-- The bytes that slub_debug keeps at the objects of a slab. A frozen slab isn't looked at. With slub_debug a processor owns one at most for the
-- moment in which an object is given out, and none from 6.1 on (mm/slub.c, `kmem_cache_debug` in `___slab_alloc`); but a kernel may freeze a slab
-- that it found corrupt, with all objects marked as used (`alloc_debug_processing`, in 6.1.192 and 6.12.117). Nor is one looked at of more bytes than
-- the kernel's largest block of pages: include/linux/mmzone.h, MAX_PAGE_ORDER, in 6.1 MAX_ORDER - 1.
use Rattle.std.specs.Prelude.{ℕ, ◌*◌, ◌^◌, Bool, true, ◌&&◌, nat_eq, nat_le, not, if◌then◌else◌, List, length, Option, Some, None, Result, Ok, Err}
use Rattle.kc_memory.specs.Image.{Image}
use Rattle.kc_view.specs.declared.slub.SlabObjects.{SlabObjects}
use Rattle.kc_view.specs.declared.slub.SlubBases.{SlubBases}
use Rattle.kc_view.specs.declared.slub.SlubShape.{SlubShape}
use Rattle.kc_view.specs.Caches.{grid_of}
use Rattle.kc_found.specs.declared.free.Grid.{Grid}
use Rattle.kc_found.specs.Trials.{and_then as ◌>>=◌}
use Rattle.kc_found.specs.Violations.{Violation}
use Rattle.kc_owner.specs.Looked.{looked_at}
use Rattle.kc_guard.specs.declared.guards.GuardRun.{GuardRun}
use Rattle.kc_guard.specs.declared.object.Spoiled.{Spoiled}
use Rattle.kc_guard.specs.Objects.{objects_checked}
use Rattle.kc_slab_page.specs.declared.guarding.SlabFault.TheVariants.{Words, Bytes}
use Rattle.kc_slab_page.specs.declared.guarding.SlabState.{SlabState}
use Rattle.kc_slab_page.specs.declared.guarding.SlabState.TheVariants.{Whole, Broken}
use Rattle.kc_slab_page.specs.declared.slab.SlabFree.{SlabFree}
use Rattle.kc_slab_page.specs.Slabs.{own_list}

-- the bytes at a slab's objects are looked at
abbrev pub is_guarded : List GuardRun → SlabObjects → SlabFree → Bool
is_guarded runs o f = not (nat_eq (length runs) 0) && (not f.frozen && nat_le (o.size * f.objects) (2 ^ 22))

-- the first that isn't as it has to be, where the objects of the slab's own list are free
abbrev pub guards_checked : Image → SlubShape → Grid → ℕ → List GuardRun → Result (Option Spoiled) Violation
guards_checked image shape grid slab runs = do
  os ← own_list image shape grid slab
  objects_checked image (looked_at slab) runs grid os

-- what a slab is whose list is whole
abbrev pub guarded_by : SlabFree → Result (Option Spoiled) Violation → SlabState
guarded_by f (Ok None) = Whole (record f { guarded = true })
guarded_by f (Ok (Some s)) = Broken (Bytes s)
guarded_by f (Err v) = Broken (Words v)

abbrev pub with_guards : Image → SlubShape → SlubBases → ℕ → SlabObjects → List GuardRun → SlabFree → SlabState
with_guards image shape b slab o runs f =
    if is_guarded runs o f then guarded_by f (guards_checked image shape (grid_of shape b o slab f.objects) slab runs) else Whole f
