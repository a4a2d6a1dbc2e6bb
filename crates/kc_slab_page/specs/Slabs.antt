-- A slab, by its page's descriptor. Source: the kernel's mm/slab.h, `struct slab`, which overlays its first page's descriptor, and mm/slub.c:
-- `freelist` and `inuse` are changed together (`slab_update_freelist`, in 6.1 `cmpxchg_double_slab`; in a cache with slub_debug one right after
-- the other, under the node's `list_lock`), also where a processor owns the slab, so the slab's own free list has as many objects as aren't in
-- use. The order is this project's.
use Rattle.std.specs.Prelude.{ℕ, ◌+◌, ◌-◌, Bool, ◌&&◌, ◌||◌, nat_eq, nat_le, nat_lt, not, false, List, length, Some, None, Result, Ok}
use Rattle.kc_memory.specs.declared.rule.Rule.TheVariants.{U3, U4, U6}
use Rattle.kc_memory.specs.Image.{Image}
use Rattle.kc_view.specs.declared.fields.FieldNumber.{FieldNumber}
use Rattle.kc_view.specs.declared.slub.SlabObjects.{SlabObjects}
use Rattle.kc_view.specs.declared.slub.SlubBases.{SlubBases}
use Rattle.kc_view.specs.declared.slub.SlubShape.{SlubShape}
use Rattle.kc_view.specs.Caches.{grid_of, is_descriptor}
use Rattle.kc_view.specs.Fields.{breaks_at, read_field, unless, value_of}
use Rattle.kc_found.specs.declared.free.Grid.{Grid}
use Rattle.kc_found.specs.FreeLists.{free_list}
use Rattle.kc_found.specs.Trials.{and_then as ◌>>=◌}
use Rattle.kc_found.specs.Violations.{Violation, breaks_field}
use Rattle.kc_owner.specs.Looked.{looked_at}
use Rattle.kc_slab_page.specs.declared.slab.SlabCounted.{SlabCounted}
use Rattle.kc_slab_page.specs.declared.slab.SlabFree.{SlabFree}

-- objects have a size, in which the 8 bytes of their free pointer lie
abbrev pub is_laid : SlabObjects → Bool
is_laid o = nat_le 1 o.size && nat_le (o.offset + 8) o.size

-- how many objects a slab has: U3 of their number
abbrev pub counted : Image → SlubShape → ℕ → Result SlabCounted Violation
counted image shape slab = do
  n ← read_field image (looked_at slab) slab shape.objects
  u ← read_field image (looked_at slab) slab shape.inuse
  f ← read_field image (looked_at slab) slab shape.frozen
  unless (nat_eq (value_of n) 0 || nat_lt (value_of n) (value_of u)) (breaks_at (looked_at slab) U3 n None)
      (Ok (record { objects = value_of n; inuse = u; frozen = not (nat_eq (value_of f) 0) }))

-- the objects of its own free list
abbrev pub own_list : Image → SlubShape → Grid → ℕ → Result (List ℕ) Violation
own_list image shape grid slab = do
  f ← read_field image (looked_at slab) slab shape.freelist
  free_list image grid f.number (looked_at slab)

-- which are as many as aren't in use: U6
abbrev pub free_of : Image → SlubShape → Grid → ℕ → SlabCounted → Result SlabFree Violation
free_of image shape grid slab n = do
  os ← own_list image shape grid slab
  unless (not (nat_eq (length os) (n.objects - value_of n.inuse))) (breaks_at (looked_at slab) U6 n.inuse (Some (n.objects - value_of n.inuse)))
      (Ok (record { objects = n.objects; free = length os; frozen = n.frozen; guarded = false }))

-- a slab of the cache that a number of its descriptor names: U4 of the descriptor, and then the counts and the list
abbrev pub slab_free : Image → SlubShape → SlubBases → SlabObjects → ℕ → FieldNumber → Result SlabFree Violation
slab_free image shape b o slab cache =
    unless (not (is_descriptor shape b slab)) (breaks_field (looked_at slab) U4 slab cache.number None) do
      n ← counted image shape slab
      free_of image shape (grid_of shape b o slab n.objects) slab n
