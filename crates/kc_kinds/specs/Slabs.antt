-- Where the fields of a slab cache stand. Source: the kernel's include/linux/slub_def.h, `struct kmem_cache` (from 6.8
-- on in mm/slab.h), and mm/slab.h, `struct kmem_cache_node` and `struct slab`.
use Rattle.std.specs.Prelude.{◌≡◌, ◌≤◌, ℕ, IfSome, Bool, true, false, ◌&&◌, nat_le, List, codes, Option, Some, None, option_and_then, option_map, Result, Ok, Err}
use Rattle.std.proofs.Common.{refl}
use Rattle.std.proofs.lemmas.Bool.{and_parts, leb-true}
use Rattle.kc_btf.specs.Btf.{Types}
use Rattle.kc_layout.specs.Bare.{pointers_under}
use Rattle.kc_layout.specs.Ends.{ByteAt, located}
use Rattle.kc_layout.specs.Size.{size}
use Rattle.kc_layout.specs.declared.fault.PathFault.{PathFault}
use Rattle.kc_layout.specs.declared.place.Field.{Field}
use Rattle.kc_found.specs.declared.shapes.ListShape.{ListShape}
use Rattle.kc_view.specs.declared.slub.SlubShape.{SlubShape}
use Rattle.kc_kinds.specs.declared.row.Row.{Row}
use Rattle.kc_kinds.specs.declared.slabs.CacheFields.{CacheFields}
use Rattle.kc_kinds.specs.declared.slabs.Pointers.{Pointers}
use Rattle.kc_kinds.specs.declared.slabs.NodeFields.{NodeFields}
use Rattle.kc_kinds.specs.declared.slabs.SlabFields.{SlabFields}
use Rattle.kc_kinds.specs.Kernels.{Kernel, are_single, direct_in, node_ids_in, vmemmap_in}
use Rattle.kc_kinds.specs.Members.{◌>>=◌, inner_in, scalar_in, struct_named}
use Rattle.kc_kinds.specs.Ring.{list_words}

-- what slab caches need of a kernel
abbrev pub slub_row : Kernel → Row
slub_row kernel = record {
  head = struct_named kernel.types (codes "kmem_cache");
  node = struct_named kernel.types (codes "list_head");
  element = struct_named kernel.types (codes "slab");
  named = true;
  clear = are_single kernel;
}

-- an array of pointers in a struct: its byte, and how many they are
abbrev pub pointers_at : Types → Result ByteAt PathFault → Option Pointers
pointers_at types (Err fault) = None
pointers_at types (Ok place) = option_map (λ count. record { byte = place.byte; count = count }) (pointers_under types place.ty)

abbrev pub pointers_in : Types → Option ℕ → List ℕ → Option Pointers
pointers_in types id name = option_and_then (λ id. pointers_at types (located types id name)) id

-- the fields of a cache, of which a kernel may lack two
unfoldable pub cache_fields : Types → Option ℕ → Option CacheFields
cache_fields types cache = do
  ty ← cache
  size ← scalar_in types cache (codes "size")
  offset ← scalar_in types cache (codes "offset")
  nodes ← pointers_in types cache (codes "node")
  Some (record {
    ty = ty;
    size = size;
    offset = offset;
    random = scalar_in types cache (codes "random");
    left_pad = scalar_in types cache (codes "red_left_pad");
    nodes = nodes;
  })

-- those of a memory node
unfoldable pub node_fields : Types → Option ℕ → Option ℕ → Option NodeFields
node_fields types list node = do
  ty ← node
  nr_partial ← scalar_in types node (codes "nr_partial")
  partial ← inner_in types list node (codes "partial")
  Some (record { ty = ty; nr_partial = nr_partial; partial = partial })

-- those of a slab
unfoldable pub slab_fields : Types → Option ℕ → Option ℕ → Option SlabFields
slab_fields types list slab = do
  ty ← slab
  slab_cache ← scalar_in types slab (codes "slab_cache")
  slab_list ← inner_in types list slab (codes "slab_list")
  freelist ← scalar_in types slab (codes "freelist")
  inuse ← scalar_in types slab (codes "inuse")
  objects ← scalar_in types slab (codes "objects")
  frozen ← scalar_in types slab (codes "frozen")
  Some (record {
    ty = ty;
    slab_cache = slab_cache;
    slab_list = slab_list;
    freelist = freelist;
    inuse = inuse;
    objects = objects;
    frozen = frozen;
  })

-- page descriptors have a size, and there are at most 65,536 memory nodes
abbrev pub fits : ℕ → ℕ → Bool
fits page nodes = nat_le 1 page && nat_le nodes 65536

-- the fields of all parts, where the parts fit
abbrev pub slub_with : Kernel → ListShape → (cache : CacheFields) → NodeFields → SlabFields → (page : ℕ) → 1 ≤ page → cache.nodes.count ≤ 65536 → SlubShape
slub_with kernel list cache node slab page some few = record {
  vmemmap = vmemmap_in kernel;
  direct = direct_in kernel;
  page_size = page;
  cache = cache.ty;
  size = cache.size;
  offset = cache.offset;
  random = cache.random;
  left_pad = cache.left_pad;
  node = cache.nodes.byte;
  nodes = cache.nodes.count;
  node_ids = node_ids_in kernel cache.nodes.count;
  knode = node.ty;
  nr_partial = node.nr_partial;
  partial = node.partial;
  list = list;
  slab = slab.ty;
  slab_cache = slab.slab_cache;
  slab_list = slab.slab_list;
  freelist = slab.freelist;
  inuse = slab.inuse;
  objects = slab.objects;
  frozen = slab.frozen;
  some = some;
  few = few;
}

abbrev pub slub_if : Kernel → ListShape → (cache : CacheFields) → NodeFields → SlabFields → (page : ℕ) (fit : Bool) → fits page cache.nodes.count ≡ fit → Option SlubShape
slub_if kernel list cache node slab page false is = None
slub_if kernel list cache node slab page true is =
    Some (slub_with kernel list cache node slab page
    (leb-true 1 page (and_parts (nat_le 1 page) (nat_le cache.nodes.count 65536) is).0)
    (leb-true cache.nodes.count 65536 (and_parts (nat_le 1 page) (nat_le cache.nodes.count 65536) is).1))

abbrev pub slub_of : Kernel → ListShape → CacheFields → NodeFields → SlabFields → ℕ → Option SlubShape
slub_of kernel list cache node slab page = slub_if kernel list cache node slab page (fits page cache.nodes.count) refl

-- where the fields of a slab cache stand, in a kernel that has them
unfoldable pub slub_words : Kernel → Row → Option SlubShape
slub_words kernel needs = do
  list ← list_words kernel.types needs.node
  cache ← cache_fields kernel.types needs.head
  node ← node_fields kernel.types needs.node (struct_named kernel.types (codes "kmem_cache_node"))
  slab ← slab_fields kernel.types needs.node needs.element
  page ← option_and_then (size kernel.types) (struct_named kernel.types (codes "page"))
  slub_of kernel list cache node slab page

-- the types of these fields are among so many
pub record IsCacheInside (count : ℕ) (cache : CacheFields) : Type 0 where
  pub ty : cache.ty ≤ count
  pub size : cache.size.ty ≤ count
  pub offset : cache.offset.ty ≤ count
  pub random : IfSome cache.random (λ (f : Field). f.ty ≤ count)
  pub left_pad : IfSome cache.left_pad (λ (f : Field). f.ty ≤ count)

pub record IsNodeInside (count : ℕ) (node : NodeFields) : Type 0 where
  pub ty : node.ty ≤ count
  pub nr_partial : node.nr_partial.ty ≤ count

pub record IsSlabInside (count : ℕ) (slab : SlabFields) : Type 0 where
  pub ty : slab.ty ≤ count
  pub slab_cache : slab.slab_cache.ty ≤ count
  pub freelist : slab.freelist.ty ≤ count
  pub inuse : slab.inuse.ty ≤ count
  pub objects : slab.objects.ty ≤ count
  pub frozen : slab.frozen.ty ≤ count
