-- Which pages are of KFENCE's pool. Source: the kernel's mm/kfence/core.c: `__kfence_pool` is the pool's first byte, 0 where there is none.
-- `kfence_init_pool` gives each even page from the second on the mark of a slab, and its metadata the page's address: `addr`, which
-- `kfence_guarded_alloc` moves to the object within the page. The metadata of a page is found as by `addr_to_metadata`:
-- `kfence_metadata` is their array, and from 6.6 on, which has `kfence_metadata_init` beside it, a pointer to it. A page's own words don't tell it:
-- nothing sets `inuse` and `freelist`, and in a pool that was made after boot (`kfence_init_late`) they are what the page had before.
use Rattle.std.specs.Prelude.{ℕ, ◌-◌, ◌*◌, ◌/◌, ◌%◌, Bool, false, ◌&&◌, nat_eq, nat_lt, is_some, if◌then◌else◌, codes, Option, Some, None, option_and_then}
use Rattle.kc_memory.specs.Image.{Image}
use Rattle.kc_layout.specs.Size.{size}
use Rattle.kc_view.specs.declared.slub.SlubBases.{SlubBases}
use Rattle.kc_found.specs.Nodes.{at_offset}
use Rattle.kc_kinds.specs.Kernels.{Kernel, address_in}
use Rattle.kc_kinds.specs.Members.{◌>>=◌, scalar_in, struct_named}
use Rattle.kc_owner.specs.Area.Processors.{less}
use Rattle.kc_owner.specs.Kernels.{single}
use Rattle.kc_owner.specs.Known.{known}
use Rattle.kc_owner.specs.Rings.{word_at}
use Rattle.kc_slab_page.specs.declared.fence.FencePool.{FencePool}
use Rattle.kc_slab_page.specs.declared.fence.FenceShape.{FenceShape}

-- where a kernel with KFENCE has the words that tell it
abbrev pub fence_by : Kernel → ℕ → ℕ → ℕ → ℕ → FenceShape
fence_by kernel pool metadata ty bytes = record {
  pool = pool;
  metadata = metadata;
  pointed = is_some (single (address_in kernel (codes "kfence_metadata_init")));
  size = bytes;
  addr = scalar_in kernel.types (Some ty) (codes "addr");
}

abbrev pub fence_shape : Kernel → Option FenceShape
fence_shape kernel = do
  pool ← single (address_in kernel (codes "__kfence_pool"))
  metadata ← single (address_in kernel (codes "kfence_metadata"))
  ty ← struct_named kernel.types (codes "kfence_metadata")
  bytes ← size kernel.types ty
  Some (fence_by kernel pool metadata ty bytes)

-- the number of the page at an address where physical memory is mapped
abbrev pub page_at : SlubBases → ℕ → ℕ
page_at b address = less address b.direct / 4096

-- where the metadata begin
abbrev pub metadata_at : Image → FenceShape → Option ℕ
metadata_at image shape = if shape.pointed then word_at image shape.metadata else Some shape.metadata

-- the pool, where there is one
abbrev pub pool_by : SlubBases → FenceShape → ℕ → ℕ → Option FencePool
pool_by b shape pool metadata = if nat_eq pool 0 then None else Some (record { shape = shape; first = page_at b pool; metadata = metadata })

abbrev pub pool_with : Image → SlubBases → FenceShape → Option FencePool
pool_with image b shape = do
  pool ← word_at image shape.pool
  metadata ← metadata_at image shape
  pool_by b shape pool metadata

abbrev pub pool_at : Image → SlubBases → Option FenceShape → Option FencePool
pool_at image b shape = option_and_then (pool_with image b) shape

-- an even page from the second on; lib/Kconfig.kfence, KFENCE_NUM_OBJECTS: 65,535 of them at most
abbrev pub in_pool : FencePool → ℕ → Bool
in_pool pool number = nat_lt pool.first number && (nat_lt (number - pool.first) 131072 && nat_eq ((number - pool.first) % 2) 0)

-- its metadata
abbrev pub metadata_of : FencePool → ℕ → ℕ
metadata_of pool number = at_offset pool.metadata (pool.shape.size * ((number - pool.first) / 2 - 1))

-- which have an address in the page
abbrev pub is_there : SlubBases → ℕ → Option ℕ → Bool
is_there b number None = false
is_there b number (Some address) = nat_eq (page_at b address) number

abbrev pub is_named_by : Image → SlubBases → FencePool → ℕ → Bool
is_named_by image b pool number = in_pool pool number && is_there b number (known image (metadata_of pool number) pool.shape.addr)

-- a page that the metadata of a kernel name as one of its pool
abbrev pub is_named : Image → SlubBases → Option FencePool → ℕ → Bool
is_named image b None number = false
is_named image b (Some pool) number = is_named_by image b pool number
