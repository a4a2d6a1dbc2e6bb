-- Where the words stand that tell which slabs processors own. Source: the kernel's include/linux/slub_def.h, `struct kmem_cache` and
-- `struct kmem_cache_cpu` (from 6.8 on in mm/slab.h and mm/slub.c).
use Rattle.std.specs.Prelude.{codes, Option, Some}
use Rattle.kc_kinds.specs.Kernels.{Kernel, address_in}
use Rattle.kc_kinds.specs.Members.{◌>>=◌, scalar_in, struct_named}
use Rattle.kc_owner.specs.Kernels.{single}
use Rattle.kc_slab_scan.specs.declared.cpu_words.CpuShape.{CpuShape}

-- in a kernel that has them
unfoldable pub cpu_shape : Kernel → Option CpuShape
cpu_shape kernel = do
  cpu_slab ← scalar_in kernel.types (struct_named kernel.types (codes "kmem_cache")) (codes "cpu_slab")
  slab ← scalar_in kernel.types (struct_named kernel.types (codes "kmem_cache_cpu")) (codes "slab")
  freelist ← scalar_in kernel.types (struct_named kernel.types (codes "kmem_cache_cpu")) (codes "freelist")
  offsets ← single (address_in kernel (codes "__per_cpu_offset"))
  possible ← single (address_in kernel (codes "__cpu_possible_mask"))
  count ← single (address_in kernel (codes "nr_cpu_ids"))
  Some (record { cpu_slab = cpu_slab; slab = slab; freelist = freelist; offsets = offsets; possible = possible; count = count })
