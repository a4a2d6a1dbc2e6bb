use Rattle.std.proofs.Common.{◌≡◌, ◌∙◌, ℕ, codes, Some, None, sym}
use Rattle.kc_layout.specs.declared.place.Field.{Field}
use Rattle.kc_kinds.specs.Kernels.{Kernel, address_in, kernel}
use Rattle.kc_kinds.specs.Members.{scalar_in, struct_named}
use Rattle.kc_owner.specs.Kernels.{single}
use Rattle.kc_slab_scan.specs.CpuShapes.{cpu_shape}
use Rattle.kc_slab_scan.proofs.cpu_words.cpu_shape.Goals as goal

told : (kernel : Kernel) (cpu_slab slab freelist : Field) (offsets possible count : ℕ)
    → scalar_in kernel.types (struct_named kernel.types (codes "kmem_cache")) (codes "cpu_slab") ≡ Some cpu_slab
    → scalar_in kernel.types (struct_named kernel.types (codes "kmem_cache_cpu")) (codes "slab") ≡ Some slab
    → scalar_in kernel.types (struct_named kernel.types (codes "kmem_cache_cpu")) (codes "freelist") ≡ Some freelist
    → single (address_in kernel (codes "__per_cpu_offset")) ≡ Some offsets → single (address_in kernel (codes "__cpu_possible_mask")) ≡ Some possible
    → single (address_in kernel (codes "nr_cpu_ids")) ≡ Some count
    → cpu_shape kernel ≡ Some (record { cpu_slab = cpu_slab; slab = slab; freelist = freelist; offsets = offsets; possible = possible; count = count })
unfolding cpu_shape
told kernel cpu_slab slab freelist offsets possible count a b c d e f = rw (a, b, c, d, e, f)

lacks : (kernel : Kernel) (cpu_slab slab freelist : Field) (offsets : ℕ)
    → scalar_in kernel.types (struct_named kernel.types (codes "kmem_cache")) (codes "cpu_slab") ≡ Some cpu_slab
    → scalar_in kernel.types (struct_named kernel.types (codes "kmem_cache_cpu")) (codes "slab") ≡ Some slab
    → scalar_in kernel.types (struct_named kernel.types (codes "kmem_cache_cpu")) (codes "freelist") ≡ Some freelist
    → single (address_in kernel (codes "__per_cpu_offset")) ≡ Some offsets → single (address_in kernel (codes "__cpu_possible_mask")) ≡ None
    → cpu_shape kernel ≡ None
unfolding cpu_shape
lacks kernel cpu_slab slab freelist offsets a b c d e = rw (a, b, c, d, e)

pub returns-in_err-possible : goal.returns-in_err-possible
returns-in_err-possible c =
    c.from_residual-in_err-possible.ensures ∙ sym (lacks (kernel c.args.known.now) c.in_ok-cpu_slab.cpu_slab c.in_ok-slab.slab c.in_ok-freelist.freelist c.in_ok-offsets.offsets
    (sym (rw c.struct_named-cache.ensures.exact at c.in_ok-cpu_slab.ensures.exact)) (sym (rw c.struct_named-cpu.ensures.exact at c.in_ok-slab.ensures.exact))
    (sym (rw c.struct_named-cpu.ensures.exact at c.in_ok-freelist.ensures.exact)) (sym c.in_ok-offsets.ensures) (sym c.in_err-possible.ensures))

pub returns : goal.returns
returns c =
    sym (told (kernel c.args.known.now) c.in_ok-cpu_slab.cpu_slab c.in_ok-slab.slab c.in_ok-freelist.freelist c.in_ok-offsets.offsets c.in_ok-possible.possible c.in_ok-count.count
    (sym (rw c.struct_named-cache.ensures.exact at c.in_ok-cpu_slab.ensures.exact)) (sym (rw c.struct_named-cpu.ensures.exact at c.in_ok-slab.ensures.exact))
    (sym (rw c.struct_named-cpu.ensures.exact at c.in_ok-freelist.ensures.exact)) (sym c.in_ok-offsets.ensures) (sym c.in_ok-possible.ensures) (sym c.in_ok-count.ensures))
