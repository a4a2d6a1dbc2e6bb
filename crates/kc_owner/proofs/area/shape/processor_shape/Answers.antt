use Rattle.std.proofs.Common.{◌≡◌, ℕ, codes, Some, sym}
use Rattle.kc_kinds.specs.Kernels.{Kernel, address_in, kernel}
use Rattle.kc_owner.specs.Kernels.{single}
use Rattle.kc_owner.specs.Area.Shapes.{processor_shape}
use Rattle.kc_owner.proofs.area.shape.processor_shape.Goals as goal

told : (kernel : Kernel) (count offsets start end : ℕ) → single (address_in kernel (codes "nr_cpu_ids")) ≡ Some count → single (address_in kernel (codes "__per_cpu_offset")) ≡ Some offsets
    → single (address_in kernel (codes "__per_cpu_start")) ≡ Some start → single (address_in kernel (codes "__per_cpu_end")) ≡ Some end
    → processor_shape kernel ≡ Some (record { count = count; offsets = offsets; start = start; end = end })
unfolding processor_shape
told kernel count offsets start end a b d e = rw (a, b, d, e)

pub returns : goal.returns
returns c =
    sym (told (kernel c.args.known.now) c.in_ok-count.count c.in_ok-offsets.offsets c.in_ok-start.start c.in_ok-end.end
    (sym c.in_ok-count.ensures) (sym c.in_ok-offsets.ensures) (sym c.in_ok-start.ensures) (sym c.in_ok-end.ensures))
