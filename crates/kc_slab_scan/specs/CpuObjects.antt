-- Whether a processor has an object in its own free list. Source: the kernel's mm/slub.c, `struct kmem_cache_cpu`: of the slab that a processor
-- owns, the objects that it gives out next are in its list `freelist`, and not in the slab's own.
use Rattle.std.specs.Prelude.{ℕ, suc, nat_eq, if◌then◌else◌, List, [], ◌∷◌, length, Option, Some, None, option_map, Result, Ok}
use Rattle.std.specs.List.{position}
use Rattle.kc_memory.specs.Image.{Image}
use Rattle.kc_view.specs.Fields.{read_field, value_of}
use Rattle.kc_found.specs.FreeLists.{free_list}
use Rattle.kc_found.specs.Nodes.{at_offset}
use Rattle.kc_found.specs.Trials.{and_then as ◌>>=◌}
use Rattle.kc_found.specs.Violations.{Violation}
use Rattle.kc_owner.specs.Looked.{looked_at}
use Rattle.kc_slab_scan.specs.declared.cpus.Cpu.{Cpu}
use Rattle.kc_slab_scan.specs.declared.cpu_object.CpuSpot.{CpuSpot}
use Rattle.kc_slab_scan.specs.declared.cpu_object.SlabObject.{SlabObject}
use Rattle.kc_slab_scan.specs.declared.cpu_words.CpuShape.{CpuShape}
use Rattle.kc_slab_scan.specs.Cpus.{cpus_in}

-- the place of an object among those of a processor's list, counted from 1
abbrev pub spot_in : ℕ → ℕ → List ℕ → Option CpuSpot
spot_in cpu object objects =
    option_map (λ i. record { cpu = cpu; place = suc i; length = length objects }) (position (λ at. nat_eq at object) objects)

-- in the list that the processor's words at an address lead to
abbrev pub spot_by : Image → CpuShape → SlabObject → ℕ → ℕ → Result (Option CpuSpot) Violation
spot_by image c o cpu at = do
  first ← read_field image (looked_at at) at c.freelist
  objects ← free_list image o.grid first.number (looked_at at)
  Ok (spot_in cpu o.object objects)

-- which is of the object's slab where the processor owns that
abbrev pub spot_at : Image → CpuShape → SlabObject → ℕ → ℕ → Result (Option CpuSpot) Violation
spot_at image c o cpu at = do
  s ← read_field image (looked_at at) at c.slab
  if nat_eq (value_of s) o.slab then spot_by image c o cpu at else Ok None

-- of one processor
abbrev pub cpu_spot : Image → CpuShape → SlabObject → Cpu → Result (Option CpuSpot) Violation
cpu_spot image c o cpu = do
  base ← read_field image (looked_at o.cache) o.cache c.cpu_slab
  spot_at image c o cpu.number (at_offset (value_of base) cpu.offset)

-- of the first of these processors whose list has the object
abbrev pub or_later : Option CpuSpot → Result (Option CpuSpot) Violation → Result (Option CpuSpot) Violation
or_later None later = later
or_later (Some spot) later = Ok (Some spot)

unfoldable pub spot_from : Image → CpuShape → SlabObject → List Cpu → Result (Option CpuSpot) Violation
spot_from image c o [] = Ok None
spot_from image c o (cpu ∷ cpus) = do
  spot ← cpu_spot image c o cpu
  or_later spot (spot_from image c o cpus)

-- of all that there may be
abbrev pub object_spot : Image → CpuShape → SlabObject → Result (Option CpuSpot) Violation
object_spot image c o = do
  cpus ← cpus_in image c
  spot_from image c o cpus
