-- Where in its slab a byte lies. Source: the kernel's include/linux/slub_def.h (from 6.8 on in mm/slab.h), `nearest_obj` and
-- `fixup_red_left`: `size` bytes for each object, the first `red_left_pad` of which are before it.
use Rattle.std.specs.Prelude.{ℕ, ◌-◌, ◌*◌, ◌/◌, ◌%◌, nat_le, nat_lt, if◌then◌else◌}
use Rattle.kc_found.specs.declared.free.Grid.{Grid}
use Rattle.kc_found.specs.Nodes.{at_offset}
use Rattle.kc_owner.specs.declared.object.spot.Spot.{Spot}
use Rattle.kc_owner.specs.declared.object.spot.Spot.TheVariants.{Before, Pad, Object, Past}

-- the virtual address of an object
abbrev pub object_at : Grid → ℕ → ℕ
object_at grid number = at_offset grid.base (grid.size * number)

-- so many bytes on from the slab's first one
abbrev pub spot_from : Grid → ℕ → ℕ → Spot
spot_from grid pad above =
    let number = above / grid.size in
    if nat_le grid.objects number then Past
    else (if nat_lt (above % grid.size) pad then Pad number
    else Object (record { number = number; first = object_at grid number; byte = above % grid.size - pad }))

-- a physical address, in the slab whose first byte stands at another one
abbrev pub spot_of : Grid → ℕ → ℕ → ℕ → Spot
spot_of grid pad start pa = if nat_lt pa start then Before else spot_from grid pad (pa - start)
