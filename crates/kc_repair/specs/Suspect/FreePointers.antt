-- Free pointers that may have led elsewhere. Source: the kernel's mm/slub.c, `freelist_ptr_encode`, which decodes what it encoded.
use Rattle.std.specs.Prelude.{ℕ, ◌*◌, ◌%◌, ◌^◌, List, [], ◌∷◌, map, Option, Some, None, option_and_then}
use Rattle.std.specs.List.{range_with_len}
use Rattle.std.specs.Option.{option_map_or}
use Rattle.kc_memory.specs.Image.{Image}
use Rattle.kc_view.specs.declared.slub.SlubShape.{SlubShape}
use Rattle.kc_found.specs.FreeLists.{decoded}
use Rattle.kc_found.specs.Nodes.{at_offset}
use Rattle.kc_repair.specs.declared.suspect.change.Change.{Change}
use Rattle.kc_repair.specs.Suspect.Changes.{to}
use Rattle.kc_repair.specs.Suspect.Fields.{number_at}
use Rattle.kc_repair.specs.Suspect.Links.{node_of}

-- A free pointer leads nowhere, or to an object of the slab, of which those are tried that stand at most 64 objects before or after its own.
-- That no free object is lost so is for the walk to judge: it counts them.
abbrev pub free_pointer : Option ℕ → ℕ → ℕ → Change
free_pointer None at object = to at object
free_pointer (Some random) at object = to at (decoded object random at)

-- the object so many after the one that stands 64 before an object
abbrev pub object_near : ℕ → ℕ → ℕ → ℕ
object_near size object i = at_offset (node_of object (64 * size % 2 ^ 64)) (i * size % 2 ^ 64)

-- the first so many of these
unfoldable pub free_pointers : Option ℕ → ℕ → ℕ → ℕ → ℕ → List Change
free_pointers random at size object count = map (λ i. free_pointer random at (object_near size object i)) (range_with_len 0 count)

abbrev pub free_by : Option ℕ → ℕ → ℕ → ℕ → List Change
free_by random at size offset = free_pointer random at 0 ∷ free_pointers random at size (node_of at offset) 129

-- by the fields of the cache, whose objects all have their free pointer at one offset, encoded or not
abbrev pub random_at : Image → SlubShape → ℕ → Option ℕ
random_at image s cache = option_and_then (λ f. number_at image f cache) s.random

abbrev pub free_in : Image → SlubShape → ℕ → ℕ → List Change
free_in image s cache at =
    option_map_or (λ size. option_map_or (free_by (random_at image s cache) at size) (number_at image s.offset cache) []) (number_at image s.size cache) []
