-- As what a violation is suspected: one that lies in a list of tasks or of a slab cache as that of the list's own walk, which is a ring's, and any
-- other as it is.
use Rattle.std.specs.Prelude.{ℕ, List, Option, Some, None, Result, Ok, Err}
use Rattle.std.specs.Option.{option_map_or}
use Rattle.kc_memory.specs.Image.{Image}
use Rattle.kc_found.specs.declared.shapes.ListShape.{ListShape}
use Rattle.kc_found.specs.Rings.{ring_walk}
use Rattle.kc_found.specs.Violations.{Violation}
use Rattle.kc_kinds.specs.declared.kind.Kind.{Kind}
use Rattle.kc_kinds.specs.declared.kind.Kind.TheVariants.{Ring, Slub, Tasks}
use Rattle.kc_which.specs.CacheRings.{cache_ring, partial_head}
use Rattle.kc_which.specs.TaskRings.{ring_head, task_ring}
use Rattle.kc_cause.specs.declared.suspected.AsRing.{AsRing}

-- a kind of structure, and its violation
pub record Suspected : Type 0 where
  pub kind : Kind
  pub violation : Violation

abbrev pub as_it_is : Kind → Violation → Suspected
as_it_is kind v = record { kind = kind; violation = v }

-- by the walk of a ring
abbrev pub by_walk : ListShape → Suspected → Result (List ℕ) Violation → Suspected
by_walk list else_it (Ok nodes) = else_it
by_walk list else_it (Err w) = record { kind = Ring list; violation = w }

abbrev pub in_ring : Image → Kind → Violation → ListShape → ℕ → Suspected
in_ring image kind v list head = by_walk list (as_it_is kind v) (ring_walk image list v.audit head)

abbrev pub suspected : Image → Violation → Kind → Suspected
suspected image v (Tasks shape) = option_map_or (λ r. in_ring image (Tasks shape) v shape.list (ring_head shape v.start r)) (task_ring image shape v) (as_it_is (Tasks shape) v)
suspected image v (Slub shape) = option_map_or (λ l. in_ring image (Slub shape) v shape.list (partial_head shape l)) (cache_ring image shape v) (as_it_is (Slub shape) v)
suspected image v kind = as_it_is kind v

-- as the code keeps it
abbrev pub suspected_view : Kind → Violation → Option AsRing → Suspected
suspected_view kind v None = as_it_is kind v
suspected_view kind v (Some r) = record { kind = r.kind; violation = r.found }
