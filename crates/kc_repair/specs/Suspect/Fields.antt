-- Fields that may have held another number.
use Rattle.std.specs.Prelude.{ℕ, ◌/◌, ◌%◌, List, [], ◌++◌, Option, Some, None, option_and_then, option_map, option_to_list}
use Rattle.std.specs.Option.{option_map_or}
use Rattle.kc_memory.specs.declared.rule.Rule.{Rule}
use Rattle.kc_memory.specs.declared.rule.Rule.TheVariants.{U1, U2, U7, T1, T3, T4, T5, G1, G2}
use Rattle.kc_memory.specs.Bits.{bits}
use Rattle.kc_memory.specs.Image.{Image}
use Rattle.kc_layout.specs.declared.place.Field.{Field}
use Rattle.kc_view.specs.declared.pids.PidShape.{PidShape}
use Rattle.kc_view.specs.declared.slub.SlubShape.{SlubShape}
use Rattle.kc_view.specs.declared.tasks.TaskShape.{TaskShape}
use Rattle.kc_found.specs.FreeLists.{low_word}
use Rattle.kc_found.specs.Nodes.{at_offset, readable}
use Rattle.kc_found.specs.Violations.{Violation}
use Rattle.kc_kinds.specs.declared.kind.Kind.{Kind}
use Rattle.kc_kinds.specs.declared.kind.Kind.TheVariants.{Slub, Tasks, Pids}
use Rattle.kc_repair.specs.declared.suspect.change.Change.{Change}
use Rattle.kc_repair.specs.Suspect.Changes.{field_to}
use Rattle.kc_repair.specs.Suspect.Links.{node_of}

-- so many bits, from a bit of the byte at an address on, become those of a number, where one is told
abbrev pub bit_changes : Image → ℕ → ℕ → ℕ → Option ℕ → List Change
bit_changes image at bit width n = option_to_list (option_and_then (field_to image at bit width) n)

-- the field that a rule is about
abbrev pub slab_field : SlubShape → Rule → Option Field
slab_field s U1 = Some s.slab_cache
slab_field s U2 = Some s.frozen
slab_field s U7 = Some s.nr_partial
slab_field s _ = None

abbrev pub task_field : TaskShape → Rule → Option Field
task_field s T1 = Some s.group_leader
task_field s T3 = Some s.signal
task_field s T4 = Some s.tgid
task_field s T5 = Some s.real_parent
task_field s _ = None

abbrev pub pid_field : PidShape → Rule → Option Field
pid_field s G1 = Some s.nr
pid_field s G2 = Some s.thread_pid
pid_field s _ = None

abbrev pub field_in : Kind → Rule → Option Field
field_in (Slub s) rule = slab_field s rule
field_in (Tasks s) rule = task_field s rule
field_in (Pids s) rule = pid_field s rule
field_in _ rule = None

-- a field becomes a number, where its first byte stands here
abbrev pub field_changes : Image → ℕ → Option ℕ → Field → List Change
field_changes image at n f = bit_changes image at (f.bits.bit % 8) f.bits.width n

abbrev pub member_changes : Image → Kind → Violation → List Change
member_changes image kind v = option_map_or (field_changes image v.at v.expected) (field_in kind v.rule) []

-- the number of a field of a struct at an address modulo 2^64, where it can be read
abbrev pub number_at : Image → Field → ℕ → Option ℕ
number_at image f at = option_map (λ n. low_word n.value) (readable (bits image at f.bits.bit f.bits.width f.bits.signed))

-- Of a leader's two numbers that differ each may be wrong: first `tgid` becomes the `pid` that stands there, then `pid` the `tgid`. In a group of
-- several threads the walk judges which one is right, for each thread's `tgid` is compared with the leader's; in a group of one nothing tells it.
abbrev pub task_of : TaskShape → ℕ → ℕ
task_of s at = node_of at (s.pid.bits.bit / 8)

abbrev pub own_changes : Image → Kind → Violation → List Change
own_changes image (Tasks s) v =
    field_changes image (at_offset (task_of s v.at) (s.tgid.bits.bit / 8)) (number_at image s.pid (task_of s v.at)) s.tgid ++ field_changes image v.at v.expected s.pid
own_changes image _ v = []
