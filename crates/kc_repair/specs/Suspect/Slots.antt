-- Slots of an xarray's node that may have been null. Source: the kernel's include/linux/xarray.h, `struct xa_node`.
use Rattle.std.specs.Prelude.{ℕ, ◌*◌, ◌/◌, ◌%◌, ◌^◌, Bool, is_none, if◌then◌else◌, List, [], ◌∷◌, map, Option, Some, None}
use Rattle.std.specs.List.{flat_map, range_with_len}
use Rattle.kc_memory.specs.declared.words.VWord.{VWord}
use Rattle.kc_memory.specs.Image.{Image}
use Rattle.kc_memory.specs.Translation.{vword}
use Rattle.kc_found.specs.Nodes.{at_offset, readable}
use Rattle.kc_found.specs.Violations.{Violation}
use Rattle.kc_found.specs.XaLayouts.{XaLayout}
use Rattle.kc_kinds.specs.declared.kind.Kind.{Kind}
use Rattle.kc_kinds.specs.declared.kind.Kind.TheVariants.{Pids, Xarray}
use Rattle.kc_repair.specs.declared.suspect.change.Change.{Change}
use Rattle.kc_repair.specs.Suspect.Changes.{to}
use Rattle.kc_repair.specs.Suspect.Links.{node_of}

-- no word can be read where an entry leads, so it is neither a pointer nor the address of a node, which has its lowest bits set
abbrev pub leads_nowhere : Image → ℕ → Bool
leads_nowhere image entry = is_none (readable (vword image (entry / 8 * 8)))

-- a slot with such an entry as null
abbrev pub emptied_by : Image → Option VWord → List Change
emptied_by image None = []
emptied_by image (Some slot) = if leads_nowhere image slot.value then to slot.va 0 ∷ [] else []

abbrev pub emptied : Image → ℕ → List Change
emptied image at = emptied_by image (readable (vword image at))

-- the address of slot k of a node
abbrev pub slot_at : XaLayout → ℕ → ℕ → ℕ
slot_at s node k = at_offset (at_offset node s.slots) (8 * k % 2 ^ 64)

-- those of its first so many slots
unfoldable pub all_emptied : Image → XaLayout → ℕ → ℕ → List Change
all_emptied image s node count = flat_map (emptied image) (map (slot_at s node) (range_with_len 0 count))

-- those of the node that has a wrong number of slots in use
abbrev pub slots_of : Image → Kind → Violation → List Change
slots_of image (Xarray s) v = all_emptied image s (node_of v.at s.count) s.chunk
slots_of image (Pids s) v = all_emptied image s.xa (node_of v.at s.xa.count) s.xa.chunk
slots_of image _ v = []
