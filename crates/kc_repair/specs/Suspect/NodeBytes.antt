-- The bytes of an xarray's node, all of which one write may have destroyed. Source: the kernel's include/linux/xarray.h, `struct xa_node`: its first
-- word has `shift`, `offset`, `count` and `nr_values`, and no other byte of it is in use; lib/xarray.c, `xas_alloc` and `xas_store`, say what they hold.
use Rattle.std.specs.Prelude.{ℕ, ◌+◌, ◌*◌, ◌/◌, ◌%◌, ◌==◌, Bool, if◌then◌else◌, List, [], ◌∷◌, map, position, Option, Some, None, option_to_list}
use Rattle.std.specs.List.{flat_map, range_with_len}
use Rattle.std.specs.Option.{unwrap_or}
use Rattle.kc_memory.specs.declared.words.VWord.{VWord}
use Rattle.kc_memory.specs.Image.{Image}
use Rattle.kc_memory.specs.Translation.{vword}
use Rattle.kc_found.specs.Nodes.{at_offset, readable}
use Rattle.kc_found.specs.Violations.{Violation}
use Rattle.kc_found.specs.XaLayouts.{XaLayout}
use Rattle.kc_found.specs.XaNodes.{chunk_shift, filled, odd, word_of}
use Rattle.kc_kinds.specs.declared.kind.Kind.{Kind}
use Rattle.kc_kinds.specs.declared.kind.Kind.TheVariants.{Pids, Xarray}
use Rattle.kc_repair.specs.declared.suspect.change.Change.{Change}
use Rattle.kc_repair.specs.declared.suspect.node_bytes.NodeBytes.{NodeBytes}
use Rattle.kc_repair.specs.Suspect.Changes.{to, with_bits}
use Rattle.kc_repair.specs.Suspect.Links.{node_of}
use Rattle.kc_repair.specs.Suspect.Slots.{slot_at}

-- the words in the first so many slots of a node, but for those that can't be read
abbrev pub slot_in : Image → ℕ → List VWord
slot_in image at = option_to_list (readable (vword image at))

unfoldable pub slots_in : Image → XaLayout → ℕ → ℕ → List VWord
slots_in image s node count = flat_map (slot_in image) (map (slot_at s node) (range_with_len 0 count))

-- the number of the slot with an entry
abbrev pub has_entry : ℕ → VWord → Bool
has_entry entry slot = slot.value == entry

abbrev pub slot_number : ℕ → List VWord → ℕ
slot_number entry slots = unwrap_or (position (has_entry entry) slots) 0

-- `offset` by the slots of the node's parent, in one of which the node's address stands as an entry: 0 where it has none
abbrev pub offset_below : Image → XaLayout → ℕ → ℕ → ℕ
offset_below image s node parent = if parent == 0 then 0 else slot_number (at_offset node 2) (slots_in image s parent s.chunk)

abbrev pub offset_by : Image → XaLayout → ℕ → Option VWord → ℕ
offset_by image s node None = 0
offset_by image s node (Some w) = offset_below image s node w.value

-- what a node's bytes hold but for `shift`, by its own slots and those of its parent
abbrev pub bytes_by : Image → XaLayout → ℕ → List VWord → NodeBytes
bytes_by image s node slots = record {
  offset = offset_by image s node (readable (vword image (at_offset node s.parent)));
  count = filled slots;
  values = odd slots;
}

-- a word in which the byte at an address becomes a number
abbrev pub with_byte : ℕ → ℕ → ℕ → ℕ
with_byte at n word = with_bits (8 * (at % 8)) 8 n word

-- the node's first word
abbrev pub first_word : XaLayout → ℕ → ℕ → NodeBytes → ℕ
first_word s node shift b =
    with_byte (at_offset node s.shift) shift (with_byte (at_offset node s.offset) b.offset
    (with_byte (at_offset node s.count) b.count (with_byte (at_offset node s.nr_values) b.values 0)))

abbrev pub with_shift : XaLayout → ℕ → NodeBytes → ℕ → Change
with_shift s node b shift = to (word_of (at_offset node s.shift)) (first_word s node shift b)

-- with the shift of each of so many levels
unfoldable pub with_shifts : XaLayout → ℕ → NodeBytes → ℕ → List Change
with_shifts s node b levels = map (λ level. with_shift s node b (level * chunk_shift s.chunk)) (range_with_len 0 levels)

-- with the one that is expected; of the root each is tried
abbrev pub whole_by : XaLayout → ℕ → NodeBytes → Option ℕ → List Change
whole_by s node b (Some shift) = with_shift s node b shift ∷ []
whole_by s node b None = with_shifts s node b (60 / chunk_shift s.chunk + 1)

abbrev pub whole_word : Image → XaLayout → ℕ → Option ℕ → List Change
whole_word image s node expected = whole_by s node (bytes_by image s node (slots_in image s node s.chunk)) expected

-- that of the node that has a wrong `shift`
abbrev pub whole_words : Image → Kind → Violation → List Change
whole_words image (Xarray s) v = whole_word image s (node_of v.at s.shift) v.expected
whole_words image (Pids s) v = whole_word image s.xa (node_of v.at s.xa.shift) v.expected
whole_words image _ v = []
