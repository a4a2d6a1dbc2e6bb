-- Nodes that point back to the link which should lead to them. Source: the kernel's include/linux/list.h, `hlist_add_head` and `hlist_add_behind`, by which
-- `pprev` is the address of the link; include/linux/rbtree.h, `rb_link_node`, by which a node's first word has its parent, and rbtree_augmented.h, `rb_parent`;
-- include/linux/xarray.h, `struct xa_node`, whose `array` is the address of the xarray, and `xa_mk_node`.
use Rattle.std.specs.Prelude.{ℕ, ◌+◌, ◌-◌, ◌*◌, ◌/◌, ◌==◌, nat_lt, Bool, true, false, if◌then◌else◌, List, [], ◌∷◌, ◌++◌, map, Option, Some, None}
use Rattle.std.specs.List.{flat_map, range_with_len}
use Rattle.std.specs.Option.{option_map_or}
use Rattle.kc_memory.specs.declared.words.VWord.{VWord}
use Rattle.kc_memory.specs.Image.{Image}
use Rattle.kc_memory.specs.Translation.{vword}
use Rattle.kc_found.specs.declared.shapes.HShape.{HShape}
use Rattle.kc_found.specs.declared.shapes.RbShape.{RbShape}
use Rattle.kc_found.specs.Nodes.{at_offset, readable}
use Rattle.kc_found.specs.Violations.{Violation}
use Rattle.kc_found.specs.XaLayouts.{XaLayout}
use Rattle.kc_kinds.specs.declared.kind.Kind.{Kind}
use Rattle.kc_kinds.specs.declared.kind.Kind.TheVariants.{Hlist, Pids, Xarray}
use Rattle.kc_repair.specs.declared.suspect.backs.Back.{Back}
use Rattle.kc_repair.specs.declared.suspect.change.Change.{Change}
use Rattle.kc_repair.specs.Suspect.Changes.{flipped, to}
use Rattle.kc_repair.specs.Suspect.Links.{node_of}

-- what a word points back to: that of a tree's node has the node's colour in its lowest bits
abbrev pub named_by : Bool → ℕ → ℕ
named_by coloured value = if coloured then value / 4 * 4 else value

-- a node points back to what is wanted
abbrev pub points_back : Image → Back → ℕ → Bool
points_back image b node = option_map_or (λ (w : VWord). named_by b.coloured w.value == b.wanted) (readable (vword image (at_offset node b.offset))) false

-- a link leads to it, where that is so
abbrev pub back_by : Image → Back → ℕ → ℕ → List Change
back_by image b link node = if points_back image b node then to link (at_offset node b.tag) ∷ [] else []

-- the addresses that are near a number: it with one bit changed, the lowest first, and then the words of its 4096 bytes
abbrev pub near_number : ℕ → ℕ → ℕ
near_number value i = if nat_lt i 64 then flipped value i else value / 4096 * 4096 + 8 * (i - 64)

-- those of the first so many at which such a node stands
unfoldable pub backs_near : Image → Back → ℕ → ℕ → ℕ → List Change
backs_near image b link value count = flat_map (back_by image b link) (map (near_number value) (range_with_len 0 count))

abbrev pub backs_of : Image → Back → Option VWord → List Change
backs_of image b None = []
backs_of image b (Some w) = backs_near image b w.va (node_of w.value b.tag) 576

-- of the link at an address
abbrev pub backs_at : Image → Back → ℕ → List Change
backs_at image b link = backs_of image b (readable (vword image link))

-- of a link of a hash chain
abbrev pub of_chain : HShape → ℕ → Back
of_chain s link = record { offset = s.pprev; coloured = false; wanted = link; tag = 0 }

abbrev pub chain_backs : Image → HShape → ℕ → List Change
chain_backs image s link = backs_at image (of_chain s link) link

-- of a tree's link to a child of this node
abbrev pub of_tree : RbShape → ℕ → Back
of_tree s parent = record { offset = s.parent_color; coloured = true; wanted = parent; tag = 0 }

-- of a tree's link, which is the left one or the right one of its node
abbrev pub tree_backs : Image → RbShape → ℕ → List Change
tree_backs image s link = backs_at image (of_tree s (node_of link s.left)) link ++ backs_at image (of_tree s (node_of link s.right)) link

-- of both links of a tree's node
abbrev pub child_backs : Image → RbShape → ℕ → List Change
child_backs image s parent =
    if parent == 0 then []
    else backs_at image (of_tree s parent) (at_offset parent s.left) ++ backs_at image (of_tree s parent) (at_offset parent s.right)

-- of an entry of an xarray
abbrev pub of_array : XaLayout → ℕ → Back
of_array s array = record { offset = s.array; coloured = false; wanted = array; tag = 2 }

abbrev pub entry_backs : Image → Kind → Violation → ℕ → List Change
entry_backs image (Xarray s) v entry = backs_at image (of_array s v.start) entry
entry_backs image (Pids s) v entry = backs_at image (of_array s.xa (at_offset v.start s.idr_rt)) entry
entry_backs image _ v entry = []

-- of the entry in an xarray's head
abbrev pub head_backs : Image → Kind → Violation → List Change
head_backs image (Xarray s) v = entry_backs image (Xarray s) v (at_offset v.start s.head)
head_backs image (Pids s) v = entry_backs image (Pids s) v (at_offset (at_offset v.start s.idr_rt) s.xa.head)
head_backs image _ v = []

-- of a hash chain's link, in an audit of these kinds
abbrev pub hash_backs : Image → Kind → ℕ → List Change
hash_backs image (Hlist s) link = chain_backs image s link
hash_backs image (Pids s) link = chain_backs image s.chain link
hash_backs image _ link = []

-- of the one that a violation of `pprev` expects
abbrev pub back_changes : Image → Kind → Violation → List Change
back_changes image kind v = option_map_or (hash_backs image kind) v.expected []
