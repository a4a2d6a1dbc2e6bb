-- Nodes of red-black trees whose parent or colour may be wrong.
use Rattle.std.specs.Prelude.{ℕ, ◌*◌, ◌/◌, ◌==◌, ◌||◌, Bool, false, if◌then◌else◌, List, [], ◌∷◌, ◌++◌, Option, Some, None}
use Rattle.std.specs.List.{flat_map}
use Rattle.std.specs.Option.{option_map_or}
use Rattle.kc_memory.specs.declared.words.VWord.{VWord}
use Rattle.kc_memory.specs.Image.{Image}
use Rattle.kc_memory.specs.Translation.{vword}
use Rattle.kc_found.specs.declared.shapes.RbShape.{RbShape}
use Rattle.kc_found.specs.Nodes.{at_offset, readable}
use Rattle.kc_found.specs.Violations.{Violation}
use Rattle.kc_kinds.specs.declared.kind.Kind.{Kind}
use Rattle.kc_kinds.specs.declared.kind.Kind.TheVariants.{Rbtree}
use Rattle.kc_repair.specs.declared.suspect.change.Change.{Change}
use Rattle.kc_repair.specs.declared.suspect.change.How.TheVariants.{Lowest}
use Rattle.kc_repair.specs.Suspect.Backs.{child_backs}
use Rattle.kc_repair.specs.Suspect.Changes.{each, to}
use Rattle.kc_repair.specs.Suspect.Links.{node_of, tree_links}

-- the links to a node at some addresses, each with any bit changed
abbrev pub bits_if : ℕ → Option VWord → List Change
bits_if node None = []
bits_if node (Some w) = if w.value == node then each w.va ∷ [] else []

abbrev pub link_bits : Image → ℕ → ℕ → List Change
link_bits image node at = bits_if node (readable (vword image at))

-- of those that can lead to a child of this parent: of the root the one in the tree's head
abbrev pub upper_bits : Image → RbShape → ℕ → ℕ → ℕ → List Change
upper_bits image s head node parent =
    if parent == 0 then link_bits image node (at_offset head s.root)
    else link_bits image node (at_offset parent s.left) ++ link_bits image node (at_offset parent s.right)

-- the link at an address leads to a node
abbrev pub leads_to : Image → ℕ → ℕ → Bool
leads_to image node at = option_map_or (λ (w : VWord). w.value == node) (readable (vword image at)) false

-- the parent that a word names has a node as its child. Source: the kernel's include/linux/rbtree_augmented.h, `rb_parent`
abbrev pub has_child : Image → RbShape → ℕ → VWord → Bool
has_child image s node w = leads_to image node (at_offset (w.value / 4 * 4) s.left) || leads_to image node (at_offset (w.value / 4 * 4) s.right)

-- a node hangs where its own parent word says
abbrev pub hangs_there : Image → RbShape → Violation → Bool
hangs_there image s v = option_map_or (has_child image s (node_of v.at s.parent_color)) (readable (vword image v.at)) false

-- the parent word of a node becomes red or black. Source: the same file, `rb_set_parent_color`
abbrev pub parent_words : Violation → ℕ → List Change
parent_words v parent = to v.at parent ∷ to v.at (at_offset parent 1) ∷ []

-- The parent's links to nodes near that point back, the parent word, or the link that led to the node: where the node hangs as that word says, in
-- another tree perhaps, the link comes before the word.
abbrev pub parent_by : Image → RbShape → Violation → ℕ → List Change
parent_by image s v parent =
    child_backs image s parent
    ++ (if hangs_there image s v then upper_bits image s v.start (node_of v.at s.parent_color) parent ++ parent_words v parent
    else parent_words v parent ++ upper_bits image s v.start (node_of v.at s.parent_color) parent)

abbrev pub parent_changes : Image → Kind → Violation → List Change
parent_changes image (Rbtree s) v = option_map_or (parent_by image s v) v.expected []
parent_changes image _ v = []

-- the link in a tree's head that leads to its top node, with any bit changed
abbrev pub top_bits : Image → Kind → Violation → List Change
top_bits image (Rbtree s) v = link_bits image (node_of v.at s.parent_color) (at_offset v.start s.root)
top_bits image _ v = []

-- each single colour of a tree's nodes, in preorder
abbrev pub colour_of : RbShape → VWord → List Change
colour_of s link = if link.value == 0 then [] else record { at = at_offset link.value s.parent_color; how = Lowest } ∷ []

abbrev pub colours_of : RbShape → List VWord → List Change
colours_of s links = flat_map (colour_of s) links

abbrev pub colours : Image → Kind → Violation → List Change
colours image (Rbtree s) v = colours_of s (tree_links image s v.start)
colours image _ v = []
