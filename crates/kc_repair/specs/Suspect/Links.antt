-- The words that hold the links of chains and trees.
use Rattle.std.specs.Prelude.{ℕ, zero, suc, ◌+◌, ◌-◌, ◌%◌, ◌^◌, ◌==◌, if◌then◌else◌, List, [], ◌∷◌, ◌++◌, Option, Some, None, option_map, option_to_list, slice_get}
use Rattle.std.specs.List.{filter}
use Rattle.kc_memory.specs.declared.words.VWord.{VWord}
use Rattle.kc_memory.specs.Image.{Image}
use Rattle.kc_memory.specs.Translation.{vword}
use Rattle.kc_found.specs.declared.shapes.ListShape.{ListShape}
use Rattle.kc_found.specs.declared.shapes.RbShape.{RbShape}
use Rattle.kc_found.specs.Nodes.{at_offset, readable}

-- a link, and those behind it
abbrev pub linked : Option VWord → (ℕ → List VWord) → List VWord
linked None rest = []
linked (Some w) rest = w ∷ rest w.value

-- the links of a chain from an address on, each so far from the start of the node that the one before leads to: at most so many, and up to
-- the first that can't be read
unfoldable pub chain_links : Image → ℕ → ℕ → ℕ → List VWord
chain_links image offset at zero = []
chain_links image offset at (suc most) = linked (readable (vword image at)) (λ node. chain_links image offset (at_offset node offset) most)

-- the address of one of some links that lead to a node: the one after so many others of them
abbrev pub leading_to : ℕ → ℕ → List VWord → Option ℕ
leading_to node others links = option_map (λ (w : VWord). w.va) (slice_get (filter (λ (w : VWord). w.value == node) links) others)

abbrev pub chain_link : Image → ℕ → ℕ → ℕ → ℕ → Option ℕ
chain_link image offset first node others = leading_to node others (chain_links image offset first 65536)

-- the address of the node that has a word so far from its start: addresses wrap at 2^64
abbrev pub node_of : ℕ → ℕ → ℕ
node_of at offset = (at + 2 ^ 64 - offset) % 2 ^ 64

-- the node of a ring that is met first, backwards from the head, whose `prev` leads to a node
abbrev pub node_behind : Image → ListShape → ℕ → ℕ → Option ℕ
node_behind image s head node = option_map (λ at. node_of at s.prev) (chain_link image s.prev (at_offset head s.prev) node 0)

-- the addresses of a tree's links in a node, the left one first: none where there is no node
abbrev pub links_below : RbShape → ℕ → List ℕ
links_below s node = if node == 0 then [] else at_offset node s.left ∷ at_offset node s.right ∷ []

abbrev pub below_link : RbShape → Option VWord → List ℕ
below_link s None = []
below_link s (Some w) = links_below s w.value

-- the links of a tree in preorder from some addresses on, of which at most so many are looked at; one that can't be read is passed over
unfoldable pub links_from : Image → RbShape → List ℕ → ℕ → List VWord
links_from image s ahead zero = []
links_from image s [] (suc most) = []
links_from image s (at ∷ ahead) (suc most) =
    option_to_list (readable (vword image at)) ++ links_from image s (below_link s (readable (vword image at)) ++ ahead) most

abbrev pub tree_links : Image → RbShape → ℕ → List VWord
tree_links image s head = links_from image s (at_offset head s.root ∷ []) 8192
