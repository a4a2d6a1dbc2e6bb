-- Whose bytes a node or an object has, by the words beside a violation. Source: the kernel's include/linux/rbtree_types.h, `struct rb_node`; include/linux/list.h,
-- `INIT_LIST_HEAD` and `__list_add`.
use Rattle.std.specs.Prelude.{ℕ, zero, suc, ◌*◌, ◌/◌, ◌==◌, ◌&&◌, ◌||◌, not, Bool, true, false, if◌then◌else◌, List, ◌++◌, Option, Some, None, option_and_then}
use Rattle.std.specs.Option.{option_map_or}
use Rattle.kc_memory.specs.Image.{Image}
use Rattle.kc_found.specs.Nodes.{at_offset}
use Rattle.kc_found.specs.Violations.{Violation}
use Rattle.kc_repair.specs.Suspect.Links.{node_of}
use Rattle.kc_cause.specs.declared.signs.Sign.{Sign}
use Rattle.kc_cause.specs.declared.signs.Sign.TheVariants.{Twice, Copied}
use Rattle.kc_cause.specs.Signs.{beside_lines, is_of_links, is_of_list, is_of_parent, is_some_of, list_sign, number_at, same_at, sign_lines}

-- ---- by the words of a tree's nodes

-- whether two addresses hold the same number
abbrev pub agree_at : Image → ℕ → ℕ → Bool
agree_at image one other = option_map_or (λ (n : ℕ). is_some_of n (number_at image one)) (number_at image other) false

-- the words of a node: that of its parent and colour, `rb_right` and `rb_left` (include/linux/rbtree_types.h)
abbrev pub has_words : Image → ℕ → ℕ → Bool
has_words image node other =
    agree_at image node other && (agree_at image (at_offset node 8) (at_offset other 8) && agree_at image (at_offset node 16) (at_offset other 16))

-- Leaves below one parent may have the same words: of such the two words before them have to be the same as well.
abbrev pub has_child : Image → ℕ → ℕ → Bool
has_child image node other = same_at image (at_offset node 8) (at_offset other 8) || same_at image (at_offset node 16) (at_offset other 16)

abbrev pub has_before : Image → ℕ → ℕ → Bool
has_before image node other = same_at image (node_of node 8) (node_of other 8) && same_at image (node_of node 16) (node_of other 16)

abbrev pub has_more : Image → ℕ → ℕ → Bool
has_more image node other = has_child image node other || has_before image node other

abbrev pub is_copied_node : Image → ℕ → ℕ → Bool
is_copied_node image node other = not (other == node) && (has_words image node other && has_more image node other)

abbrev pub node_sign : Image → ℕ → ℕ → Option Sign
node_sign image node other = if is_copied_node image node other then Some (Copied other) else None

-- the first sign of two
abbrev pub or_sign : Option Sign → Option Sign → Option Sign
or_sign (Some sign) other = Some sign
or_sign None other = other

-- the node that a link leads to
abbrev pub child_sign : Image → ℕ → ℕ → Option Sign
child_sign image node link = option_and_then (node_sign image node) (number_at image link)

-- A node whose parent isn't the one above: its bytes are those of a child of that parent, or those of the node above are that parent's, which has this child.
abbrev pub below_sign : Image → ℕ → ℕ → Option Sign
below_sign image node parent = or_sign (child_sign image node (at_offset parent 8)) (child_sign image node (at_offset parent 16))

abbrev pub above_sign : Image → Option ℕ → ℕ → Option Sign
above_sign image above parent = option_and_then (λ (node : ℕ). node_sign image node parent) above

abbrev pub parent_sign : Image → Violation → ℕ → Option Sign
parent_sign image v word = or_sign (below_sign image v.at (word / 4 * 4)) (above_sign image v.expected (word / 4 * 4))

abbrev pub tree_sign : Image → Violation → Option Sign
tree_sign image v = option_and_then (parent_sign image v) (number_at image v.at)

-- ---- by the nodes of lists near a violation

-- `prev` of the words at an address, which are read as a list's node, leads to a node
abbrev pub leads_here : Image → ℕ → Option ℕ → Bool
leads_here image node None = false
leads_here image node (Some prev) = is_some_of node (number_at image prev)

-- two nodes of a list that share a word say nothing of each other
abbrev pub shares_word : ℕ → ℕ → Bool
shares_word one other = (one == other) || ((at_offset one 8 == other) || (at_offset other 8 == one))

-- Both neighbours of a list's node lead to another node, which has the same `next` and the same `prev`: its bytes are those of that one. No sound list has such
-- a node (include/linux/list.h, `__list_add`). Of an empty list's head, which leads to itself (`INIT_LIST_HEAD`), that one is both neighbours.
abbrev pub is_copied_link : Image → ℕ → ℕ → Bool
is_copied_link image at other =
    not (shares_word at other) && (same_at image at other && (same_at image (at_offset at 8) (at_offset other 8) && leads_here image other (number_at image (at_offset at 8))))

abbrev pub link_sign : Image → ℕ → ℕ → Option Sign
link_sign image at other = if is_copied_link image at other then Some (Copied other) else None

-- that one is the node to which the node after these words leads back
abbrev pub next_sign : Image → ℕ → ℕ → Option Sign
next_sign image at next = option_and_then (link_sign image at) (number_at image (at_offset next 8))

abbrev pub word_sign : Image → ℕ → Option Sign
word_sign image at = option_and_then (next_sign image at) (number_at image at)

-- the first of so many words from an address on
unfoldable pub heads_sign : ℕ → Image → ℕ → Option Sign
heads_sign zero image at = None
heads_sign (suc more) image at = or_sign (word_sign image at) (heads_sign more image (at_offset at 8))

-- from 512 bytes before a violation's word up to 512 bytes after it
abbrev pub near_sign : Image → ℕ → Option Sign
near_sign image at = heads_sign 128 image (node_of (at / 8 * 8) 512)

-- ---- by the way back of a ring's node

abbrev pub comes_on : ℕ → ℕ → (ℕ → Bool) → Option ℕ → Bool
comes_on node above rest None = false
comes_on node above rest (Some back) = (back == node) || (not (back == above) && rest back)

-- whether the way back by `prev` comes to a node before it comes to another one, by at most so many pointers
unfoldable pub comes_back : ℕ → Image → ℕ → ℕ → ℕ → Bool
comes_back zero image node above here = false
comes_back (suc more) image node above here = comes_on node above (comes_back more image node above) (number_at image (at_offset here 8))

-- The node that `prev` names leads here too, and the way back from there comes here again, but not to the one before, which leads here as well: so the node
-- was added once more, further on, and was left where it stood.
abbrev pub is_again : Image → ℕ → ℕ → ℕ → Bool
is_again image node above prev = not (prev == node) && (is_some_of node (number_at image prev) && comes_back 65536 image node above prev)

abbrev pub again_sign : Image → ℕ → ℕ → ℕ → Option Sign
again_sign image node prev above = if is_again image node above prev then Some (Twice node) else None

abbrev pub ring_sign : Image → Violation → ℕ → Option Sign
ring_sign image v prev = option_and_then (again_sign image (node_of v.at 8) prev) v.expected

abbrev pub again_of : Image → Violation → Option Sign
again_of image v = option_and_then (ring_sign image v) (number_at image v.at)

-- ---- of a violation

abbrev pub links_sign : Image → Violation → Option Sign
links_sign image v = or_sign (list_sign image v) (if is_of_list v.rule then again_of image v else None)

abbrev pub own_sign : Image → Violation → Option Sign
own_sign image v = if is_of_links v.rule then links_sign image v else (if is_of_parent v.rule then tree_sign image v else None)

abbrev pub found_sign : Image → Violation → Option Sign
found_sign image v = or_sign (own_sign image v) (near_sign image v.at)

-- all that these words show
abbrev pub shown_signs : Image → Violation → List ℕ
shown_signs image v = beside_lines image v ++ sign_lines (found_sign image v)
