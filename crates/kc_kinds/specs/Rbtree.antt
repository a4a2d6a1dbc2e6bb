-- Where the words of red-black trees stand. Source: the kernel's include/linux/rbtree_types.h.
use Rattle.std.specs.Prelude.{ℕ, ◌+◌, ◌%◌, ◌^◌, Bool, true, false, codes, Option, Some, None, option_and_then}
use Rattle.kc_btf.specs.Btf.{Types}
use Rattle.kc_found.specs.declared.shapes.RbShape.{RbShape}
use Rattle.kc_kinds.specs.declared.rbtree.RootWords.{RootWords}
use Rattle.kc_kinds.specs.Members.{◌>>=◌, OwnAt, bits_from, byte_in, struct_named, word_in}

-- the words of a root, which may keep the first node
unfoldable pub root_words : Types → Option ℕ → Bool → Option RootWords
root_words types head false = do
  root ← word_in types head (codes "rb_node")
  Some (record { root = root; leftmost = None })
root_words types head true = do
  inner ← byte_in types head (codes "rb_root")
  root ← word_in types (struct_named types (codes "rb_root")) (codes "rb_node")
  first ← word_in types head (codes "rb_leftmost")
  Some (record { root = (inner + root) % 2 ^ 64; leftmost = Some first })

-- the words of a red-black tree, and what an audit gives of its own
unfoldable pub tree_words : Types → Option ℕ → Option ℕ → OwnAt → Option RbShape
tree_words types head node own = do
  parent ← word_in types node (codes "__rb_parent_color")
  right ← word_in types node (codes "rb_right")
  left ← word_in types node (codes "rb_left")
  words ← root_words types head own.cached
  Some (record {
    parent_color = parent;
    right = right;
    left = left;
    root = words.root;
    leftmost = words.leftmost;
    link = own.link;
    key = option_and_then bits_from own.key;
    unique = own.unique;
  })
