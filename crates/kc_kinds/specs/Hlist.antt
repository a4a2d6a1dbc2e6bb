-- Where the words of hash chains stand. Source: the kernel's include/linux/types.h, `struct hlist_head` and
-- `struct hlist_node`.
use Rattle.std.specs.Prelude.{ℕ, codes, Option, Some}
use Rattle.kc_btf.specs.Btf.{Types}
use Rattle.kc_found.specs.declared.shapes.HShape.{HShape}
use Rattle.kc_kinds.specs.Members.{◌>>=◌, word_in}

-- the words of a hash chain
unfoldable pub hlist_words : Types → Option ℕ → Option ℕ → Option HShape
hlist_words types head node = do
  first ← word_in types head (codes "first")
  next ← word_in types node (codes "next")
  pprev ← word_in types node (codes "pprev")
  Some (record { first = first; next = next; pprev = pprev })
