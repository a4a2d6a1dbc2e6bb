-- Where the words of xarrays stand. Source: the kernel's include/linux/xarray.h, `struct xarray` and `struct xa_node`.
use Rattle.std.specs.Prelude.{ℕ, Bool, codes, Option, Some}
use Rattle.kc_btf.specs.Btf.{Types}
use Rattle.kc_found.specs.declared.xarrays.XaShape.{XaShape}
use Rattle.kc_kinds.specs.declared.xarray.NodeBytes.{NodeBytes}
use Rattle.kc_kinds.specs.Members.{◌>>=◌, chunk_in, small_in, word_in}

-- the bytes of an xarray's node
unfoldable pub node_bytes : Types → Option ℕ → Option NodeBytes
node_bytes types node = do
  shift ← small_in types node (codes "shift")
  offset ← small_in types node (codes "offset")
  count ← small_in types node (codes "count")
  values ← small_in types node (codes "nr_values")
  Some (record { shift = shift; offset = offset; count = count; nr_values = values })

-- the words of an xarray, or of the one of an IDR, and the number of a node's slots. The array of slots and the first of them are looked at.
unfoldable pub xarray_words : Types → Option ℕ → Option ℕ → Bool → Option XaShape
xarray_words types head node idr = do
  head ← word_in types head (codes "xa_head")
  bytes ← node_bytes types node
  parent ← word_in types node (codes "parent")
  array ← word_in types node (codes "array")
  slots ← word_in types node (codes "slots[0]")
  chunk ← chunk_in types node (codes "slots")
  Some (record {
    head = head;
    shift = bytes.shift;
    offset = bytes.offset;
    count = bytes.count;
    nr_values = bytes.nr_values;
    parent = parent;
    array = array;
    slots = slots;
    chunk = chunk;
    idr = idr;
  })
