-- Which lists are the entries of an xarray in preorder: the head's, and after each node's those of all its slots, the lowest
-- first. A test over the words of the nodes that the list names, and no others.
use Rattle.std.specs.Prelude.{ℕ, ◌+◌, ◌-◌, ◌%◌, Bool, true, false, ◌&&◌, nat_eq, not, is_none, if◌then◌else◌, List, [], ◌∷◌, ◌++◌, None, Result, Ok, Err}
use Rattle.std.specs.Option.{unwrap_or}
use Rattle.kc_memory.specs.declared.words.VWord.{VWord}
use Rattle.kc_memory.specs.Image.{Image}
use Rattle.kc_found.specs.declared.xarrays.XaEntry.{XaEntry}
use Rattle.kc_found.specs.declared.xarrays.XaEntry.TheVariants.{Nothing, Pointer, Odd, Node, Zero, Sibling, Bad}
use Rattle.kc_found.specs.declared.xarrays.XaItem.{XaItem}
use Rattle.kc_found.specs.declared.xarrays.XaNode.{XaNode}
use Rattle.kc_found.specs.declared.xarrays.XaWords.{XaWords}
use Rattle.kc_found.specs.FiniteXarrays.{Tree, End, Leaf, Down, Top, Bare, Root, holder_of, item_of}
use Rattle.kc_found.specs.Nodes.{at_offset}
use Rattle.kc_found.specs.Taken.{with_word}
use Rattle.kc_found.specs.Trials.{Trial, passed}
use Rattle.kc_found.specs.Violations.{Violation}
use Rattle.kc_found.specs.XaEntries.{fit, head_fault, kind, slot_fault}
use Rattle.kc_found.specs.XaLayouts.{XaLayout}
use Rattle.kc_found.specs.XaNodes.{XaCourse, behind_entry}
use Rattle.kc_found.specs.XaSites.{index_of, node_site, words_behind, xa_course, xa_node}
use Rattle.kc_xa.specs.declared.listed.spots.XaSpot.{XaSpot}

-- the position of a slot. Where its index is at or above 2^64, an entry breaks X7, and 0 stands in the place of the index
abbrev pub slot_spot : ℕ → XaNode → ℕ → VWord → XaSpot
slot_spot chunk o i w = record {
  word = w;
  fault = slot_fault chunk o.slots o.shift i (fit (index_of o i)) (kind chunk w.value);
  holder = holder_of o i;
  index = unwrap_or (fit (index_of o i)) 0;
}

-- the positions of a node's slots from number i on
abbrev pub slot_spots : ℕ → XaNode → ℕ → List VWord → List XaSpot
slot_spots chunk o i [] = []
slot_spots chunk o i (w ∷ ws) = slot_spot chunk o i w ∷ slot_spots chunk o (i + 1) ws

-- the position of the head
abbrev pub head_spot : ℕ → VWord → XaSpot
head_spot chunk h = record { word = h; fault = head_fault (kind chunk h.value); holder = None; index = 0 }

abbrev pub is_node : XaEntry → Bool
is_node Nothing = false
is_node Pointer = false
is_node Odd = false
is_node Node = true
is_node Zero = false
is_node (Sibling v) = false
is_node Bad = false

-- what is tried of the node at a position
abbrev pub spot_site : XaCourse → XaSpot → List (Trial XaItem)
spot_site c s = node_site c.asked c.shape s.holder (s.word.value - 2) (words_behind c s.word)

-- the positions of its slots
abbrev pub spots_below : XaCourse → XaSpot → XaWords → List XaSpot
spots_below c s n = slot_spots c.shape.chunk (xa_node c.shape s.word s.index n) 0 n.slots

-- what follows a node whose words can be read and taken, without a broken rule
abbrev pub entered : Result (List ℕ) Violation → Result XaWords Violation → (List ℕ → XaWords → Bool) → Bool
entered (Ok taken) (Ok n) go = go taken n
entered (Ok taken) (Err v) go = false
entered (Err v) there go = false

-- these numbers are the entries at these positions, with all below them, one after the other, where these words are taken
abbrev pub listed : XaCourse → List ℕ → List XaSpot → List ℕ → Bool
listed c taken [] [] = true
listed c taken (s ∷ ss) [] = false
listed c taken [] (n ∷ ns) = false
listed c taken (s ∷ ss) (n ∷ ns) =
    nat_eq n s.word.value
    && (is_none s.fault
    && (if is_node (kind c.shape.chunk s.word.value) then entered (passed taken (spot_site c s)) (words_behind c s.word) (λ more w. listed c more (spots_below c s w ++ ss) ns)
    else listed c taken ss ns))

-- the head can be read, and then the numbers are the entries from its position on
abbrev pub headed : XaCourse → Result VWord Violation → List ℕ → Bool
headed c (Err v) ns = false
headed c (Ok h) ns = listed c (with_word [] h.pa) (head_spot c.shape.chunk h ∷ []) ns

abbrev pub is_xarray_of : XaCourse → List ℕ → Bool
is_xarray_of c ns = headed c (behind_entry c.read c.asked None (at_offset c.asked.start c.shape.head)) ns

-- these numbers make up the xarray at an address
unfoldable pub is_xarray : Image → XaLayout → ℕ → List ℕ → Bool
is_xarray image shape start ns = is_xarray_of (xa_course image shape (record { audit = 0; start = start })) ns

-- a plain pointer
abbrev pub is_pointer : ℕ → Bool
is_pointer n = not (nat_eq n 0) && nat_eq (n % 4) 0

-- the pointers among entries, in their order
abbrev pub pointers : List ℕ → List ℕ
pointers [] = []
pointers (n ∷ ns) = if is_pointer n then n ∷ pointers ns else pointers ns

-- the positions of the slots of the node that a position leads to, if it leads to one
abbrev pub spots_behind : Result XaWords Violation → (XaWords → List XaSpot) → List XaSpot
spots_behind (Ok n) go = go n
spots_behind (Err v) go = []

abbrev pub spots_next : XaCourse → XaSpot → List XaSpot
spots_next c s = if is_node (kind c.shape.chunk s.word.value) then spots_behind (words_behind c s.word) (spots_below c s) else []

-- the pointer at a position, with its index
abbrev pub item_at : ℕ → XaSpot → List XaItem
item_at chunk s = item_of (kind chunk s.word.value) s.index s.word

-- the pointers at these positions, with all below them, over as many entries as there are numbers
abbrev pub items_at : XaCourse → List XaSpot → List ℕ → List XaItem
items_at c [] ns = []
items_at c (s ∷ ss) [] = []
items_at c (s ∷ ss) (n ∷ ns) = item_at c.shape.chunk s ++ items_at c (spots_next c s ++ ss) ns

abbrev pub headed_items : XaCourse → Result VWord Violation → List ℕ → List XaItem
headed_items c (Err v) ns = []
headed_items c (Ok h) ns = items_at c (head_spot c.shape.chunk h ∷ []) ns

-- the pointers, with their indexes, of the xarray at an address that these numbers make up
unfoldable pub items_in : Image → XaLayout → ℕ → List ℕ → List XaItem
items_in image shape start ns =
    let c = xa_course image shape (record { audit = 0; start = start }) in headed_items c (behind_entry c.read c.asked None (at_offset start shape.head)) ns

-- the entries of slots from one on, with those of all nodes below
abbrev pub entries : List VWord → Tree → List ℕ
entries [] End = []
entries (w ∷ ws) End = []
entries [] (Leaf t) = []
entries (w ∷ ws) (Leaf t) = w.value ∷ entries ws t
entries [] (Down n b t) = []
entries (w ∷ ws) (Down n b t) = w.value ∷ (entries n.slots b ++ entries ws t)

-- and of a whole xarray, by its head's word
abbrev pub top_entries : VWord → Top → List ℕ
top_entries h Bare = h.value ∷ []
top_entries h (Root n t) = h.value ∷ entries n.slots t
