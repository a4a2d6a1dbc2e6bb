-- What a finite tree of nodes has to meet, to be an xarray. Source: the kernel's include/linux/xarray.h,
-- `struct xa_node` and the kinds of entries, and lib/xarray.c.
use Rattle.std.specs.Prelude.{◌≡◌, ℕ, ◌+◌, ◌-◌, ◌<◌, ◌≤◌, ◌^◌, true, nat_eq, IsTrue, List, [], ◌∷◌, ◌++◌, map, Option, Some, None, Ok, ⊤}
use Rattle.std.specs.List.{IsDistinct}
use Rattle.kc_memory.specs.declared.words.VWord.{VWord}
use Rattle.kc_memory.specs.Image.{Image}
use Rattle.kc_found.specs.declared.xarrays.XaEntry.{XaEntry}
use Rattle.kc_found.specs.declared.xarrays.XaEntry.TheVariants.{Nothing, Pointer, Odd, Node, Zero, Sibling, Bad}
use Rattle.kc_found.specs.declared.xarrays.XaHolder.{XaHolder}
use Rattle.kc_found.specs.declared.xarrays.XaItem.{XaItem}
use Rattle.kc_found.specs.declared.xarrays.XaNode.{XaNode}
use Rattle.kc_found.specs.declared.xarrays.XaWords.{XaWords}
use Rattle.kc_found.specs.Nodes.{at_offset}
use Rattle.kc_found.specs.XaEntries.{kind, names}
use Rattle.kc_found.specs.XaLayouts.{XaLayout}
use Rattle.kc_found.specs.XaNodes.{XaCourse, xa_words, is_shift, is_slot, parent_wanted, is_count, is_odd_count, byte_in}
use Rattle.kc_found.specs.XaSites.{entries, index_of, xa_course, xa_node}

-- The slots of a node from one on: none; one with no node in it, and those after it; or one with a node, that node's
-- slots, and those after it.
pub data Tree : Type 0 where
  End : Tree
  Leaf : Tree → Tree
  Down : XaWords → Tree → Tree → Tree

-- the physical addresses of a node's words `parent`, `array` and slots
abbrev pub own : XaWords → List ℕ
own n = n.parent.pa ∷ n.array.pa ∷ map (λ w. w.pa) n.slots

abbrev pub tree_words : Tree → List ℕ
tree_words End = []
tree_words (Leaf t) = tree_words t
tree_words (Down n b t) = own n ++ (tree_words b ++ tree_words t)

-- X1 to X6 hold of a node
pub record NodeHolds (shape : XaLayout) (start : ℕ) (holder : Option XaHolder) (node : ℕ) (n : XaWords) : Type 0 where
  pub x1 : is_shift shape.chunk holder (byte_in (at_offset node shape.shift) n.shift.value) ≡ true
  pub x2 : is_slot holder (byte_in (at_offset node shape.offset) n.offset.value) ≡ true
  pub x3 : nat_eq n.parent.value (parent_wanted holder) ≡ true
  pub x4 : nat_eq n.array.value start ≡ true
  pub x5 : is_count shape (byte_in (at_offset node shape.count) n.count.value) n.slots ≡ true
  pub x6 : is_odd_count shape (byte_in (at_offset node shape.nr_values) n.values.value) n.slots ≡ true

-- An entry may stand in a slot: its index is below 2^64, a node stands only above the lowest level, and a sibling only
-- after a slot that holds what it may stand for.
abbrev pub MayStand : ℕ → XaNode → ℕ → XaEntry → Type 0
MayStand chunk o i Nothing = ⊤
MayStand chunk o i Pointer = index_of o i < 2 ^ 64
MayStand chunk o i Odd = index_of o i < 2 ^ 64
MayStand chunk o i Node = (index_of o i < 2 ^ 64) × (1 ≤ o.shift)
MayStand chunk o i Zero = index_of o i < 2 ^ 64
MayStand chunk o i (Sibling v) = (index_of o i < 2 ^ 64) × (v < i) × IsTrue (names chunk o.slots v)
MayStand chunk o i Bad = ⊥

-- an entry with no node below it
abbrev pub IsLeaf : XaEntry → Type 0
IsLeaf Nothing = ⊤
IsLeaf Pointer = ⊤
IsLeaf Odd = ⊤
IsLeaf Node = ⊥
IsLeaf Zero = ⊤
IsLeaf (Sibling v) = ⊤
IsLeaf Bad = ⊤

-- the same of the head's entry, which is no sibling
abbrev pub IsHeadLeaf : XaEntry → Type 0
IsHeadLeaf Nothing = ⊤
IsHeadLeaf Pointer = ⊤
IsHeadLeaf Odd = ⊤
IsHeadLeaf Node = ⊥
IsHeadLeaf Zero = ⊤
IsHeadLeaf (Sibling v) = ⊥
IsHeadLeaf Bad = ⊥

-- the pointer that an entry is
abbrev pub item_of : XaEntry → ℕ → VWord → List XaItem
item_of Nothing index w = []
item_of Pointer index w = (record { index = index; entry = w.value }) ∷ []
item_of Odd index w = []
item_of Node index w = []
item_of Zero index w = []
item_of (Sibling v) index w = []
item_of Bad index w = []

-- where a node hangs
abbrev pub holder_of : XaNode → ℕ → Option XaHolder
holder_of o i = Some (record { node = o.node; slot = i; shift = o.shift })

-- the slots of a node from number i on are the tree
abbrev pub IsTree : XaCourse → XaNode → ℕ → List VWord → Tree → Type 0
IsTree c o i [] End = ⊤
IsTree c o i (w ∷ ws) End = ⊥
IsTree c o i [] (Leaf t) = ⊥
IsTree c o i (w ∷ ws) (Leaf t) = IsLeaf (kind c.shape.chunk w.value) × MayStand c.shape.chunk o i (kind c.shape.chunk w.value) × IsTree c o (i + 1) ws t
IsTree c o i [] (Down n b t) = ⊥
IsTree c o i (w ∷ ws) (Down n b t) =
    (kind c.shape.chunk w.value ≡ Node) × MayStand c.shape.chunk o i (kind c.shape.chunk w.value) × (xa_words c.read c.shape (w.value - 2) ≡ Ok n) × NodeHolds c.shape c.asked.start (holder_of o i) (w.value - 2) n
    × IsTree c (xa_node c.shape w (index_of o i) n) 0 n.slots b × IsTree c o (i + 1) ws t

-- its pointers by rising index
abbrev pub items : XaCourse → XaNode → ℕ → List VWord → Tree → List XaItem
items c o i [] End = []
items c o i (w ∷ ws) End = []
items c o i [] (Leaf t) = []
items c o i (w ∷ ws) (Leaf t) = item_of (kind c.shape.chunk w.value) (index_of o i) w ++ items c o (i + 1) ws t
items c o i [] (Down n b t) = []
items c o i (w ∷ ws) (Down n b t) = items c (xa_node c.shape w (index_of o i) n) 0 n.slots b ++ items c o (i + 1) ws t

-- what the head's entry is: no node, or a node with its slots
pub data Top : Type 0 where
  Bare : Top
  Root : XaWords → Tree → Top

abbrev pub IsTop : XaCourse → VWord → Top → Type 0
IsTop c h Bare = IsHeadLeaf (kind c.shape.chunk h.value)
IsTop c h (Root n t) = (kind c.shape.chunk h.value ≡ Node) × (xa_words c.read c.shape (h.value - 2) ≡ Ok n) × NodeHolds c.shape c.asked.start None (h.value - 2) n × IsTree c (xa_node c.shape h 0 n) 0 n.slots t

abbrev pub top_words : Top → List ℕ
top_words Bare = []
top_words (Root n t) = own n ++ tree_words t

abbrev pub top_items : XaCourse → VWord → Top → List XaItem
top_items c h Bare = item_of (kind c.shape.chunk h.value) 0 h
top_items c h (Root n t) = items c (xa_node c.shape h 0 n) 0 n.slots t

-- An xarray with these pointers: the head can be read, its entry leads to a finite tree, and no two of all the words are
-- one.
pub record XArray (c : XaCourse) (walked : List XaItem) : Type 0 where
  pub head : VWord
  pub read : c.read (at_offset c.asked.start c.shape.head) ≡ Ok head
  pub top : Top
  pub is : IsTop c head top
  pub different : IsDistinct nat_eq (head.pa ∷ top_words top)
  pub order : top_items c head top ≡ walked

-- no list of pointers is an xarray's
abbrev pub NoXArray : XaCourse → Type 0
NoXArray c = (walked : List XaItem) → XArray c walked → ⊥

-- indexes that rise, from one on
abbrev pub RisesFrom : ℕ → List XaItem → Type 0
RisesFrom low [] = ⊤
RisesFrom low (x ∷ xs) = (low ≤ x.index) × RisesFrom (x.index + 1) xs

-- some addresses are the pointers of an xarray that starts here, by rising index. Which audit asks doesn't bear on it.
abbrev pub XArrayOf : Image → XaLayout → ℕ → List ℕ → Type 0
XArrayOf image shape start nodes =
    (items : List XaItem) × XArray (xa_course image shape (record { audit = 0; start = start })) items × (entries items ≡ nodes)
