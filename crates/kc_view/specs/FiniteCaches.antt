-- What the slabs of a cache have to meet, to be those on its partial lists. Source: the kernel's mm/slab.h and
-- mm/slub.c.
use Rattle.std.specs.Prelude.{◌≡◌, ℕ, ◌+◌, ◌-◌, ◌*◌, ◌%◌, ◌^◌, ◌<◌, ◌≤◌, nat_eq, min, List, [], map, length, slice_get, Option, Some, None, option_map, Result, MatchBool, false}
use Rattle.std.specs.List.{AllByRecursion, concat}
use Rattle.std.specs.Option.{unwrap_or}
use Rattle.kc_memory.specs.Bits.{Number, bits}
use Rattle.kc_memory.specs.Image.{Image}
use Rattle.kc_memory.specs.Stopped.{Stopped}
use Rattle.kc_memory.specs.Translation.{vword}
use Rattle.kc_layout.specs.declared.place.Field.{Field}
use Rattle.kc_view.specs.declared.slub.Base.{Base}
use Rattle.kc_view.specs.declared.slub.Base.TheVariants.{At, Is}
use Rattle.kc_view.specs.declared.slub.SlubShape.{SlubShape}
use Rattle.kc_view.specs.Fields.{FieldIs}
use Rattle.kc_found.specs.FiniteLists.{FreeChain, Ring}
use Rattle.kc_found.specs.FiniteLists as lists
use Rattle.kc_found.specs.FreeLists.{low_word, number_in}
use Rattle.kc_found.specs.Nodes.{at_offset, readable}
use Rattle.kc_view.specs.Caches.{descriptor_offset, grid_of, page_of, slab_of}
use Rattle.kc_view.specs.declared.slub.SlubBases.{SlubBases}
use Rattle.kc_view.specs.declared.slub.SlabObjects.{SlabObjects}

-- a field that a kernel may not have can be read where it is there, and is this number modulo 2^64
abbrev pub OptionalIs : Image → ℕ → Option Field → Option ℕ → Type 0
OptionalIs image at None n = n ≡ None
OptionalIs image at (Some f) n = (number : ℕ) × FieldIs image at f number × (n ≡ Some number)

-- a base is this number, or its word holds it
abbrev pub BaseIs : Image → Base → ℕ → Type 0
BaseIs image (Is base) n = n ≡ base
BaseIs image (At a) n = lists.value_of (vword image a) ≡ Some n

-- a number can be read, and is this one modulo 2^64
abbrev pub NumberIs : Result Number Stopped → ℕ → Type 0
NumberIs r n = option_map (λ (m : Number). low_word m.value) (readable r) ≡ Some n

-- so many nodes are there, or so says the unsigned number of 32 bits
abbrev pub CountIs : Image → Base → ℕ → Type 0
CountIs image (Is count) n = n ≡ count
CountIs image (At a) n = NumberIs (bits image a 0 32 false) n

-- the bases, and how many pointers of the array `node` count
pub record AreBases (image : Image) (shape : SlubShape) (b : SlubBases) : Type 0 where
  pub vmemmap : BaseIs image shape.vmemmap b.vmemmap
  pub direct : BaseIs image shape.direct b.direct
  pub count : ℕ
  pub counted : CountIs image shape.node_ids count
  pub nodes : b.nodes ≡ min shape.nodes count

-- how the objects of a cache lie: they have a size, in which the 8 bytes of their free pointer lie
pub record AreObjects (image : Image) (shape : SlubShape) (cache : ℕ) (o : SlabObjects) : Type 0 where
  pub offset : FieldIs image cache shape.offset o.offset
  pub size : FieldIs image cache shape.size o.size
  pub random : OptionalIs image cache shape.random o.random
  pub pad : Option ℕ
  pub padded : OptionalIs image cache shape.left_pad pad
  pub left_pad : o.left_pad ≡ unwrap_or pad 0
  pub some : 1 ≤ o.size
  pub inside : o.offset + 8 ≤ o.size

-- A slab of a cache: it names the cache, no processor owns it, it is a page's descriptor, and its free objects make up
-- a free list, as many as aren't in use.
pub record IsSlab (image : Image) (shape : SlubShape) (b : SlubBases) (o : SlabObjects) (cache slab : ℕ) : Type 0 where
  pub slab_cache : FieldIs image slab shape.slab_cache cache
  pub frozen : FieldIs image slab shape.frozen 0
  pub objects : ℕ
  pub inuse : ℕ
  pub first : ℕ
  pub free : List ℕ
  pub counted : FieldIs image slab shape.objects objects
  pub used : FieldIs image slab shape.inuse inuse
  pub leads : FieldIs image slab shape.freelist first
  pub some : 1 ≤ objects
  pub within : inuse ≤ objects
  pub whole : descriptor_offset b slab % shape.page_size ≡ 0
  pub page : page_of shape b slab < 2 ^ 40
  pub chain : FreeChain (number_in image) (grid_of shape b o slab objects) first free
  pub length : length free ≡ objects - inuse

-- the slabs of a node: its ring has them, each is one of the cache, and the node says how many they are
pub record AreListed (image : Image) (shape : SlubShape) (b : SlubBases) (o : SlabObjects) (cache knode : ℕ) (slabs : List ℕ)
    : Type 0 where
  pub nodes : List ℕ
  pub ring : Ring (vword image) shape.list (at_offset knode shape.partial) nodes
  pub are : slabs ≡ map (slab_of shape) nodes
  pub members : AllByRecursion (IsSlab image shape b o cache) slabs
  pub counted : FieldIs image knode shape.nr_partial (length nodes)

-- the pointer at an index of the array `node` can be read, and where it is null there are no slabs
pub record AreOfNode (image : Image) (shape : SlubShape) (b : SlubBases) (o : SlabObjects) (cache i : ℕ) (slabs : List ℕ)
    : Type 0 where
  pub knode : ℕ
  pub leads : NumberIs (number_in image (at_offset (at_offset cache shape.node) (8 * i))) knode
  pub listed : MatchBool (nat_eq knode 0) (slabs ≡ []) (AreListed image shape b o cache knode slabs)

-- The slabs of a cache, node by node.
pub record Slub (image : Image) (shape : SlubShape) (cache : ℕ) (slabs : List ℕ) : Type 0 where
  pub bases : SlubBases
  pub objects : SlabObjects
  pub by_node : List (List ℕ)
  pub stand : AreBases image shape bases
  pub lie : AreObjects image shape cache objects
  pub all : length by_node ≡ bases.nodes
  pub nodes : (i : ℕ) (ss : List ℕ) → slice_get by_node i ≡ Some ss → AreOfNode image shape bases objects cache i ss
  pub are : slabs ≡ concat by_node

-- no list of slabs makes up the cache
abbrev pub NoSlub : Image → SlubShape → ℕ → Type 0
NoSlub image shape cache = (slabs : List ℕ) → Slub image shape cache slabs → ⊥
