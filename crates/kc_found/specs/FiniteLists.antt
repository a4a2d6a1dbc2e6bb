-- What a finite list of addresses has to meet, to be a ring, a hash chain or a free list. Source: the kernel's
-- include/linux/list.h and mm/slub.c.
use Rattle.std.specs.Prelude.{◌≡◌, ℕ, ◌*◌, ◌<◌, ◌||◌, nat_eq, not, IsTrue, List, [], ◌∷◌, ◌++◌, map, reverse, option_to_list, Option, Some, None, option_map, Result, Ok, Err}
use Rattle.std.specs.List.{IsDistinct, AllByRecursion}
use Rattle.kc_memory.specs.declared.words.VWord.{VWord}
use Rattle.kc_memory.specs.declared.words.Place.{Place}
use Rattle.kc_memory.specs.Bits.{Number}
use Rattle.kc_memory.specs.Stopped.{Stopped}
use Rattle.kc_found.specs.declared.shapes.ListShape.{ListShape}
use Rattle.kc_found.specs.declared.shapes.HShape.{HShape}
use Rattle.kc_found.specs.declared.free.Grid.{Grid}
use Rattle.kc_found.specs.FreeLists.{NumberReader, above_base, pointer_at, pointer_by}
use Rattle.kc_found.specs.Nodes.{at_offset, is_poison, readable}
use Rattle.kc_found.specs.Trials.{Reader}
use Rattle.kc_found.specs.Violations.{places_by}

-- the number that a word holds, where it can be read
abbrev pub value_of : Result VWord Stopped → Option ℕ
value_of (Ok w) = Some w.value
value_of (Err s) = None

-- its physical address
abbrev pub pa_of : Result VWord Stopped → Option ℕ
pa_of (Ok w) = Some w.pa
pa_of (Err s) = None

-- the numbers that the words at an offset of some nodes hold
abbrev pub values : Reader → ℕ → List ℕ → List (Option ℕ)
values read offset nodes = map (λ n. value_of (read (at_offset n offset))) nodes

-- the physical address of a word of a node, where it can be read
abbrev pub pa_at : Reader → ℕ → ℕ → List ℕ
pa_at read node offset = option_to_list (pa_of (read (at_offset node offset)))

-- those of two words of each node
abbrev pub words_of : Reader → ℕ → ℕ → List ℕ → List ℕ
words_of read first second [] = []
words_of read first second (n ∷ ns) = pa_at read n first ++ (pa_at read n second ++ words_of read first second ns)

-- a node of a ring that isn't its head
abbrev pub IsMember : ℕ → ℕ → Type 0
IsMember head n = IsTrue (not (nat_eq n 0 || (is_poison n || nat_eq n head)))

-- A ring: `next` leads from the head through the nodes and back, `prev` leads through them the other way, and no two of
-- all these words are one.
pub record Ring (read : Reader) (shape : ListShape) (head : ℕ) (ns : List ℕ) : Type 0 where
  pub members : AllByRecursion (IsMember head) ns
  pub forward : values read shape.next (head ∷ ns) ≡ map Some (ns ++ head ∷ [])
  pub backward : values read shape.prev (head ∷ reverse ns) ≡ map Some (reverse ns ++ head ∷ [])
  pub different : IsDistinct nat_eq (words_of read shape.next shape.prev (head ∷ ns))

-- no list of nodes is a ring
abbrev pub NoRing : Reader → ListShape → ℕ → Type 0
NoRing read shape head = (ns : List ℕ) → Ring read shape head ns → ⊥

-- a node of a hash chain
abbrev pub IsHashed : ℕ → Type 0
IsHashed n = IsTrue (not (nat_eq n 0 || is_poison n))

-- the addresses of the words that point to the nodes: the first one, and then `next` of each node but the last
abbrev pub pointers : HShape → ℕ → List ℕ → List ℕ
pointers shape first [] = []
pointers shape first (n ∷ ns) = first ∷ pointers shape (at_offset n shape.next) ns

-- A hash chain: `first` and then `next` lead through the nodes to 0, each `pprev` has the address of the word that
-- points to its node, and no two of all these words are one.
pub record HChain (read : Reader) (shape : HShape) (head : ℕ) (ns : List ℕ) : Type 0 where
  pub members : AllByRecursion IsHashed ns
  pub forward : value_of (read (at_offset head shape.first)) ∷ values read shape.next ns ≡ map Some (ns ++ 0 ∷ [])
  pub backward : values read shape.pprev ns ≡ map Some (pointers shape (at_offset head shape.first) ns)
  pub different : IsDistinct nat_eq (pa_at read head shape.first ++ words_of read shape.next shape.pprev ns)

-- no list of nodes is a hash chain
abbrev pub NoHChain : Reader → HShape → ℕ → Type 0
NoHChain read shape head = (ns : List ℕ) → HChain read shape head ns → ⊥

-- an object of a slab: it is at the address of one of them, which isn't 0
pub record IsFree (grid : Grid) (object : ℕ) : Type 0 where
  pub some : IsTrue (not (nat_eq object 0))
  pub number : ℕ
  pub below : number < grid.objects
  pub stands : above_base grid object ≡ number * grid.size

-- the pointer that an object has, where it can be read
abbrev pub pointer_of : NumberReader → Grid → ℕ → Option ℕ
pointer_of read grid object =
    option_map (pointer_by grid.random (pointer_at grid object)) (readable (read (pointer_at grid object)))

-- the physical addresses of the one or two words of a number, where it can be read
abbrev pub pas_of : Result Number Stopped → List ℕ
pas_of (Ok n) = map (λ (p : Place). p.pa) (places_by (Some n))
pas_of (Err s) = []

-- those of the pointers of some objects
abbrev pub pointer_words : NumberReader → Grid → List ℕ → List ℕ
pointer_words read grid [] = []
pointer_words read grid (o ∷ os) = pas_of (read (pointer_at grid o)) ++ pointer_words read grid os

-- The free objects of a slab: the pointers from the slab's own on lead through the objects to 0, and no two of the words
-- that hold those of the objects are one.
pub record FreeChain (read : NumberReader) (grid : Grid) (first : ℕ) (os : List ℕ) : Type 0 where
  pub members : AllByRecursion (IsFree grid) os
  pub forward : Some first ∷ map (pointer_of read grid) os ≡ map Some (os ++ 0 ∷ [])
  pub different : IsDistinct nat_eq (pointer_words read grid os)

-- no list of objects is a free list
abbrev pub NoFreeChain : NumberReader → Grid → ℕ → Type 0
NoFreeChain read grid first = (os : List ℕ) → FreeChain read grid first os → ⊥
