-- What the nodes of a ring are, also where it is broken.
use Rattle.std.specs.Prelude.{◌≡◌, ℕ, nat_eq, List, [], ◌∷◌, ◌++◌, Some, None, Ok, ⊤}
use Rattle.std.specs.List.{IsDistinct}
use Rattle.kc_memory.specs.Image.{Image}
use Rattle.kc_found.specs.declared.shapes.ListShape.{ListShape}
use Rattle.kc_found.specs.Nodes.{at_offset}
use Rattle.kc_found.specs.Rings.{ring_walk}
use Rattle.kc_owner.specs.declared.ring.Way.{Way}
use Rattle.kc_owner.specs.Rings.{by_next, by_prev, parts_of, ring_nodes, word_at}

-- a node's word names the next one, and that one's word names it
pub record Leads (image : Image) (way : Way) (node next : ℕ) : Type 0 where
  pub on : word_at image (at_offset node way.on) ≡ Some next
  pub back : word_at image (at_offset next way.back) ≡ Some node

-- each of some nodes leads to the next one, and another to the first
abbrev pub AreLinked : Image → Way → ℕ → List ℕ → Type 0
AreLinked image way node [] = ⊤
AreLinked image way node (n ∷ ns) = Leads image way node n × AreLinked image way n ns

-- the nodes are linked from the head by `next`, and then from the head by `prev`
pub record AreParts (image : Image) (list : ListShape) (head : ℕ) (nodes : List ℕ) : Type 0 where
  pub ahead : List ℕ
  pub behind : List ℕ
  pub all : nodes ≡ ahead ++ behind
  pub forward : AreLinked image (by_next list) head ahead
  pub backward : AreLinked image (by_prev list) head behind

-- the nodes of a whole ring are those that its walk gives, and no others
abbrev pub WholeRingsStay : Type 0
WholeRingsStay =
    (image : Image) (list : ListShape) (head : ℕ) (nodes : List ℕ) → ring_walk image list 0 head ≡ Ok nodes
    → ring_nodes image list head ≡ record { nodes = nodes; broken = None }

-- and those of a broken ring are such parts of it
abbrev pub BrokenRingsPart : Type 0
BrokenRingsPart = (image : Image) (list : ListShape) (head : ℕ) → AreParts image list head (parts_of image list head)

-- no node of a ring stands twice, also where it is broken
abbrev pub RingNodesOnce : Type 0
RingNodesOnce = (image : Image) (list : ListShape) (head : ℕ) → IsDistinct nat_eq (ring_nodes image list head).nodes
