-- Which lists are the nodes of a ring or of a hash chain: a test over the words that the list names, and no others.
use Rattle.std.specs.Prelude.{ℕ, Bool, true, false, ◌&&◌, ◌||◌, nat_eq, not, is_some, get_or, if◌then◌else◌, List, [], ◌∷◌, ◌++◌, Option, Some, None, Result, Ok, Err}
use Rattle.kc_memory.specs.declared.words.VWord.{VWord}
use Rattle.kc_memory.specs.Stopped.{Stopped}
use Rattle.kc_found.specs.declared.shapes.ListShape.{ListShape}
use Rattle.kc_found.specs.declared.shapes.HShape.{HShape}
use Rattle.kc_found.specs.Nodes.{at_offset, is_poison}
use Rattle.kc_found.specs.Taken.{is_taken, with_word}
use Rattle.kc_found.specs.Trials.{Reader}
use Rattle.kc_list.specs.declared.listed.Linking.{Linking}

-- a number that must stand at an address
pub record Want : Type 0 where
  pub at : ℕ
  pub value : ℕ

-- the words taken after one more, where it can be read, holds the number and wasn't taken before
abbrev pub met_by : List ℕ → ℕ → Result VWord Stopped → Option (List ℕ)
met_by taken value (Ok w) = if nat_eq w.value value && not (is_taken taken w.pa) then Some (with_word taken w.pa) else None
met_by taken value (Err s) = None

abbrev pub then_on : {A B : Type 0} → Option A → (A → Option B) → Option B
then_on None go = None
then_on (Some a) go = go a

-- the words taken after these
abbrev pub all_met : Reader → List ℕ → List Want → Option (List ℕ)
all_met read taken [] = Some taken
all_met read taken (x ∷ xs) = then_on (met_by taken x.value (read x.at)) (λ more. all_met read more xs)

-- what the word that leads back from a node has: the node before, or the address of the word that points to the node
abbrev pub led_back : Option ℕ → ℕ → ℕ
led_back None n = n
led_back (Some offset) n = at_offset n offset

-- the two words of each node, where the word that leads back from the first one has this number
abbrev pub node_wants : Linking → ℕ → List ℕ → List Want
node_wants l before [] = []
node_wants l before (n ∷ ns) =
    record { at = at_offset n l.next; value = get_or ns 0 l.end } ∷ record { at = at_offset n l.back; value = before } ∷ node_wants l (led_back l.from n) ns

-- a ring's nodes lead on to the head, and back to the node before
abbrev pub ring_linking : ListShape → ℕ → Linking
ring_linking shape head = record { next = shape.next; back = shape.prev; end = head; from = None }

-- a hash chain's nodes lead on to 0, and back to the word that points to them
abbrev pub hash_linking : HShape → Linking
hash_linking shape = record { next = shape.next; back = shape.pprev; end = 0; from = Some shape.next }

abbrev pub last_or : ℕ → List ℕ → ℕ
last_or d [] = d
last_or d (n ∷ ns) = last_or n ns

abbrev pub ring_wants : ListShape → ℕ → List ℕ → List Want
ring_wants shape head ns =
    record { at = at_offset head shape.next; value = get_or ns 0 head } ∷ record { at = at_offset head shape.prev; value = last_or head ns } ∷ node_wants (ring_linking shape head) head ns

abbrev pub hash_wants : HShape → ℕ → List ℕ → List Want
hash_wants shape head ns = record { at = at_offset head shape.first; value = get_or ns 0 0 } ∷ node_wants (hash_linking shape) (at_offset head shape.first) ns

-- a node: neither 0 nor a poison, nor the end
abbrev pub is_node : ℕ → ℕ → Bool
is_node end n = not (nat_eq n 0 || (is_poison n || nat_eq n end))

abbrev pub are_nodes : ℕ → List ℕ → Bool
are_nodes end [] = true
are_nodes end (n ∷ ns) = is_node end n && are_nodes end ns

-- these nodes make up the ring with this head
unfoldable pub is_ring : Reader → ListShape → ℕ → List ℕ → Bool
is_ring read shape head ns = are_nodes head ns && is_some (all_met read [] (ring_wants shape head ns))

-- and these the hash chain
unfoldable pub is_hash_chain : Reader → HShape → ℕ → List ℕ → Bool
is_hash_chain read shape head ns = are_nodes 0 ns && is_some (all_met read [] (hash_wants shape head ns))
