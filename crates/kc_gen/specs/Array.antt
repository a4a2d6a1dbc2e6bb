-- The xarray, in which index k leads to item k.
use Rattle.std.specs.Prelude.{ℕ, zero, suc, ◌+◌, ◌-◌, ◌*◌, ◌/◌, ◌^◌, min, nat_eq, nat_lt, nat_le, if◌then◌else◌, List, [], ◌∷◌, ◌++◌, flat_map}
use Rattle.kc_gen.specs.declared.array.Node.{Node}
use Rattle.kc_gen.specs.Bytes.{each, word_bytes}
use Rattle.kc_gen.specs.Least.{least}
use Rattle.kc_gen.specs.Places.{array_head, array_node, image, item}

-- A node of level l has the shift 4 * l, and each of its 16 slots has 16^l indexes. The root's level is the least at which the
-- slots have all n indexes.
abbrev pub top : ℕ → ℕ
top n = least (λ l. nat_le n (16 * 16 ^ l)) 4 0

-- how many nodes there are from a node down, where all its slots are full
abbrev pub full : ℕ → ℕ
full zero = 1
full (suc l) = 1 + 16 * full l

-- how many slots of a node of n items have indexes below n
abbrev pub count : ℕ → ℕ → Node → ℕ
count n l node = min 16 ((n - node.base + (16 ^ l - 1)) / 16 ^ l)

-- the first index in a slot
abbrev pub slot_base : ℕ → Node → ℕ → ℕ
slot_base l node i = node.base + 16 ^ l * i

-- The node in a slot of a node of level l + 1. In preorder it comes after that node and after the full slots before its own.
abbrev pub child : ℕ → ℕ → Node → ℕ → Node
child n l node i = record {
  base = slot_base (suc l) node i;
  number = node.number + 1 + full l * i;
  slot = i;
  parent = array_node n node.number;
}

-- a node as an entry: bit 1 tells it from an item
abbrev pub node_entry : ℕ → ℕ → ℕ
node_entry n number = array_node n number + 2

abbrev pub entry : ℕ → ℕ → Node → ℕ → ℕ
entry n zero node i = if nat_lt (slot_base 0 node i) n then item (slot_base 0 node i) else 0
entry n (suc l) node i = if nat_lt (slot_base (suc l) node i) n then node_entry n (child n l node i).number else 0

abbrev pub slots_bytes : ℕ → ℕ → Node → List ℕ
slots_bytes n l node = each 16 (λ i. word_bytes (entry n l node i))

-- The bytes of a node: shift, offset, count and nr_values, which is 0; `parent`; `array`; 16 slots; and 8 bytes up to the next node.
abbrev pub node_bytes : ℕ → ℕ → Node → List ℕ
node_bytes n l node =
    flat_map word_bytes ((4 * l + 256 * node.slot + 65536 * count n l node) ∷ node.parent ∷ image array_head ∷ [])
    ++ slots_bytes n l node ++ word_bytes 0

-- a node and all below it, in preorder
abbrev pub nodes_from : ℕ → ℕ → Node → List ℕ
nodes_from n zero node = node_bytes n 0 node
nodes_from n (suc l) node = node_bytes n (suc l) node ++ each (count n (suc l) node) (λ i. nodes_from n l (child n l node i))

abbrev pub top_node : Node
top_node = record { base = 0; number = 0; slot = 0; parent = 0 }

-- A lone item needs no node: the head leads to it.
abbrev pub nodes : ℕ → List ℕ
nodes n = if nat_eq n 1 then [] else nodes_from n (top n) top_node

abbrev pub array_entry : ℕ → ℕ
array_entry n = if nat_eq n 1 then item 0 else node_entry n 0
