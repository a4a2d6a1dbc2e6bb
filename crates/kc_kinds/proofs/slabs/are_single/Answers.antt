use Rattle.std.proofs.Common.{◌≡◌, true, false, Bool, ◌&&◌, codes}
use Rattle.kc_kinds.specs.Kernels.{address_in, is_single, kernel}
use Rattle.kc_kinds.proofs.slabs.are_single.Goals as goal
use Rattle.kc_kinds.proofs.slabs.are_single.Goals.{then-is_single, else-is_single}

-- of three answers the first two hold
all-three : {v x y z a b c : Bool} → x ≡ a → y ≡ b → z ≡ c → x ≡ true → v ≡ y → v ≡ true → z ≡ (a && (b && c))
all-three p q r t u w = search

-- the second doesn't
not-second : {v x y a b : Bool} → (c : Bool) → x ≡ a → y ≡ b → x ≡ true → v ≡ y → v ≡ false → v ≡ (a && (b && c))
not-second c p q t u w = search

-- the first doesn't
not-first : {v x a : Bool} → (b c : Bool) → x ≡ a → x ≡ false → v ≡ x → v ≡ (a && (b && c))
not-first b c p t u = search

no-way : {v x z d : Bool} → v ≡ x → x ≡ false → v ≡ true → z ≡ d
no-way p q r = search

-- src/slabs.rt:32:1
pub returns-then-is_single-2 : goal.returns-then-is_single-2
returns-then-is_single-2 c = elim c.if-is_single.branch [
  | then-is_single w ↦ all-three c.is_single.ensures w.is_single-then-is_single.ensures c.is_single-then-is_single-2.ensures w.if-is_single.true w.value-is c.if-is_single-2.true
  | else-is_single w ↦ no-way w.value-is w.if-is_single.false c.if-is_single-2.true
]

-- src/slabs.rt:32:1
pub returns-else-is_single-2 : goal.returns-else-is_single-2
returns-else-is_single-2 c = elim c.if-is_single.branch [
  | then-is_single w ↦ not-second (is_single (address_in (kernel c.args.known.now) (codes "nr_node_ids"))) c.is_single.ensures w.is_single-then-is_single.ensures w.if-is_single.true w.value-is c.if-is_single-2.false
  | else-is_single w ↦ not-first (is_single (address_in (kernel c.args.known.now) (codes "page_offset_base"))) (is_single (address_in (kernel c.args.known.now) (codes "nr_node_ids"))) c.is_single.ensures w.if-is_single.false w.value-is
]
