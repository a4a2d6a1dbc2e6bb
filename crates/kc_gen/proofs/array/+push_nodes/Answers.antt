use Rattle.std.proofs.Common.{◌≡◌, ◌+◌, ◌-◌, ◌*◌, ◌^◌, ◌<◌, ◌≤◌, ◌∙◌, ◌++◌, suc, ap, arith}
use Rattle.kc_gen.specs.Array.{child, node_bytes, nodes_from}
use Rattle.kc_gen.proofs.Loops.{nodes_parts, one_more, slot_fits}
use Rattle.kc_gen.proofs.array.+push_nodes.Goals as goal

pub push_nodes-requires : goal.push_nodes-requires
push_nodes-requires t c =
    let slot : c.loop-i.i < 16 = omega (arith, c.loop-i-test.true, c.count-i-end.ensures.small) in
    let one : c.args.level ≡ suc (c.args.level - 1) = omega (arith, c.if-level-eq0.false) in
    let fits : c.args.node.base + 16 * 16 ^ suc (c.args.level - 1) ≤ 16777216 = rw one at c.requires.base in
    (omega (arith, c.decreases, c.if-level-eq0.false), (c.requires.n, (omega (arith, c.requires.level), (rw c.child.ensures.exact slot, (rw c.child.ensures.exact (slot_fits c.args.node.base (c.args.level - 1) c.loop-i.i slot fits), c.child.ensures.number)))))

pub loop-i-preserved : goal.loop-i-preserved
loop-i-preserved t c =
    one_more c.args.bytes.now.items (node_bytes c.args.n c.args.level c.args.node) c.loop-i.bytes.items _ c.loop-i.i (λ i. nodes_from c.args.n (c.args.level - 1) (child c.args.n (c.args.level - 1) c.args.node i))
    c.loop-i.invariant (rw c.child.ensures.exact at c.in_ok-push_nodes.ensures)

pub returns : goal.returns
returns t c =
    let all : c.loop-i.i ≡ c.count-i-end.result = omega (arith, c.loop-i-test.false, c.loop-i.auto.i-end) in
    c.loop-i.invariant
    ∙ ap (λ l. c.args.bytes.now.items ++ l) (nodes_parts c.args.n c.args.level c.loop-i.i c.args.node (omega (arith, c.if-level-eq0.false)) (all ∙ c.count-i-end.ensures.exact))
