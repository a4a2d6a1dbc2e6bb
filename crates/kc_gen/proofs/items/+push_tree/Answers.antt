use Rattle.std.proofs.Common.{arith}
use Rattle.std.proofs.lemmas.Bool.{lt-ltb}
use Rattle.kc_gen.specs.Items.{item_bytes}
use Rattle.kc_gen.proofs.Loops.{tree_bytes}
use Rattle.kc_gen.proofs.items.+push_tree.Goals as goal

pub returns : goal.returns
returns t c =
    let key = c.middle-key.ensures.exact in
    tree_bytes (item_bytes c.args.made.n c.args.made.hurt) c.args.levels c.args.lo c.args.hi c.args.parent c.args.bytes.now.items c.push_tree.new.bytes.items c.push_item.new.bytes.items c.push_tree-2.new.bytes.items
    (omega (arith, c.if-levels-eq0.false)) (lt-ltb c.args.lo c.args.hi c.if-lo-hi.false)
    (rw key at c.in_ok-push_tree.ensures) (rw c.knot_over.ensures.exact at c.in_ok-push_item.ensures) (rw key at c.in_ok-push_tree-2.ensures)
