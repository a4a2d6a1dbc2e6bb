use Rattle.std.proofs.Common.{ap, arith, length, rules, ◌≡◌, Err}
use Rattle.kc_rb.proofs.ListedLemmas.Collecting.{root_missed, tree_collected}
use Rattle.kc_rb.proofs.listed.gather.collect_tree.Goals as goal

pub returns-in_err-root-clause-numbers : goal.returns-in_err-root-clause-numbers
returns-in_err-root-clause-numbers g c =
    let ended : c.from_residual.result ≡ Err c.in_err-root.field-0.0 = search rules in
    rw ended (root_missed (g.S.Space.image c.args.space.now) c.args.shape.now c.args.start c.args.nodes.now c.in_err-root.field-0.0 c.in_err-root.ensures.reads)

pub returns-clause-numbers : goal.returns-clause-numbers
returns-clause-numbers g c =
    tree_collected c.know_listed_trees.ensures.all_trees (g.S.Space.image c.args.space.now) c.args.shape.now c.args.start c.in_ok-root.root _ c.args.nodes.now c.collect.result
    (omega (arith, ap length c.as_slice.ensures)) c.in_ok-root.ensures.reads (rw c.in_ok-root.ensures.stays.same_image at c.collect.ensures.numbers)
