use Rattle.std.proofs.Common.{◌≡◌, ◌∙◌, Err, arith, rules}
use Rattle.kc_memory.specs.Stays.{stays_on}
use Rattle.kc_modules.proofs.Loops.{nodes_come, nodes_first, nodes_go, nodes_halt, nodes_lack}
use Rattle.kc_modules.proofs.nodes.read_from.Goals as goal

pub loop-i-init : goal.loop-i-init
loop-i-init g c = record {
  left = nodes_first (g.S.Space.image c.args.space.now) c.args.head c.args.first _ (search rules);
  stays = search rules;
  quiet = search rules;
}

pub loop-i-preserved : goal.loop-i-preserved
loop-i-preserved g c =
    let so_far = c.loop-i.invariant in
    record {
      left = nodes_go (g.S.Space.image c.args.space.now) c.args.head c.args.first c.loop-i.i c.loop-i.at c.in_ok-next.next c.loop-i.nodes.items _ so_far.left
          (rw so_far.stays.same_image at c.in_ok-next.ensures.address) (omega arith) c.if-at-head.false c.in_ok-push.ensures.items;
      stays = stays_on g.S.Space.image g.S.Space.files g.S.Space.through g.S.Space.most _ _ _ so_far.stays c.in_ok-next.ensures.stays;
      quiet = c.in_ok-next.ensures.cause ∙ so_far.quiet;
    }

pub returns-in_err-next-clause-nodes : goal.returns-in_err-next-clause-nodes
returns-in_err-next-clause-nodes g c =
    let so_far = c.loop-i.invariant in
    let ended : c.from_residual.result ≡ Err c.in_err-next.field-0.0 = search rules in
    rw ended (nodes_halt (g.S.Space.image c.args.space.now) c.args.head c.args.first c.loop-i.i c.loop-i.at c.loop-i.nodes.items _ so_far.left
    (rw so_far.stays.same_image at c.in_err-next.ensures.address) (omega arith) c.if-at-head.false)

pub returns-then-at-head-clause-nodes : goal.returns-then-at-head-clause-nodes
returns-then-at-head-clause-nodes g c =
    nodes_come (g.S.Space.image c.args.space.now) c.args.head c.args.first c.loop-i.i c.loop-i.at c.loop-i.nodes c.loop-i.invariant.left (omega arith) c.if-at-head.true

pub returns-clause-nodes : goal.returns-clause-nodes
returns-clause-nodes g c =
    nodes_lack (g.S.Space.image c.args.space.now) c.args.head c.args.first c.loop-i.i c.loop-i.at c.loop-i.nodes.items c.loop-i.invariant.left (omega arith)
