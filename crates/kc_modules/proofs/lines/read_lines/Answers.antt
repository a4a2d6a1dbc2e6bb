use Rattle.std.proofs.Common.{◌≡◌, ◌∙◌, Err, refl, rules}
use Rattle.kc_memory.specs.Stays.{stays_on}
use Rattle.kc_modules.proofs.Loops.{lines_come, lines_first, lines_go, lines_halt}
use Rattle.kc_modules.proofs.lines.read_lines.Goals as goal

pub loop-node-init : goal.loop-node-init
loop-node-init g c = record {
  left = lines_first (g.S.Space.image c.args.space.now) c.args.shape.now c.args.nodes.now _ (search rules);
  stays = search rules;
  quiet = search rules;
}

pub loop-node-preserved : goal.loop-node-preserved
loop-node-preserved g c =
    let so_far = c.loop-node.invariant in
    record {
      left = lines_go (g.S.Space.image c.args.space.now) c.args.shape.now c.args.nodes.now c.loop-node.node-index _ c.in_ok-entry.entry c.loop-node.text.items _ so_far.left
          (rw so_far.stays.same_image at c.in_ok-entry.ensures.entry) c.loop-node-test.true refl c.in_ok-push_entry.ensures;
      stays = stays_on g.S.Space.image g.S.Space.files g.S.Space.through g.S.Space.most _ _ _ so_far.stays c.in_ok-entry.ensures.stays;
      quiet = c.in_ok-entry.ensures.cause ∙ so_far.quiet;
    }

pub returns-in_err-entry-clause-lines : goal.returns-in_err-entry-clause-lines
returns-in_err-entry-clause-lines g c =
    let so_far = c.loop-node.invariant in
    let ended : c.from_residual.result ≡ Err c.in_err-entry.field-0.0 = search rules in
    rw ended (lines_halt (g.S.Space.image c.args.space.now) c.args.shape.now c.args.nodes.now c.loop-node.node-index _ c.loop-node.text.items _ so_far.left
    (rw so_far.stays.same_image at c.in_err-entry.ensures.entry) c.loop-node-test.true refl)

pub returns-clause-lines : goal.returns-clause-lines
returns-clause-lines g c =
    lines_come (g.S.Space.image c.args.space.now) c.args.shape.now c.args.nodes.now c.loop-node.node-index c.loop-node.text c.loop-node.invariant.left c.loop-node-test.false
