use Rattle.std.proofs.Common.{◌≡◌, ◌∙◌, Err, refl, rules}
use Rattle.kc_memory.specs.Stays.{stays_on}
use Rattle.kc_modules.proofs.Loops.{types_come, types_first, types_go, types_halt, types_lack}
use Rattle.kc_modules.proofs.typed.read_types_of.Goals as goal

pub loop-node-init : goal.loop-node-init
loop-node-init g c = record {
  left = types_first (g.S.Space.image c.args.space.now) c.args.shape.now c.args.name.now c.args.nodes.now;
  stays = search rules;
  quiet = search rules;
}

pub loop-node-preserved : goal.loop-node-preserved
loop-node-preserved g c =
    let so_far = c.loop-node.invariant in
    record {
      left = types_go (g.S.Space.image c.args.space.now) c.args.shape.now c.args.name.now c.args.nodes.now c.loop-node.node-index _ c.in_ok-other.other so_far.left
          (rw so_far.stays.same_image at c.in_ok-other.ensures.name) c.loop-node-test.true refl (search rules);
      stays = stays_on g.S.Space.image g.S.Space.files g.S.Space.through g.S.Space.most _ _ _ so_far.stays c.in_ok-other.ensures.stays;
      quiet = c.in_ok-other.ensures.cause ∙ so_far.quiet;
    }

pub returns-then-eq-clause-types : goal.returns-then-eq-clause-types
returns-then-eq-clause-types g c =
    let so_far = c.loop-node.invariant in
    types_come (g.S.Space.image c.args.space.now) c.args.shape.now c.args.name.now c.args.nodes.now c.loop-node.node-index _ c.in_ok-other.other c.read_data.result so_far.left
    (rw so_far.stays.same_image at c.in_ok-other.ensures.name) c.loop-node-test.true refl (search rules)
    (rw (c.in_ok-other.ensures.stays.same_image, so_far.stays.same_image) at c.read_data.ensures.types)

pub returns-in_err-other-clause-types : goal.returns-in_err-other-clause-types
returns-in_err-other-clause-types g c =
    let so_far = c.loop-node.invariant in
    let ended : c.from_residual.result ≡ Err c.in_err-other.field-0.0 = search rules in
    rw ended (types_halt (g.S.Space.image c.args.space.now) c.args.shape.now c.args.name.now c.args.nodes.now c.loop-node.node-index _ _ so_far.left
    (rw so_far.stays.same_image at c.in_err-other.ensures.name) c.loop-node-test.true refl)

pub returns-clause-types : goal.returns-clause-types
returns-clause-types g c =
    types_lack (g.S.Space.image c.args.space.now) c.args.shape.now c.args.name.now c.args.nodes.now c.loop-node.node-index c.loop-node.invariant.left c.loop-node-test.false
