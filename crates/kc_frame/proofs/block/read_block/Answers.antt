use Rattle.std.proofs.Common.{rules, ◌∙◌}
use Rattle.kc_memory.specs.Stays.{stays_on}
use Rattle.kc_frame.proofs.BlockLemmas.{orders_begin, orders_done, orders_found, orders_next}
use Rattle.kc_frame.proofs.block.read_block.Goals as goal

pub loop-order-init : goal.loop-order-init
loop-order-init g c = record {
  far = orders_begin c.args.shape.now c.args.page.now (g.S.Space.image c.args.space.now);
  stays = search rules;
  quiet = search rules;
}

pub returns-in-Ok-true-clause-exact : goal.returns-in-Ok-true-clause-exact
returns-in-Ok-true-clause-exact g c =
    rw (← c.page_in-page.ensures) at (orders_found c.args.shape.now c.args.page.now (g.S.Space.image c.args.space.now) c.loop-order.order (search rules)
    (rw (c.loop-order.invariant.stays.same_image, c.view_at-first.ensures, c.first_of.ensures, c.in-Ok-true.field-0-test) at c.in-Ok-true.ensures.exact) c.loop-order.invariant.far)

pub loop-order-preserved : goal.loop-order-preserved
loop-order-preserved g c = record {
  far = orders_next c.args.shape.now c.args.page.now (g.S.Space.image c.args.space.now) c.loop-order.order (search rules)
      (rw (c.loop-order.invariant.stays.same_image, c.view_at-first.ensures, c.first_of.ensures, c.in-Ok-false.field-0-test) at c.in-Ok-false.ensures.exact) c.loop-order.invariant.far;
  stays = stays_on g.S.Space.image g.S.Space.files g.S.Space.through g.S.Space.most _ _ _ c.loop-order.invariant.stays c.in-Ok-false.ensures.stays;
  quiet = c.in-Ok-false.ensures.cause ∙ c.loop-order.invariant.quiet;
}

pub returns-clause-exact : goal.returns-clause-exact
returns-clause-exact g c =
    orders_done c.args.shape.now c.args.page.now (g.S.Space.image c.args.space.now) c.loop-order.order (search rules) c.loop-order.invariant.far
