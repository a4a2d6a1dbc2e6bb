use Rattle.std.proofs.Common.{◌+◌, ◌-◌, arith, ◌∙◌}
use Rattle.std.specs.List.{range_with_len}
use Rattle.kc_memory.specs.Stays.{stays_on}
use Rattle.kc_which.specs.CacheRings.{in_node}
use Rattle.kc_which.proofs.Finding.{done, found, next, no_numbers, numbers_on, stopped}
use Rattle.kc_which.proofs.caches.in_nodes.Goals as goal

pub returns-in-Ok-Some-clause-exact : goal.returns-in-Ok-Some-clause-exact
returns-in-Ok-Some-clause-exact g c =
    found (g.S.Space.image c.args.space.now) (λ i. in_node i c.args.shape.now c.args.found.now) (range_with_len 0 c.args.count) (range_with_len c.loop-number.number (c.args.count - c.loop-number.number)) (range_with_len (c.loop-number.number + 1) (c.args.count - (c.loop-number.number + 1))) c.loop-number.number c.in-Ok-Some.which
    (numbers_on c.loop-number.number c.args.count (omega arith)) c.loop-number.invariant.left (rw (c.in-Ok-Some.field-0-is, c.loop-number.invariant.stays.same_image) at c.in-Ok-Some.ensures.exact)

pub returns-in-Err-clause-exact : goal.returns-in-Err-clause-exact
returns-in-Err-clause-exact g c =
    stopped (g.S.Space.image c.args.space.now) (λ i. in_node i c.args.shape.now c.args.found.now) (range_with_len 0 c.args.count) (range_with_len c.loop-number.number (c.args.count - c.loop-number.number)) (range_with_len (c.loop-number.number + 1) (c.args.count - (c.loop-number.number + 1))) c.loop-number.number c.in-Err.stop
    (numbers_on c.loop-number.number c.args.count (omega arith)) c.loop-number.invariant.left (rw c.loop-number.invariant.stays.same_image at c.in-Err.ensures.exact)

pub loop-number-preserved : goal.loop-number-preserved
loop-number-preserved g c = record {
  left = next (g.S.Space.image c.args.space.now) (λ i. in_node i c.args.shape.now c.args.found.now) (range_with_len 0 c.args.count) (range_with_len c.loop-number.number (c.args.count - c.loop-number.number)) (range_with_len (c.loop-number.number + 1) (c.args.count - (c.loop-number.number + 1))) c.loop-number.number
      (numbers_on c.loop-number.number c.args.count (omega arith)) c.loop-number.invariant.left (rw (c.in-Ok-None.field-0-is, c.loop-number.invariant.stays.same_image) at c.in-Ok-None.ensures.exact);
  stays = stays_on g.S.Space.image g.S.Space.files g.S.Space.through g.S.Space.most _ _ _ c.loop-number.invariant.stays c.in-Ok-None.ensures.reads.stays;
  quiet = c.in-Ok-None.ensures.reads.cause ∙ c.loop-number.invariant.quiet;
}

pub returns-clause-exact : goal.returns-clause-exact
returns-clause-exact g c =
    done (g.S.Space.image c.args.space.now) (λ i. in_node i c.args.shape.now c.args.found.now) (range_with_len 0 c.args.count) (range_with_len c.loop-number.number (c.args.count - c.loop-number.number))
    (no_numbers c.loop-number.number c.args.count (omega arith)) c.loop-number.invariant.left
