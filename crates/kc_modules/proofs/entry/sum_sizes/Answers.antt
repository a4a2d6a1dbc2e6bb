use Rattle.std.proofs.Common.{◌≡◌, ◌∙◌, Err, arith, rules}
use Rattle.kc_memory.specs.Stays.{stays_on}
use Rattle.kc_modules.proofs.Loops.{sizes_come, sizes_first, sizes_go, sizes_halt}
use Rattle.kc_modules.proofs.entry.sum_sizes.Goals as goal

pub loop-i-init : goal.loop-i-init
loop-i-init g c = record {
  left = sizes_first (g.S.Space.image c.args.space.now) c.args.stride c.args.count c.args.first;
  stays = search rules;
  quiet = search rules;
}

pub loop-i-preserved : goal.loop-i-preserved
loop-i-preserved g c =
    let so_far = c.loop-i.invariant in
    record {
      left = sizes_go (g.S.Space.image c.args.space.now) c.args.stride c.args.count c.args.first c.loop-i.i c.loop-i.at c.loop-i.sum c.in_ok-size.size _ _ so_far.left
          (rw so_far.stays.same_image at c.in_ok-size.ensures.size) (omega arith) (search rules) (search rules);
      stays = stays_on g.S.Space.image g.S.Space.files g.S.Space.through g.S.Space.most _ _ _ so_far.stays c.in_ok-size.ensures.stays;
      quiet = c.in_ok-size.ensures.cause ∙ so_far.quiet;
    }

pub returns-in_err-size-clause-sum : goal.returns-in_err-size-clause-sum
returns-in_err-size-clause-sum g c =
    let so_far = c.loop-i.invariant in
    let ended : c.from_residual.result ≡ Err c.in_err-size.field-0.0 = search rules in
    rw ended (sizes_halt (g.S.Space.image c.args.space.now) c.args.stride c.args.count c.args.first c.loop-i.i c.loop-i.at c.loop-i.sum _ so_far.left
    (rw so_far.stays.same_image at c.in_err-size.ensures.size) (omega arith))

pub returns-clause-sum : goal.returns-clause-sum
returns-clause-sum g c =
    sizes_come (g.S.Space.image c.args.space.now) c.args.stride c.args.count c.args.first c.loop-i.i c.loop-i.at c.loop-i.sum c.loop-i.invariant.left (omega arith)
