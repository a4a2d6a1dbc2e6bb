use Rattle.std.proofs.Common.{map, option_map, ◌∙◌}
use Rattle.kc_memory.specs.Stays.{stays_on}
use Rattle.kc_sight.specs.Views.{row_view, symbol_view}
use Rattle.kc_sight.proofs.HolderLemmas.{added, all_found, skipped}
use Rattle.kc_sight.proofs.holders.find_holders.Goals as goal

pub loop-line-preserved-in-Ok-None : goal.loop-line-preserved-in-Ok-None
loop-line-preserved-in-Ok-None g c =
    let so_far = rw c.in-Some.ensures.steps at c.loop-line.invariant.read in
    record {
      goes = tt;
      ends = tt;
      read = skipped (g.S.Space.image c.args.space.now) c.args.image.now c.args.value (map symbol_view c.loop-line.found.items) c.in-Some.line.now c.next.new.self (option_map row_view c.row_in.result) c.row_in.ensures so_far
          (rw (c.in-Ok-None.field-0-is, c.loop-line.invariant.stays.same_image) at c.in-Ok-None.ensures.holder);
      stays = stays_on g.S.Space.image g.S.Space.files g.S.Space.through g.S.Space.most _ _ _ c.loop-line.invariant.stays c.in-Ok-None.ensures.stays;
      quiet = c.in-Ok-None.ensures.cause ∙ c.loop-line.invariant.quiet;
    }

pub loop-line-preserved : goal.loop-line-preserved
loop-line-preserved g c =
    let so_far = rw c.in-Some.ensures.steps at c.loop-line.invariant.read in
    record {
      goes = tt;
      ends = tt;
      read = added (g.S.Space.image c.args.space.now) c.args.image.now c.args.value c.loop-line.found.items _ c.in-Some.line.now c.next.new.self (option_map row_view c.row_in.result) c.in-Ok-Some.symbol c.row_in.ensures so_far
          (rw (c.in-Ok-Some.field-0-is, c.loop-line.invariant.stays.same_image) at c.in-Ok-Some.ensures.holder) c.in_ok-push-in-Ok-Some.ensures.items;
      stays = stays_on g.S.Space.image g.S.Space.files g.S.Space.through g.S.Space.most _ _ _ c.loop-line.invariant.stays c.in-Ok-Some.ensures.stays;
      quiet = c.in-Ok-Some.ensures.cause ∙ c.loop-line.invariant.quiet;
    }

pub returns-clause-holders : goal.returns-clause-holders
returns-clause-holders g c =
    all_found (g.S.Space.image c.args.space.now) c.args.image.now c.args.value c.loop-line.found (rw c.in-None.ensures.steps.0 at c.loop-line.invariant.read)
