use Rattle.std.proofs.Common.{◌∙◌}
use Rattle.kc_memory.specs.Stays.{stays_on}
use Rattle.kc_sight.proofs.ReadLemmas.{read_more, steps_more, wraps}
use Rattle.kc_sight.proofs.words.read_words.Goals as goal

pub loop-i-preserved : goal.loop-i-preserved
loop-i-preserved g c =
    let so_far = c.loop-i.invariant in
    record {
      read = read_more (g.S.Space.image c.args.space.now) c.args.first c.loop-i.i _ c.loop-i.words.items _ c.in_ok-seen.seen (wraps c.args.first c.loop-i.i) so_far.read
          (rw so_far.stays.same_image at c.in_ok-seen.ensures.word) c.in_ok-push.ensures.items;
      stays = stays_on g.S.Space.image g.S.Space.files g.S.Space.through g.S.Space.most _ _ _ so_far.stays c.in_ok-seen.ensures.stays;
      quiet = c.in_ok-seen.ensures.cause ∙ so_far.quiet;
      steps = steps_more (g.S.Space.most c.args.space.now) c.loop-i.i c.args.steps.now c.loop-i.steps _ so_far.steps (rw so_far.stays.same_most at c.in_ok-seen.ensures.steps);
    }
