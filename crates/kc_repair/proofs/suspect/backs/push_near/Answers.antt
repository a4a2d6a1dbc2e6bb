use Rattle.std.proofs.Common.{◌∙◌, refl}
use Rattle.kc_memory.specs.Stays.{stays_on}
use Rattle.kc_repair.proofs.SuspectLemmas.BackLemmas.{more_near, no_near}
use Rattle.kc_repair.proofs.suspect.backs.push_near.Goals as goal

pub loop-i-init : goal.loop-i-init
loop-i-init g c = record {
  near = no_near (g.S.Space.image c.args.space.now) c.args.back c.args.link c.args.value c.args.changes.now;
  stays = record { same_image = refl; same_files = refl; same_through = refl; same_most = refl };
  quiet = refl;
}

pub loop-i-preserved : goal.loop-i-preserved
loop-i-preserved g c = record {
  near = more_near (g.S.Space.image c.args.space.now) c.args.back c.args.link c.args.value c.loop-i.i c.args.changes.now c.loop-i.changes _ c.loop-i.invariant.near
      (rw c.near_number.ensures at (rw c.loop-i.invariant.stays.same_image at c.in_ok-push_back.ensures.added));
  stays = stays_on g.S.Space.image g.S.Space.files g.S.Space.through g.S.Space.most _ _ _ c.loop-i.invariant.stays c.in_ok-push_back.ensures.reads.stays;
  quiet = c.in_ok-push_back.ensures.reads.cause ∙ c.loop-i.invariant.quiet;
}
