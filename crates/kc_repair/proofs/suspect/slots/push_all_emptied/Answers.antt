use Rattle.std.proofs.Common.{◌∙◌, refl}
use Rattle.kc_memory.specs.Stays.{stays_on}
use Rattle.kc_repair.proofs.SuspectLemmas.MadeLemmas.{more_emptied, no_emptied}
use Rattle.kc_repair.proofs.suspect.slots.push_all_emptied.Goals as goal

pub loop-k-init : goal.loop-k-init
loop-k-init g c = record {
  emptied = no_emptied (g.S.Space.image c.args.space.now) c.args.shape.now c.args.node c.args.changes.now;
  stays = record { same_image = refl; same_files = refl; same_through = refl; same_most = refl };
  quiet = refl;
}

pub loop-k-preserved : goal.loop-k-preserved
loop-k-preserved g c = record {
  emptied = more_emptied (g.S.Space.image c.args.space.now) c.args.shape.now c.args.node c.loop-k.k c.args.changes.now c.loop-k.changes _ c.loop-k.invariant.emptied
      (rw c.slot_at.ensures at (rw c.loop-k.invariant.stays.same_image at c.in_ok-push_emptied.ensures.added));
  stays = stays_on g.S.Space.image g.S.Space.files g.S.Space.through g.S.Space.most _ _ _ c.loop-k.invariant.stays c.in_ok-push_emptied.ensures.reads.stays;
  quiet = c.in_ok-push_emptied.ensures.reads.cause ∙ c.loop-k.invariant.quiet;
}
