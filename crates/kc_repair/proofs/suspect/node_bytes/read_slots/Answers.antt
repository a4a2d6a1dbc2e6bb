use Rattle.std.proofs.Common.{◌∙◌, refl}
use Rattle.kc_memory.specs.Stays.{stays_on}
use Rattle.kc_repair.proofs.SuspectLemmas.SlotLemmas.{more_slots, no_slots}
use Rattle.kc_repair.proofs.suspect.node_bytes.read_slots.Goals as goal

pub loop-k-init : goal.loop-k-init
loop-k-init g c = record {
  seen = rw c.new-slots.ensures (no_slots (g.S.Space.image c.args.space.now) c.args.shape.now c.args.node);
  stays = record { same_image = refl; same_files = refl; same_through = refl; same_most = refl };
  quiet = refl;
}

pub loop-k-preserved : goal.loop-k-preserved
loop-k-preserved g c = record {
  seen = more_slots (g.S.Space.image c.args.space.now) c.args.shape.now c.args.node c.loop-k.k c.loop-k.slots _ c.loop-k.invariant.seen
      (rw c.slot_at.ensures at (rw c.loop-k.invariant.stays.same_image at c.in_ok-push_slot.ensures.added));
  stays = stays_on g.S.Space.image g.S.Space.files g.S.Space.through g.S.Space.most _ _ _ c.loop-k.invariant.stays c.in_ok-push_slot.ensures.reads.stays;
  quiet = c.in_ok-push_slot.ensures.reads.cause ∙ c.loop-k.invariant.quiet;
}
