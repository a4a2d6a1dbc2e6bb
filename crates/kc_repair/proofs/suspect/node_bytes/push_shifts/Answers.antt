use Rattle.std.proofs.Common.{[], ◌∷◌, ◌++◌, ◌*◌, ap, ◌∙◌}
use Rattle.kc_repair.specs.Suspect.NodeBytes.{with_shift}
use Rattle.kc_repair.proofs.SuspectLemmas.SlotLemmas.{more_shifts, no_shifts}
use Rattle.kc_repair.proofs.suspect.node_bytes.push_shifts.Goals as goal

pub loop-level-init : goal.loop-level-init
loop-level-init c = no_shifts c.args.shape.now c.args.node c.args.bytes.now c.args.changes.now

pub loop-level-preserved : goal.loop-level-preserved
loop-level-preserved c =
    more_shifts c.args.shape.now c.args.node c.args.bytes.now c.loop-level.level c.args.changes.now c.loop-level.changes _ c.loop-level.invariant
    (c.in_ok-push.ensures.added ∙ ap (λ change. c.loop-level.changes ++ change ∷ [])
    (c.with_shift.ensures ∙ ap (λ bits. with_shift c.args.shape.now c.args.node c.args.bytes.now (c.loop-level.level * bits)) c.level_bits.ensures.value))
