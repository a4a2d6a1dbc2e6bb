use Rattle.std.proofs.Common.{[], ◌∷◌, ◌++◌, ap, ◌∙◌}
use Rattle.kc_repair.proofs.SuspectLemmas.MadeLemmas.{more_heads, no_heads}
use Rattle.kc_repair.proofs.suspect.heads.push_objects.Goals as goal

pub loop-i-init : goal.loop-i-init
loop-i-init c = no_heads c.args.at c.args.first c.args.size c.args.changes.now

pub loop-i-preserved : goal.loop-i-preserved
loop-i-preserved c =
    more_heads c.args.at c.args.first c.args.size c.loop-i.i c.args.changes.now c.loop-i.changes _ c.loop-i.invariant
    (c.in_ok-push.ensures.added ∙ ap (λ change. c.loop-i.changes ++ change ∷ []) c.head_at.ensures)
