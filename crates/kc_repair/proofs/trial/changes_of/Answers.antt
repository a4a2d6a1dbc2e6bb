use Rattle.std.proofs.Common.{[], ◌∷◌, ◌++◌, ap, ◌∙◌, arith}
use Rattle.kc_repair.proofs.Changing.{changes-all, changes-more}
use Rattle.kc_repair.proofs.trial.changes_of.Goals as goal

pub loop-i-preserved : goal.loop-i-preserved
loop-i-preserved c =
    changes-more c.args.words.now c.loop-i.i _ c.loop-i.changes _ (omega arith) c.loop-i.invariant
    (c.in_ok-push.ensures.added ∙ ap (λ change. c.loop-i.changes ++ change ∷ []) c.change_of.ensures)

pub returns : goal.returns
returns c = changes-all c.args.words.now c.loop-i.i c.loop-i.changes (omega arith) c.loop-i.invariant
