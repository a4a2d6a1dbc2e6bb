use Rattle.std.proofs.Common.{◌++◌, sym, ap, ◌∙◌, ◌∷◌, []}
use Rattle.kc_run.proofs.Arrays.{entry_added}
use Rattle.kc_run.proofs.entries.entries_of.Goals as goal

pub loop-i-preserved : goal.loop-i-preserved
loop-i-preserved c =
    c.in_ok-push.ensures.added ∙ ap (λ l. l ++ c.get.result.now.entry ∷ []) c.loop-i.invariant
    ∙ sym (entry_added c.args.items.now c.loop-i.i c.get.result.now c.get.ensures)
