use Rattle.std.proofs.Common.{◌∙◌, ◌++◌, ap, sym}
use Rattle.kc_repair.specs.Suspect.Changes.{is_no_value, taken_if, turned}
use Rattle.kc_repair.proofs.SuspectLemmas.MadeLemmas.{more_taken, no_taken}
use Rattle.kc_repair.proofs.suspect.made.push_pointers.Goals as goal

pub loop-i-init : goal.loop-i-init
loop-i-init c = no_taken is_no_value (turned c.args.word.now.value) c.args.word.now c.args.suspects.now

pub loop-i-preserved : goal.loop-i-preserved
loop-i-preserved c =
    more_taken is_no_value (turned c.args.word.now.value) c.args.word.now c.loop-i.i _ c.args.suspects.now c.loop-i.suspects _ (sym (ap is_no_value c.turned-value.ensures)) c.loop-i.invariant
    (c.in_ok-push_if.ensures ∙ ap (λ value. c.loop-i.suspects ++ taken_if (is_no_value c.turned-value.result) c.args.word.now value) c.turned-value.ensures)
