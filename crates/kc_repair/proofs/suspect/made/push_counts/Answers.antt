use Rattle.std.proofs.Common.{◌∙◌, ◌++◌, ap, sym}
use Rattle.kc_repair.specs.Suspect.Changes.{flipped, is_counted, taken_if}
use Rattle.kc_repair.proofs.SuspectLemmas.MadeLemmas.{more_taken, no_taken}
use Rattle.kc_repair.proofs.suspect.made.push_counts.Goals as goal

pub loop-bit-init : goal.loop-bit-init
loop-bit-init c = no_taken is_counted (flipped c.args.word.now.value) c.args.word.now c.args.suspects.now

pub loop-bit-preserved : goal.loop-bit-preserved
loop-bit-preserved c =
    more_taken is_counted (flipped c.args.word.now.value) c.args.word.now c.loop-bit.bit _ c.args.suspects.now c.loop-bit.suspects _ (sym (ap is_counted c.flipped-value.ensures)) c.loop-bit.invariant
    (c.in_ok-push_if.ensures ∙ ap (λ value. c.loop-bit.suspects ++ taken_if (is_counted c.flipped-value.result) c.args.word.now value) c.flipped-value.ensures)
