use Rattle.std.proofs.Common.{◌∙◌, ◌++◌, ap}
use Rattle.kc_repair.specs.Suspect.Changes.{suspect_of}
use Rattle.kc_repair.proofs.SuspectLemmas.MadeLemmas.{more_bits, no_bits}
use Rattle.kc_repair.proofs.suspect.made.push_bits.Goals as goal

pub loop-bit-init : goal.loop-bit-init
loop-bit-init c = no_bits c.args.word.now c.args.suspects.now

pub loop-bit-preserved : goal.loop-bit-preserved
loop-bit-preserved c =
    more_bits c.args.word.now c.loop-bit.bit c.args.suspects.now c.loop-bit.suspects _ c.loop-bit.invariant
    (c.in_ok-push_suspect.ensures ∙ ap (λ value. c.loop-bit.suspects ++ suspect_of c.args.word.now value) c.flipped.ensures)
