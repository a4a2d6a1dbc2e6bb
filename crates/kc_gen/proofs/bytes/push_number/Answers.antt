use Rattle.std.proofs.Common.{◌∙◌, ap, ◌++◌, ◌-◌, ◌+◌, ◌/◌}
use Rattle.kc_gen.specs.Bytes.{number_bytes}
use Rattle.kc_gen.proofs.Loops.{number_more}
use Rattle.kc_gen.proofs.bytes.push_number.Goals as goal

pub loop-preserved : goal.loop-preserved
loop-preserved c =
    ap (λ xs. xs ++ number_bytes (c.args.width - (c.loop.counter + 1)) (c.loop.rest / 256)) c.in_ok-push.ensures.items
    ∙ number_more c.loop.bytes.items c.args.width c.loop.counter c.loop.rest c.loop-test.true ∙ c.loop.invariant
