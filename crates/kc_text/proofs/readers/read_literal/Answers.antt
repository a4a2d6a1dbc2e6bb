use Rattle.std.proofs.Common.{◌∙◌, sym, ap, Err, arith}
use Rattle.kc_text.proofs.LoopLemmas.{rest_is, literal_stops}
use Rattle.kc_text.proofs.readers.read_literal.Goals as goal
use Rattle.kc_text.proofs.readers.read_literal.Goals.{then-i-bytes-via-then-i-bytes, then-i-bytes-via-else-i-bytes+then-bytes-i}

pub returns-then-i-bytes : goal.returns-then-i-bytes
returns-then-i-bytes c =
    let text = c.args.text.now in
    let bytes = c.args.bytes.now in
    let i = c.loop-i.i in
    sym c.loop-i.invariant.same
    ∙ literal_stops text bytes i c.loop-i-test.true c.loop-i.invariant.within
    (elim c.then-i-bytes.branch [ then-i-bytes-via-then-i-bytes w ↦ (λ more. absurd (omega arith)) | then-i-bytes-via-else-i-bytes+then-bytes-i w ↦ (λ more same. w.if-bytes-i.true same) ])
    ∙ ap (λ l. Err l) (sym (rest_is i bytes))
