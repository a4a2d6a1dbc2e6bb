use Rattle.std.proofs.Common.{◌≡◌, ◌+◌, ◌∙◌, sym, ap, Ok, Err, drop, length, arith}
use Rattle.kc_text.specs.Readers.{read_digits}
use Rattle.kc_text.proofs.LoopLemmas.{rest_is, digits_end, digits_stop, digits_go_on, digits_past}
use Rattle.kc_text.proofs.readers.more_digits.Goals as goal

pub returns-then-c-end : goal.returns-then-c-end
returns-then-c-end c =
    sym c.loop-i.invariant ∙ digits_end (c.args.most + 1) c.loop-i.n c.args.end c.args.bytes.now c.loop-i.i c.loop-i-test.true c.if-c-end.true
    ∙ ap (λ l. Ok (c.loop-i.n, l)) (sym (rest_is (c.loop-i.i + 1) c.args.bytes.now))

pub returns-in-None : goal.returns-in-None
returns-in-None c =
    sym c.loop-i.invariant ∙ digits_stop (c.args.most + 1) c.loop-i.n c.args.end c.args.bytes.now c.loop-i.i c.loop-i-test.true c.if-c-end.false c.in-None.ensures
    ∙ ap (λ l. Err l) (sym (rest_is c.loop-i.i c.args.bytes.now))

pub loop-i-preserved : goal.loop-i-preserved
loop-i-preserved c = digits_go_on (c.args.most + 1) c.loop-i.n c.args.end c.in-Some.more c.args.bytes.now c.loop-i.i c.loop-i-test.true c.if-c-end.false c.in-Some.ensures ∙ c.loop-i.invariant

pub returns : goal.returns
returns c =
    let bytes = c.args.bytes.now in
    let done : c.loop-i.i ≡ length bytes = omega arith in
    sym c.loop-i.invariant ∙ ap (λ i. read_digits (c.args.most + 1) c.loop-i.n c.args.end (drop i bytes)) done ∙ digits_past (c.args.most + 1) c.loop-i.n c.args.end bytes
    ∙ ap (λ l. Err l) (sym (rest_is (length bytes) bytes))
