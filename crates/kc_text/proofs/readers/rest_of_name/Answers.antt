use Rattle.std.proofs.Common.{◌≡◌, ◌-◌, ◌∙◌, sym, ap, Err, take, drop, length, arith}
use Rattle.kc_text.specs.Readers.{read_name}
use Rattle.kc_text.proofs.LoopLemmas.{with_front, rest_is, name_go_on, name_ends, name_stops, name_full, name_past}
use Rattle.kc_text.proofs.readers.rest_of_name.Goals as goal
use Rattle.kc_text.proofs.readers.rest_of_name.Goals.{then-i-eq63-via-then-i-eq63, then-i-eq63-via-else-i-eq63+then-not-is_name_byte}

pub returns-then-c-end-clause-name : goal.returns-then-c-end-clause-name
returns-then-c-end-clause-name c = sym c.loop-i.invariant.same ∙ name_ends c.args.end c.args.bytes.now c.loop-i.i c.loop-i-test.true c.if-c-end.true

pub returns-then-i-eq63-clause-name : goal.returns-then-i-eq63-clause-name
returns-then-i-eq63-clause-name c =
    let bytes = c.args.bytes.now in
    let i = c.loop-i.i in
    sym c.loop-i.invariant.same
    ∙ (elim c.then-i-eq63.branch [
      | then-i-eq63-via-then-i-eq63 w ↦ name_full c.args.end bytes i c.loop-i-test.true c.if-c-end.false w.if-i-eq63.true
      | then-i-eq63-via-else-i-eq63+then-not-is_name_byte w ↦ name_stops c.args.end bytes i c.loop-i-test.true c.if-c-end.false (sym w.is_name_byte.ensures ∙ w.if-not-is_name_byte.true)
    ])
    ∙ ap (λ l. Err l) (sym (rest_is i bytes))

pub loop-i-preserved : goal.loop-i-preserved
loop-i-preserved c = record {
  short = omega arith;
  same = name_go_on c.args.end c.args.bytes.now c.loop-i.i c.loop-i-test.true (omega arith) c.if-c-end.false (sym c.is_name_byte.ensures ∙ c.if-not-is_name_byte.false) ∙ c.loop-i.invariant.same;
}

pub returns-clause-name : goal.returns-clause-name
returns-clause-name c =
    let bytes = c.args.bytes.now in
    let done : c.loop-i.i ≡ length bytes = omega arith in
    sym c.loop-i.invariant.same
    ∙ ap (λ l. with_front (take c.loop-i.i bytes) (read_name (63 - c.loop-i.i) c.args.end l)) (ap (λ i. drop i bytes) done)
    ∙ name_past (63 - c.loop-i.i) c.args.end (take c.loop-i.i bytes) bytes
    ∙ ap (λ l. Err l) (sym (rest_is (length bytes) bytes))
