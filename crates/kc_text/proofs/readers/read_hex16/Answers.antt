use Rattle.std.proofs.Common.{◌≡◌, ◌+◌, ◌*◌, ◌-◌, ◌∙◌, sym, ap, Ok, Err, drop, arith}
use Rattle.kc_text.specs.Readers.{read_hex_digits}
use Rattle.kc_text.proofs.LoopLemmas.{rest_is, hex_go_on, hex_stops, hex_past, hex_done, hex_small, hex_fits}
use Rattle.kc_text.proofs.readers.read_hex16.Goals as goal
use Rattle.kc_text.proofs.readers.read_hex16.Goals.{then-i-bytes-via-then-i-bytes, then-i-bytes-via-else-i-bytes+then-not-is_lower_hex}

pub returns-then-i-bytes : goal.returns-then-i-bytes
returns-then-i-bytes c =
    let bytes = c.args.bytes.now in
    let i = c.loop-i.i in
    sym c.loop-i.invariant.same
    ∙ (elim c.then-i-bytes.branch [
      | then-i-bytes-via-then-i-bytes w ↦ hex_past c.loop-i.n bytes i c.loop-i-test.true w.if-i-bytes.true
      | then-i-bytes-via-else-i-bytes+then-not-is_lower_hex w ↦ hex_stops c.loop-i.n bytes i c.loop-i-test.true (omega arith) (sym w.is_lower_hex.ensures ∙ w.if-not-is_lower_hex.true)
    ])
    ∙ ap (λ l. Err l) (sym (rest_is i bytes))

pub overflow_mul-n : goal.overflow_mul-n
overflow_mul-n c = let fits = hex_fits c.loop-i.i c.loop-i.n 0 c.loop-i-test.true c.loop-i.invariant.small (omega arith) in omega arith

pub overflow_add-n : goal.overflow_add-n
overflow_add-n c = let fits = hex_fits c.loop-i.i c.loop-i.n c.from.result c.loop-i-test.true c.loop-i.invariant.small (omega arith) in omega arith

pub loop-i-preserved : goal.loop-i-preserved
loop-i-preserved c =
    let digit = c.from.ensures ∙ c.lower_value.ensures.value in
    record {
      within = omega arith;
      small = hex_small c.loop-i.i c.loop-i.n c.from.result c.loop-i.invariant.small (omega arith);
      same = ap (λ d. read_hex_digits (16 - (c.loop-i.i + 1)) (16 * c.loop-i.n + d) (drop (c.loop-i.i + 1) c.args.bytes.now)) digit
          ∙ hex_go_on c.loop-i.n c.args.bytes.now c.loop-i.i c.loop-i-test.true (omega arith) (sym c.is_lower_hex.ensures ∙ c.if-not-is_lower_hex.false)
          ∙ c.loop-i.invariant.same;
    }

pub returns : goal.returns
returns c =
    let bytes = c.args.bytes.now in
    let done : c.loop-i.i ≡ 16 = omega arith in
    sym c.loop-i.invariant.same ∙ ap (λ i. read_hex_digits (16 - i) c.loop-i.n (drop i bytes)) done ∙ hex_done c.loop-i.n (drop 16 bytes)
    ∙ ap (λ l. Ok (c.loop-i.n, l)) (sym (rest_is 16 bytes))
