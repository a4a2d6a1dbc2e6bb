use Rattle.std.proofs.Common.{◌+◌, sym, ◌∙◌, arith, lit<}
use Rattle.kc_word.proofs.DecimalLemmas.{digit_fits, power_fits, reads_digit, reads_bad, reads_none}
use Rattle.kc_word.proofs.decimal.number_of.Goals as goal

pub overflow_mul-number : goal.overflow_mul-number
overflow_mul-number c =
    let i = c.loop-c.c-index in
    let small = digit_fits i c.loop-c.number 0 (omega arith) c.loop-c.invariant.fits (lit< tt) in
    omega (arith, power_fits (i + 1) (omega arith))

pub returns-in_err-value_of : goal.returns-in_err-value_of
returns-in_err-value_of c =
    let is = c.in_err-value_of.ensures in
    c.from_residual.ensures ∙ sym (reads_bad c.args.digits.now c.loop-c.c-index c.loop-c.number c.loop-c-test.true (sym is.value)) ∙ c.loop-c.invariant.whole

pub overflow_add-number : goal.overflow_add-number
overflow_add-number c =
    let i = c.loop-c.c-index in
    let is = c.in_ok-value_of.ensures in
    let small = digit_fits i c.loop-c.number c.in_ok-value_of.field-0 (omega arith) c.loop-c.invariant.fits is.small in
    omega (arith, power_fits (i + 1) (omega arith))

pub loop-c-preserved : goal.loop-c-preserved
loop-c-preserved c =
    let i = c.loop-c.c-index in
    let is = c.in_ok-value_of.ensures in
    rw c.from.ensures record {
      fits = digit_fits i c.loop-c.number c.in_ok-value_of.field-0 (omega arith) c.loop-c.invariant.fits is.small;
      whole = reads_digit c.args.digits.now i c.loop-c.number c.in_ok-value_of.field-0 c.loop-c-test.true (sym is.value) ∙ c.loop-c.invariant.whole;
    }

pub returns : goal.returns
returns c = sym (reads_none c.args.digits.now c.loop-c.c-index c.loop-c.number c.loop-c-test.false) ∙ c.loop-c.invariant.whole
