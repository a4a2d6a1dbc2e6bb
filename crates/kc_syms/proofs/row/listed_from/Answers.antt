use Rattle.std.proofs.Common.{◌≡◌, ◌+◌, ◌*◌, ◌-◌, ◌<◌, ◌^◌, length, rules, sym, subst, ◌∙◌, arith, lit<}
use Rattle.kc_syms.proofs.DigitLemmas.{bad_digit, digit_fits, next_digit, no_digit, power_fits}
use Rattle.kc_syms.proofs.row.listed_from.Goals as goal

pub loop-c-init : goal.loop-c-init
loop-c-init c =
    let start : 16 - length c.args.digits.now ≡ 16 - length c.args.digits.now + 0 = omega arith in
    record { fits = subst (λ e. c.args.number < 16 ^ e) start c.requires.fits; whole = search rules }

pub overflow_mul-listed : goal.overflow_mul-listed
overflow_mul-listed c =
    let i = 16 - length c.args.digits.now + c.loop-c.c-index in
    let small = digit_fits i c.loop-c.listed 0 (omega (arith, c.requires.few)) c.loop-c.invariant.fits (lit< tt) in
    omega (arith, power_fits (i + 1) (omega (arith, c.requires.few)))

pub returns-in_err-worth : goal.returns-in_err-worth
returns-in_err-worth c =
    let is = c.in_err-worth.ensures in
    c.from_residual.ensures
    ∙ sym (bad_digit c.args.digits.now c.loop-c.c-index c.loop-c.listed (omega arith) (sym is.value))
    ∙ c.loop-c.invariant.whole

pub overflow_add-listed : goal.overflow_add-listed
overflow_add-listed c =
    let i = 16 - length c.args.digits.now + c.loop-c.c-index in
    let is = c.in_ok-worth.ensures in
    let small = digit_fits i c.loop-c.listed c.in_ok-worth.field-0 (omega (arith, c.requires.few)) c.loop-c.invariant.fits is.small in
    omega (arith, power_fits (i + 1) (omega (arith, c.requires.few)))

pub loop-c-preserved : goal.loop-c-preserved
loop-c-preserved c =
    let i = 16 - length c.args.digits.now + c.loop-c.c-index in
    let is = c.in_ok-worth.ensures in
    let next : i + 1 ≡ 16 - length c.args.digits.now + (c.loop-c.c-index + 1) = omega arith in
    rw c.from.ensures record {
      fits = subst (λ e. 16 * c.loop-c.listed + c.in_ok-worth.field-0 < 16 ^ e) next
          (digit_fits i c.loop-c.listed c.in_ok-worth.field-0 (omega (arith, c.requires.few)) c.loop-c.invariant.fits is.small);
      whole = next_digit c.args.digits.now c.loop-c.c-index c.loop-c.listed c.in_ok-worth.field-0 (omega arith) (sym is.value) ∙ c.loop-c.invariant.whole;
    }

pub returns : goal.returns
returns c =
    sym (no_digit c.args.digits.now c.loop-c.c-index c.loop-c.listed (omega arith))
    ∙ c.loop-c.invariant.whole
