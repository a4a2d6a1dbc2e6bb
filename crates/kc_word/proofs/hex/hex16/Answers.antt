use Rattle.std.proofs.Common.{◌≡◌, sym, ◌∙◌, ap, arith}
use Rattle.std.proofs.lemmas.Grind.{common_steps}
use Rattle.kc_word.specs.Hex.{hex_digits, hex_number}
use Rattle.kc_word.proofs.HexLemmas.{prints_digit, hex_number-digits, hex_digits_none}
use Rattle.kc_word.proofs.hex.hex16.Goals as goal

pub loop-at-preserved : goal.loop-at-preserved
loop-at-preserved c =
    let step = prints_digit c.loop-at.at c.loop-at.left c.loop-at.text c.loop-at-test.true (omega arith) in
    record {
      length = grind (arith, common_steps);
      within = omega arith;
      digits = rw c.digit_of.ensures (step ∙ c.loop-at.invariant.digits);
    }

pub returns-clause-digits : goal.returns-clause-digits
returns-clause-digits c =
    sym (hex_digits_none c.loop-at.at c.loop-at.left c.loop-at.text (omega arith)) ∙ c.loop-at.invariant.digits

pub returns-clause-reads_back : goal.returns-clause-reads_back
returns-clause-reads_back c =
    let text : c.loop-at.text ≡ hex_digits 16 c.args.n = sym (hex_digits_none c.loop-at.at c.loop-at.left c.loop-at.text (omega arith)) ∙ c.loop-at.invariant.digits in
    ap hex_number text ∙ hex_number-digits c.args.n c.ranges.n.fits
