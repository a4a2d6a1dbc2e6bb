use Rattle.std.proofs.Common.{sym, ◌∙◌}
use Rattle.kc_syms.proofs.DigitLemmas.{lists_behind_f}
use Rattle.kc_syms.proofs.row.listed_in.Goals as goal

pub returns-then-are_f : goal.returns-then-are_f
returns-then-are_f c =
    c.listed_from.ensures
    ∙ lists_behind_f c.args.digits.now c.split_at.result.0.now c.split_at.result.1.now c.told-digits c.split_at.ensures.front c.split_at.ensures.back
    (sym c.are_f.ensures ∙ c.if-are_f.true)
