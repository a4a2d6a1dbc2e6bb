use Rattle.std.proofs.Common.{arith, sym, ◌∙◌, ◌-◌}
use Rattle.kc_plan.proofs.LinkLemmas.{within-zero, within-root, within-above}
use Rattle.kc_plan.proofs.link.+is_within.Goals as goal

pub returns-then-most-eq0 : goal.returns-then-most-eq0
returns-then-most-eq0 t c = sym (within-zero c.args.most c.args.links.now c.args.number (omega arith))

pub returns-in-Some : goal.returns-in-Some
returns-in-Some t c = c.is_within.ensures ∙ sym (within-above c.args.most (c.args.most - 1) c.args.links.now c.args.number c.in-Some.above (omega arith) (sym c.in-Some.ensures))

pub returns-in-None : goal.returns-in-None
returns-in-None t c = sym (within-root c.args.most c.args.links.now c.args.number (λ e. omega arith) (sym c.in-None.ensures))
