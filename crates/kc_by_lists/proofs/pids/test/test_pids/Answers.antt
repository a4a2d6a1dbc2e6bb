use Rattle.std.proofs.Common.{arith, sym, ◌∙◌, rules, ◌≡◌, Err}
use Rattle.std.proofs.lemmas.List.{nil_from_length}
use Rattle.kc_by_lists.proofs.PidsLemmas.Telling.{array_halts, array_pays, no_lists}
use Rattle.kc_by_lists.proofs.pids.test.test_pids.Goals as goal

pub returns-then-len-eq0-clause-test : goal.returns-then-len-eq0-clause-test
returns-then-len-eq0-clause-test g c = no_lists _ (g.S.Space.image c.args.space.now) c.args.shape.now c.args.asked.now c.args.lists.now (nil_from_length _ (sym c.len.ensures ∙ c.if-len-eq0.true))

pub returns-in_err-items-clause-test : goal.returns-in_err-items-clause-test
returns-in_err-items-clause-test g c =
    let ended : c.from_residual.result ≡ Err c.in_err-items.field-0.0 = search rules in
    rw ended (array_halts _ _ (g.S.Space.image c.args.space.now) c.args.shape.now c.args.asked.now c.args.lists.now c.get-numbers.result.now c.in_err-items.field-0.0 c.get-numbers.ensures c.in_err-items.ensures.test)

pub returns-in_err-items-clause-steps : goal.returns-in_err-items-clause-steps
returns-in_err-items-clause-steps g c =
    let paid = array_pays c.args.lists.now c.get-numbers.result.now c.args.steps.now c.xarray_items.new.steps c.get-numbers.ensures c.in_err-items.ensures.steps in omega (arith, paid)
