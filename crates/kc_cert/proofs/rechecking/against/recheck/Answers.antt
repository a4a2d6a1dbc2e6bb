use Rattle.kc_plan.specs.Views.{plan_seen}
use Rattle.kc_cert.proofs.RecheckingLemmas.Right.{answers_ok, answers_unfit, begin_is, ok_right}
use Rattle.kc_cert.proofs.rechecking.against.recheck.Goals as goal

pub returns-in-Ok-enter_roots-clause-exact : goal.returns-in-Ok-enter_roots-clause-exact
returns-in-Ok-enter_roots-clause-exact g c =
    answers_ok (g.S.Space.image c.args.space.now) (plan_seen c.args.plan.now) c.args.cert.now (record { at = 0; counts = c.in-Ok.counts }) c.enter_roots.new.cursor c.in-Ok-enter_roots.field-0 c.answer_by.result (begin_is c.args.cert.now c.in-Ok.counts (plan_seen c.args.plan.now) c.in-Ok.ensures) c.answer_by.ensures c.in-Ok-enter_roots.ensures.judged

pub returns-in-Ok-enter_roots-clause-right : goal.returns-in-Ok-enter_roots-clause-right
returns-in-Ok-enter_roots-clause-right g c =
    ok_right (g.S.Space.image c.args.space.now) c.know_walked.ensures.walked c.know_verdicts.ensures.clean (plan_seen c.args.plan.now) c.args.cert.now (record { at = 0; counts = c.in-Ok.counts }) c.enter_roots.new.cursor c.in-Ok-enter_roots.field-0 c.answer_by.result (begin_is c.args.cert.now c.in-Ok.counts (plan_seen c.args.plan.now) c.in-Ok.ensures) c.answer_by.ensures c.in-Ok-enter_roots.ensures.judged

pub returns-in-Err-Unfit-clause-exact : goal.returns-in-Err-Unfit-clause-exact
returns-in-Err-Unfit-clause-exact g c =
    answers_unfit _ (g.S.Space.image c.args.space.now) (plan_seen c.args.plan.now) c.args.cert.now (record { at = 0; counts = c.in-Ok.counts }) c.enter_roots.new.cursor c.number_of.result (begin_is c.args.cert.now c.in-Ok.counts (plan_seen c.args.plan.now) c.in-Ok.ensures) c.number_of.ensures
    (rw c.in-Err-Unfit.field-0-is at c.in-Err-Unfit.ensures.judged)
