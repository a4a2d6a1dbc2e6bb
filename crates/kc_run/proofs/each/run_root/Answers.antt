use Rattle.std.proofs.lemmas.Result.{IfOk-weaker}
use Rattle.kc_plan.specs.Views.{plan_seen}
use Rattle.kc_run.proofs.RootLaws.{one_stands}
use Rattle.kc_run.proofs.each.run_root.Goals as goal

pub returns-clause-stands : goal.returns-clause-stands
returns-clause-stands g c =
    IfOk-weaker c.root_verdict.result _ _
    (λ found exact. one_stands c.know_verdicts.ensures.roots (g.S.Space.image c.args.space.now) (plan_seen c.args.plan.now) (c.args.root.now.audit, c.args.root.now.start) found exact)
    c.root_verdict.ensures.exact
