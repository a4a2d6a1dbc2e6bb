use Rattle.std.specs.Prelude.{Ok}
use Rattle.kc_found.specs.declared.verdict.Verdict.TheVariants.{Clean}
use Rattle.kc_plan.specs.Views.{plan_seen}
use Rattle.kc_run.proofs.Counting.{ends_clean, ends_broken}
use Rattle.kc_run.proofs.Standing.{stands_told}
use Rattle.kc_run.proofs.Tallying.{all_tallied}
use Rattle.kc_run.proofs.roots.run.Goals as goal

pub returns-in-Ok-enter_roots-clause-exact : goal.returns-in-Ok-enter_roots-clause-exact
returns-in-Ok-enter_roots-clause-exact g c =
    ends_clean (g.S.Space.image c.args.space.now) (plan_seen c.args.plan.now) c.enter_roots.new.recorder.counts c.in-Ok-enter_roots.field-0 (rw c.in-Ok.ensures at (all_tallied (g.S.Space.image c.args.space.now) (plan_seen c.args.plan.now) c.in-Ok.counts c.enter_roots.new.recorder.counts (Ok c.in-Ok-enter_roots.field-0) c.in-Ok-enter_roots.ensures.means))

pub returns-in-Ok-enter_roots-clause-stands : goal.returns-in-Ok-enter_roots-clause-stands
returns-in-Ok-enter_roots-clause-stands g c =
    stands_told c.know_verdicts.ensures.clean (g.S.Space.image c.args.space.now) (plan_seen c.args.plan.now) (Clean c.enter_roots.new.recorder.counts)
    (returns-in-Ok-enter_roots-clause-exact g c)

pub returns-in-Err-Broken-clause-exact : goal.returns-in-Err-Broken-clause-exact
returns-in-Err-Broken-clause-exact g c =
    ends_broken _ (g.S.Space.image c.args.space.now) (plan_seen c.args.plan.now) c.enter_roots.new.recorder.counts c.in-Err-Broken.found (rw (c.in-Ok.ensures, c.in-Err-Broken.field-0-is) at (all_tallied (g.S.Space.image c.args.space.now) (plan_seen c.args.plan.now) c.in-Ok.counts c.enter_roots.new.recorder.counts _ c.in-Err-Broken.ensures.means))

pub returns-in-Err-Broken-clause-stands : goal.returns-in-Err-Broken-clause-stands
returns-in-Err-Broken-clause-stands g c =
    stands_told c.know_verdicts.ensures.clean (g.S.Space.image c.args.space.now) (plan_seen c.args.plan.now) _
    (returns-in-Err-Broken-clause-exact g c)
