use Rattle.kc_plan.specs.Views.{plan_seen}
use Rattle.kc_cert.proofs.CertifyingLemmas.Passing.{broken_by, certified_by}
use Rattle.kc_cert.proofs.certifying.issue.certify.Goals as goal

pub returns-in-Ok-enter_roots-clause-exact : goal.returns-in-Ok-enter_roots-clause-exact
returns-in-Ok-enter_roots-clause-exact g c =
    certified_by (g.S.Space.image c.args.space.now) (plan_seen c.args.plan.now) (record { made = c.new.result; counts = c.in-Ok.counts }) c.enter_roots.new.recorder c.new.ensures c.in-Ok.ensures c.in-Ok-enter_roots.ensures.means

pub returns-in-Err-Broken-clause-exact : goal.returns-in-Err-Broken-clause-exact
returns-in-Err-Broken-clause-exact g c =
    broken_by (g.S.Space.image c.args.space.now) (plan_seen c.args.plan.now) (record { made = c.new.result; counts = c.in-Ok.counts }) c.enter_roots.new.recorder c.in-Err-Broken.found c.in-Ok.ensures (rw c.in-Err-Broken.field-0-is at c.in-Err-Broken.ensures.means)
