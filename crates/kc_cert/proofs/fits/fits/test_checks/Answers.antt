use Rattle.kc_plan.specs.Planned.{audit_seen}
use Rattle.kc_cert.proofs.FitsLemmas.Checks.{checks_fail, checks_pass}
use Rattle.kc_cert.proofs.fits.fits.test_checks.Goals as goal

pub returns-in-Ok-clause-test : goal.returns-in-Ok-clause-test
returns-in-Ok-clause-test g c = checks_pass (g.S.Space.image c.args.space.now) c.args.asked.now.audit (audit_seen c.args.audit.now) c.args.asked.now.start c.args.element _ _ c.in-Ok.ensures.tally

pub returns-in-Err-Broken-clause-test : goal.returns-in-Err-Broken-clause-test
returns-in-Err-Broken-clause-test g c =
    checks_fail _ _ (g.S.Space.image c.args.space.now) c.args.asked.now.audit (audit_seen c.args.audit.now) c.args.asked.now.start c.args.element _ (λ counts. rw c.in-Err-Broken.field-0-is at (c.in-Err-Broken.ensures.tally counts))
