use Rattle.std.proofs.Common.{◌∙◌, arith, rules, ◌≡◌, Err}
use Rattle.kc_memory.specs.Stays.{stays_on}
use Rattle.kc_plan.specs.Planned.{audit_seen}
use Rattle.kc_cert.proofs.FitsLemmas.Holding.{hold_goes, hold_halts}
use Rattle.kc_cert.proofs.fits.fits.test_elements.Goals as goal

pub returns-in_err-test_checks-clause-test : goal.returns-in_err-test_checks-clause-test
returns-in_err-test_checks-clause-test g c =
    let ended : c.from_residual.result ≡ Err c.in_err-test_checks.field-0.0 = search rules in
    rw ended (hold_halts _ _ (g.S.Space.image c.args.space.now) c.args.asked.now.audit (audit_seen c.args.audit.now) c.args.asked.now.start c.args.nodes.now c.loop-i.i c.get.result.now c.in_err-test_checks.field-0.0
    c.get.ensures c.loop-i.invariant.0 (rw (c.loop-i.invariant.1.same_image, c.container_of-element.ensures) at c.in_err-test_checks.ensures.test))

pub loop-i-preserved : goal.loop-i-preserved
loop-i-preserved g c = (
  hold_goes (g.S.Space.image c.args.space.now) c.args.asked.now.audit (audit_seen c.args.audit.now) c.args.asked.now.start c.args.nodes.now c.loop-i.i c.get.result.now c.in_ok-test_checks.field-0
      c.get.ensures c.loop-i.invariant.0 (rw (c.loop-i.invariant.1.same_image, c.container_of-element.ensures) at c.in_ok-test_checks.ensures.test),
  stays_on _ _ _ _ c.args.space.now c.loop-i.space c.test_checks.new.space c.loop-i.invariant.1 c.in_ok-test_checks.ensures.stays,
  c.in_ok-test_checks.ensures.cause ∙ c.loop-i.invariant.2,
  omega (arith, c.in_ok-test_checks.ensures.steps, c.loop-i.invariant.3),
)
