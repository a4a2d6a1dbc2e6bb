use Rattle.std.proofs.Common.{◌≡◌, ◌∙◌, List, ℕ, Some, slice_get, map, option_map, ap, arith, rules, Err}
use Rattle.std.proofs.lemmas.List.{length-map}
use Rattle.std.proofs.lemmas.Option.{slice_get-map}
use Rattle.kc_memory.specs.Stays.{stays_on}
use Rattle.kc_view.specs.Typed.{Typed}
use Rattle.kc_plan.specs.declared.planned.Check.{Check}
use Rattle.kc_plan.specs.Planned.{check_seen}
use Rattle.kc_run.proofs.Checking.{checks_end, checks_go, checks_stop}
use Rattle.kc_run.proofs.checks.look_checks.Goals as goal

seen_at : (checks : List Check) (i : ℕ) (check : Check) → slice_get checks i ≡ Some check → slice_get (map check_seen checks) i ≡ Some (check_seen check)
seen_at checks i check is = slice_get-map check_seen checks i ∙ ap (option_map check_seen) is

pub returns-in_err-look_check-clause-tally : goal.returns-in_err-look_check-clause-tally
returns-in_err-look_check-clause-tally g c counts =
    let ended : c.from_residual.result ≡ Err c.in_err-look_check.field-0.0 = search rules in
    rw ended (checks_stop _ _ (g.S.Space.image c.args.space.now) c.args.asked.now c.args.element c.new-view.result.at (map check_seen c.args.checks.now) c.loop-i.i (check_seen c.get.result.now) c.in_err-look_check.field-0.0
    (ap (λ (v : Typed). v.at) c.new-view.ensures) (seen_at c.args.checks.now c.loop-i.i c.get.result.now c.get.ensures) c.loop-i.invariant.0 counts (rw c.loop-i.invariant.1.same_image at (c.in_err-look_check.ensures.tally counts)))

pub loop-i-preserved : goal.loop-i-preserved
loop-i-preserved g c = (
  checks_go (g.S.Space.image c.args.space.now) c.args.asked.now c.args.element c.new-view.result.at (map check_seen c.args.checks.now) c.loop-i.i (check_seen c.get.result.now) c.in_ok-look_check.field-0
      (ap (λ (v : Typed). v.at) c.new-view.ensures) (seen_at c.args.checks.now c.loop-i.i c.get.result.now c.get.ensures) c.loop-i.invariant.0 (λ counts. rw c.loop-i.invariant.1.same_image at (c.in_ok-look_check.ensures.tally counts)),
  stays_on _ _ _ _ c.args.space.now c.loop-i.space c.look_check.new.space c.loop-i.invariant.1 c.in_ok-look_check.ensures.stays,
  c.in_ok-look_check.ensures.cause ∙ c.loop-i.invariant.2,
  omega (arith, c.in_ok-look_check.ensures.steps, c.loop-i.invariant.3),
)

pub returns-clause-tally : goal.returns-clause-tally
returns-clause-tally g c counts =
    checks_end (g.S.Space.image c.args.space.now) c.args.asked.now c.args.element (map check_seen c.args.checks.now) c.loop-i.i counts tt
    (omega (arith, length-map c.args.checks.now check_seen, c.len-i-end.ensures, c.loop-i-test.false)) c.loop-i.invariant.0
