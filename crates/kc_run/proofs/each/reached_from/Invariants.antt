use Rattle.std.proofs.Common.{◌≡◌, ◌++◌, drop}
use Rattle.kc_plan.specs.Roots.{reached, reached_from}
use Rattle.kc_plan.specs.Views.{plan_seen}
use Rattle.kc_run.proofs.each.reached_from.Given as goal

-- the audits so far, and then those that are left
abbrev pub invariant-loop-number : goal.invariant-loop-number
invariant-loop-number l = l.audits ++ reached l.some l.number (drop l.number (plan_seen l.plan)) ≡ reached_from l.root (plan_seen l.plan)
