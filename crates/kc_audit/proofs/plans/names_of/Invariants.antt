use Rattle.std.proofs.Common.{◌≡◌, take}
use Rattle.kc_plan.specs.Views.{plan_seen}
use Rattle.kc_audit.specs.Audits.{names_of}
use Rattle.kc_audit.proofs.plans.names_of.Given as goal

-- the names so far
abbrev pub invariant-loop-number : goal.invariant-loop-number
invariant-loop-number l = l.names ≡ names_of (take l.number (plan_seen l.plan))
