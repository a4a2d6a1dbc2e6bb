use Rattle.std.proofs.Common.{◌≡◌, ◌++◌, drop}
use Rattle.kc_plan.specs.Views.{plan_seen}
use Rattle.kc_run.specs.Tally.{zeros}
use Rattle.kc_run.proofs.counts.no_walks.Given as goal

abbrev pub invariant-loop : goal.invariant-loop
invariant-loop l = l.counts ++ zeros (drop l.counter (plan_seen l.plan)) ≡ zeros (plan_seen l.plan)
