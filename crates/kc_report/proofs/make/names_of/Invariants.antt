use Rattle.std.proofs.Common.{◌≡◌, take, map}
use Rattle.kc_report.specs.Copies.{name_of}
use Rattle.kc_report.proofs.make.names_of.Given as goal

abbrev pub invariant-loop-i : goal.invariant-loop-i
invariant-loop-i l = l.names ≡ map (name_of l.plan_names) (take l.i l.audits)
