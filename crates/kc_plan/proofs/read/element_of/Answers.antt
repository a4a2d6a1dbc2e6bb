use Rattle.std.proofs.Common.{arith}
use Rattle.std.proofs.lemmas.Grind.{common_steps}
use Rattle.std.proofs.lemmas.Option.{slice_get-map}
use Rattle.kc_plan.specs.Planned.{audit_seen}
use Rattle.kc_plan.proofs.read.element_of.Goals as goal

pub returns-clause-exact : goal.returns-clause-exact
returns-clause-exact c = rw (slice_get-map audit_seen c.args.audits.now c.args.number) (grind (arith, common_steps))
