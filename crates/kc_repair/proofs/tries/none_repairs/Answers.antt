use Rattle.std.proofs.Common.{ap, length, refl, arith}
use Rattle.std.proofs.lemmas.List.{length-take}
use Rattle.kc_plan.specs.Views.{plan_seen}
use Rattle.kc_repair.specs.Repairs.{judged_with, most, with_words}
use Rattle.kc_repair.proofs.Trying.{none-repairs}
use Rattle.kc_repair.proofs.tries.none_repairs.Goals as goal

pub overflow_cast-result : goal.overflow_cast-result
overflow_cast-result g c = omega (arith, ap length c.tried_of-tried.ensures, length-take most c.args.suspects.now)

pub returns-in-Ok-clause-exact : goal.returns-in-Ok-clause-exact
returns-in-Ok-clause-exact g c =
    none-repairs _ (λ image. judged_with (with_words image c.args.earlier.now) (plan_seen c.args.audit.now.plan.now) (c.args.audit.now.root.audit, c.args.audit.now.root.start) c.args.breaking.now.walk c.args.breaking.now.only)
    c.args.breaking.now.found c.args.suspects.now c.tried_of-tried.result.now c.first_that_leads-memory.result.answer c.in-Ok.then _ c.tried_of-tried.ensures refl c.in-Ok.is c.first_that_leads-memory.ensures.exact
