use Rattle.kc_plan.proofs.PlanLaws.{between_at, formed_at}
use Rattle.kc_plan.proofs.plan.Plan.audit.Goals as goal

pub returns-clause-later : goal.returns-clause-later
returns-clause-later c = between_at c.args.self.now.audits _ c.args.number c.get.result.now c.args.self.now.later c.get.ensures

pub returns-clause-name : goal.returns-clause-name
returns-clause-name c = formed_at c.args.self.now.audits c.args.number c.get.result.now c.args.self.now.names c.get.ensures
