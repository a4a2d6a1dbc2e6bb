use Rattle.kc_steps.proofs.FieldsLemmas.Few.{field_few}
use Rattle.kc_steps.proofs.fields.read_field.Goals as goal

pub returns-in-Ok-clause-few : goal.returns-in-Ok-clause-few
returns-in-Ok-clause-few g c = field_few c.args.field.now.hops (g.S.Space.most c.args.space.now) _ _ c.know_most.ensures c.in-Ok.ensures.steps

pub returns-in-Err-clause-few : goal.returns-in-Err-clause-few
returns-in-Err-clause-few g c = field_few c.args.field.now.hops (g.S.Space.most c.args.space.now) _ _ c.know_most.ensures c.in-Err.ensures.steps
