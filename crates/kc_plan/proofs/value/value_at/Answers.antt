use Rattle.toml.proofs.Views.{table_get}
use Rattle.kc_plan.proofs.value.value_at.Goals as goal

pub returns : goal.returns
returns c = rw (← c.spelling.ensures) (table_get c.get.result c.spelling.result.now c.args.table.now.entries c.get.ensures.value)
