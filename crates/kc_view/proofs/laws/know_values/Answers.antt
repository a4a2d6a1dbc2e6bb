use Rattle.kc_view.proofs.ValueLaws.{values_stand, paths_stand, reads_where_led, reads_from_byte}
use Rattle.kc_view.proofs.laws.know_values.Goals as goal

pub returns-clause-values : goal.returns-clause-values
returns-clause-values c = values_stand c.know_numbers.ensures.stand

pub returns-clause-paths : goal.returns-clause-paths
returns-clause-paths c = paths_stand c.know_numbers.ensures.stand

pub returns-clause-led : goal.returns-clause-led
returns-clause-led c = reads_where_led

pub returns-clause-bytes : goal.returns-clause-bytes
returns-clause-bytes c = reads_from_byte
