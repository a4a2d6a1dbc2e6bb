use Rattle.kc_owner.proofs.AreaLemmas.HoldLaws.{modules_hold, processors_hold, stacks_hold}
use Rattle.kc_owner.proofs.area.laws.know_areas.Goals as goal

pub returns-clause-modules : goal.returns-clause-modules
returns-clause-modules c = modules_hold

pub returns-clause-processors : goal.returns-clause-processors
returns-clause-processors c = processors_hold

pub returns-clause-stacks : goal.returns-clause-stacks
returns-clause-stacks c = stacks_hold
