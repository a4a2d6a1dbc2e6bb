use Rattle.kc_repair.proofs.FirstWalks.{found-as}
use Rattle.kc_repair.proofs.first.found_by.Goals as goal

pub returns-clause-exact : goal.returns-clause-exact
returns-clause-exact g c = found-as _ c.args.first.now c.walk.result c.wrong_in.result c.walk.ensures.walk c.wrong_in.ensures
