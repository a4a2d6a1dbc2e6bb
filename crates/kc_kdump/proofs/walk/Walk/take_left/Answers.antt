use Rattle.kc_kdump.proofs.ByteLemmas.{left_byte}
use Rattle.kc_kdump.proofs.walk.Walk.take_left.Goals as goal

pub returns-clause-runs : goal.returns-clause-runs
returns-clause-runs c = λ rest. left_byte c.args.self.now.runs.items c.args.self.now.run rest
