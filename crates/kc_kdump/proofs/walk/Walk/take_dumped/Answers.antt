use Rattle.kc_kdump.proofs.ByteLemmas.{dumped_byte}
use Rattle.kc_kdump.proofs.walk.Walk.take_dumped.Goals as goal

pub returns-clause-runs : goal.returns-clause-runs
returns-clause-runs c = λ memory rest. dumped_byte c.args.self.now.runs.items c.args.self.now.run memory rest c.requires.none
