use Rattle.std.proofs.Common.{arith}
use Rattle.kc_layout.proofs.LayerLemmas.{under-here, under-last, under-next}
use Rattle.kc_layout.proofs.bare.+under.Goals as goal

pub returns-in-None-clause-exact : goal.returns-in-None-clause-exact
returns-in-None-clause-exact t c = grind (arith, under-here)

pub returns-in-Some-clause-exact : goal.returns-in-Some-clause-exact
returns-in-Some-clause-exact t c = grind (arith, under-last)

pub returns-in-Some-2-clause-exact : goal.returns-in-Some-2-clause-exact
returns-in-Some-2-clause-exact t c = grind (arith, under-next)
