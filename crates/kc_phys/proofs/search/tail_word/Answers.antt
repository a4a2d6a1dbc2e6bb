use Rattle.kc_phys.proofs.SegmentLemmas.{tail_is}
use Rattle.kc_phys.proofs.search.tail_word.Goals as goal

pub returns-in-Some : goal.returns-in-Some
returns-in-Some c = λ tail segments law. tail_is tail segments c.args.tails.now c.args.pa _ law c.requires.aligned c.in-Some.ensures

pub returns-in-None : goal.returns-in-None
returns-in-None c = λ tail segments law. tail_is tail segments c.args.tails.now c.args.pa _ law c.requires.aligned c.in-None.ensures
