use Rattle.kc_phys.proofs.SegmentLemmas.{no_zeros}
use Rattle.kc_phys.proofs.runs.tails_of.Goals as goal

pub returns-in-Absent-clause-law : goal.returns-in-Absent-clause-law
returns-in-Absent-clause-law c = no_zeros c.args.tail c.args.segments.now c.new.result.items c.in-Absent.is c.new.ensures.items
