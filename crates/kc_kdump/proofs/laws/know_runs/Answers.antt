use Rattle.kc_kdump.proofs.CutLemmas.{cuts_first}
use Rattle.kc_kdump.proofs.MarkedLaws.{pages_are_marked}
use Rattle.kc_kdump.proofs.laws.know_runs.Goals as goal

pub returns-clause-marked : goal.returns-clause-marked
returns-clause-marked c = pages_are_marked

pub returns-clause-cut : goal.returns-clause-cut
returns-clause-cut c = cuts_first
