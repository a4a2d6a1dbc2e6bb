use Rattle.kc_audit.proofs.ReachedLemmas.{reached_by_paths}
use Rattle.kc_audit.proofs.laws.know_reached.Goals as goal

pub returns : goal.returns
returns c = reached_by_paths
