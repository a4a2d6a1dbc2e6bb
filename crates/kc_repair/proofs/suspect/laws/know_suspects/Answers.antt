use Rattle.kc_repair.proofs.SuspectLemmas.StandLaws.{suspects_stand}
use Rattle.kc_repair.proofs.suspect.laws.know_suspects.Goals as goal

pub returns : goal.returns
returns c = suspects_stand c.know_places.ensures
