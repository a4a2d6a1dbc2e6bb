use Rattle.kc_memory.proofs.PlaceLaws.{places_stand}
use Rattle.kc_memory.proofs.laws.know_places.Goals as goal

pub returns : goal.returns
returns c = places_stand
