use Rattle.std.proofs.Common.{refl}
use Rattle.kc_found.specs.Blocks.{first_place}
use Rattle.kc_found.proofs.blocks.first_place.Goals as goal

pub returns : goal.returns
unfolding first_place
returns c = rw c.first_places.ensures refl
