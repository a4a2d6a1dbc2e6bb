use Rattle.std.proofs.Common.{rules}
use Rattle.kc_found.specs.Blocks.{first_places}
use Rattle.kc_found.proofs.blocks.first_places.Goals as goal

pub returns : goal.returns
unfolding first_places
returns c = search rules
