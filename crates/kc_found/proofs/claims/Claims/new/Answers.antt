use Rattle.std.proofs.Common.{refl}
use Rattle.kc_found.specs.Blocks.{with_blocks}
use Rattle.kc_found.proofs.Table.{none_stands}
use Rattle.kc_found.proofs.claims.Claims.new.Goals as goal

pub invariant_of-result : goal.invariant_of-result
unfolding with_blocks
invariant_of-result c = (rw c.new.ensures.items none_stands, rw (c.new.ensures.items, c.new-2.ensures.empty) refl)

pub returns : goal.returns
unfolding with_blocks
returns c = rw (c.new.ensures.items, c.new-2.ensures.empty) refl
