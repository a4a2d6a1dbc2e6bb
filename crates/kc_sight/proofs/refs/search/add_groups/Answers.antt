use Rattle.std.proofs.Common.{◌≡◌, ◌+◌, ◌≤◌, arith}
use Rattle.std.proofs.lemmas.Grind.{common_steps}
use Rattle.kc_sight.proofs.RefsLemmas.BlockLemmas.{group_next}
use Rattle.kc_sight.proofs.refs.search.add_groups.Goals as goal

pub loop-k-preserved : goal.loop-k-preserved
loop-k-preserved c = record {
  within = grind (arith, common_steps);
  found = group_next c.args.sought.now c.args.block.now c.args.segment.now c.args.first c.loop-k.k c.min-some.result c.args.found.now.items c.loop-k.found.items c.add_group.new.found.items c.loop-k.invariant.found c.in_ok-add_group.ensures;
}
