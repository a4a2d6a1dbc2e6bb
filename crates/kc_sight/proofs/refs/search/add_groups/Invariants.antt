use Rattle.std.proofs.Common.{◌≡◌, ◌≤◌, ◌-◌, ◌++◌}
use Rattle.kc_sight.specs.Refs.Holding.{in_block}
use Rattle.kc_sight.proofs.refs.search.add_groups.Given as goal

-- what is found among the words so far
abbrev pub invariant-loop-k : goal.invariant-loop-k
invariant-loop-k l = record {
  within : l.k ≤ l.count;
  found : l.found.items ≡ l.initial.found.items ++ in_block l.sought l.block l.segment l.first l.k;
}

abbrev pub decreases-loop-k : goal.decreases-loop-k
decreases-loop-k l = l.count - l.k
