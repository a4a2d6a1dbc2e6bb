use Rattle.std.proofs.Common.{◌≡◌, ◌-◌, ◌≤◌, ◌++◌, ℕ, drop, length}
use Rattle.kc_phys.specs.Runs.{parts_of}
use Rattle.kc_phys.proofs.runs.push_parts.Given as goal

-- What was added, and what is still to come, are the whole. A run that was passed over has no word from the limit on.
abbrev pub invariant-loop-next : goal.invariant-loop-next
invariant-loop-next l = record {
  whole : l.all.items ++ parts_of l.from l.limit (drop l.next l.runs) ≡ l.fn.all.items ++ parts_of l.from l.limit (drop l.at l.runs);
  within : l.next ≤ length l.runs;
  rest : (lo hi : ℕ) → l.limit ≤ lo → parts_of lo hi (drop l.next l.runs) ≡ parts_of lo hi (drop l.at l.runs);
}

abbrev pub decreases-loop-next : goal.decreases-loop-next
decreases-loop-next l = length l.runs - l.next
