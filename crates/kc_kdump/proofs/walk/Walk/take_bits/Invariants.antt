use Rattle.std.proofs.Common.{◌≡◌, ◌+◌, List, ◌++◌}
use Rattle.kc_kdump.specs.declared.frame.Frame.{Frame}
use Rattle.kc_kdump.specs.Frames.{frames_by}
use Rattle.kc_kdump.specs.Runs.{end_of}
use Rattle.kc_kdump.specs.Walk.{runs_after}
use Rattle.kc_kdump.proofs.walk.Walk.take_bits.Given as goal

-- the page frames that are left are walked after those that were
abbrev pub invariant-loop-left : goal.invariant-loop-left
invariant-loop-left l = record {
  runs : (rest : List Frame) → runs_after l.self (frames_by l.left l.m l.d ++ rest) ≡ runs_after l.initial.self (frames_by l.initial.left l.initial.m l.initial.d ++ rest);
  end : end_of l.self.run + l.left ≡ end_of l.initial.self.run + l.initial.left;
}

abbrev pub decreases-loop-left : goal.decreases-loop-left
decreases-loop-left l = l.left
