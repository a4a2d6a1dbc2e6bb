use Rattle.std.proofs.Common.{◌≡◌, ◌+◌, ◌-◌, ◌*◌, List, ◌++◌, take, drop}
use Rattle.kc_kdump.specs.declared.frame.Frame.{Frame}
use Rattle.kc_kdump.specs.Frames.{all_frames}
use Rattle.kc_kdump.specs.Runs.{end_of}
use Rattle.kc_kdump.specs.Walk.{runs_after}
use Rattle.kc_kdump.proofs.walk.Walk.take_bytes.Given as goal

-- the page frames of the bytes that are left are walked after those of the others
abbrev pub invariant-loop-i : goal.invariant-loop-i
invariant-loop-i l = record {
  runs : (rest : List Frame) → runs_after l.self (take l.left (all_frames (drop l.i l.memory) (drop l.i l.dumped)) ++ rest) ≡ runs_after l.initial.self (take l.most (all_frames l.memory l.dumped) ++ rest);
  end : end_of l.self.run + l.left ≡ end_of l.initial.self.run + l.most;
  left : l.left ≡ l.most - 8 * l.i;
}
