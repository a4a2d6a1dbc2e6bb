use Rattle.std.proofs.Common.{◌≡◌, ◌+◌, ◌-◌, ◌*◌, ◌%◌, ◌≤◌, take, IfSome}
use Rattle.kc_outside.specs.declared.store.Slot.TheVariants.{Dump}
use Rattle.kc_outside.specs.Files.{content}
use Rattle.kc_kdump.specs.Bytes.{part}
use Rattle.kc_kdump.specs.Frames.{all_frames, frames_of}
use Rattle.kc_kdump.specs.Runs.{end_of, runs_of}
use Rattle.kc_kdump.specs.Stays.{StoreStays}
use Rattle.kc_kdump.specs.Walk.{runs_after}
use Rattle.kc_kdump.proofs.read.walk_bitmaps.Given as goal

-- the store as it was, but for its counts; and the page frames that are left are walked after those that were
abbrev pub invariant-loop-left : goal.invariant-loop-left
invariant-loop-left g l = record {
  stays : StoreStays g.S.Store.opened g.S.Store.sizes g.S.Store.files g.S.Store.may g.S.Store.asked l.initial.store l.store;
  quiet : g.S.Store.faults l.store ≡ g.S.Store.faults l.initial.store;
  even : l.at % 4096 ≡ 0;
  within : l.at ≤ l.layout.half;
  bits : l.left ≤ 8 * (l.layout.half - l.at);
  end : end_of l.walk.run + l.left ≡ l.layout.frames;
  runs : IfSome (content (g.S.Store.files l.initial.store) Dump (g.S.Store.opened l.initial.store Dump))
      (λ bytes. runs_after l.walk (take l.left (all_frames (part (l.layout.bitmaps + l.at) (l.layout.half - l.at) bytes) (part (l.layout.bitmaps + l.layout.half + l.at) (l.layout.half - l.at) bytes)))
      ≡ runs_of (frames_of l.layout bytes));
}

abbrev pub decreases-loop-left : goal.decreases-loop-left
decreases-loop-left g l = l.left
