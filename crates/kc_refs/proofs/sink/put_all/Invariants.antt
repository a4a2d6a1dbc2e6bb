use Rattle.std.proofs.Common.{◌≡◌, ◌≤◌, ◌-◌, length, take}
use Rattle.kc_outside.specs.Texts.{with_piece}
use Rattle.kc_refs.proofs.sink.put_all.Given as goal

-- the sink took the text's first bytes, and didn't fail
abbrev pub invariant-loop-at : goal.invariant-loop-at
invariant-loop-at g l = record {
  within : l.at ≤ length l.text;
  took : g.K.Sink.taken l.sink ≡ with_piece (g.K.Sink.taken l.fn.sink) (take l.at l.text);
  quiet : g.K.Sink.faults l.sink ≡ g.K.Sink.faults l.fn.sink;
}

abbrev pub decreases-loop-at : goal.decreases-loop-at
decreases-loop-at g l = length l.text - l.at
