use Rattle.std.proofs.Common.{◌≡◌, drop}
use Rattle.kc_gen.specs.Bytes.{laid}
use Rattle.kc_gen.proofs.bytes.lay.Given as goal

-- what is still to come on what stands is the whole
abbrev pub invariant-loop-field : goal.invariant-loop-field
invariant-loop-field l = laid (drop l.field-index l.fields) l.bytes.items ≡ laid l.fields l.fn.bytes.items
