use Rattle.std.proofs.Common.{◌≡◌, drop}
use Rattle.std.specs.Prelude.{find}
use Rattle.kc_cause.specs.Explained.{is_broken}
use Rattle.kc_cause.proofs.explained.push_first.Given as goal

-- none so far is broken, and nothing was added
abbrev pub invariant-loop-i : goal.invariant-loop-i
invariant-loop-i g l = (find is_broken (drop l.i l.verdicts) ≡ find is_broken l.verdicts) × (l.text ≡ l.fn.text)
