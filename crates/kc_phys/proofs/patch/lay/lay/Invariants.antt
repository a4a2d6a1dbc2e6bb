use Rattle.std.proofs.Common.{List, ℕ, length, take}
use Rattle.kc_phys.specs.Patch.Changed.{IsPart, laid}
use Rattle.kc_phys.proofs.patch.lay.lay.Given as goal

-- the bytes so far are laid
abbrev pub invariant-loop-i : goal.invariant-loop-i
invariant-loop-i l =
    (file : List ℕ) → IsPart l.fn.buffer (length l.fn.buffer) l.start file → IsPart l.buffer (length l.fn.buffer) l.start (laid l.change.off (take l.i l.bytes) file)
