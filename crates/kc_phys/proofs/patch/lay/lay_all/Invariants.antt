use Rattle.std.proofs.Common.{List, ℕ, length, take}
use Rattle.kc_phys.specs.Patch.Changed.{IsPart, changed_all}
use Rattle.kc_phys.proofs.patch.lay.lay_all.Given as goal

-- the changes so far are laid
abbrev pub invariant-loop-i : goal.invariant-loop-i
invariant-loop-i l =
    (file : List ℕ) → IsPart l.fn.buffer (length l.fn.buffer) l.start file → IsPart l.buffer (length l.fn.buffer) l.start (changed_all (take l.i l.changes) file)
