use Rattle.std.proofs.Common.{◌≡◌, ◌+◌, ◌≤◌, length, vec_len}
use Rattle.kc_syms.specs.Listed.{listed}
use Rattle.kc_syms.specs.Rows.{lines, rows}
use Rattle.kc_syms.proofs.ReadLemmas.{IsReadTo}
use Rattle.kc_syms.proofs.symbols.Symbols.read.Given as goal

-- the rows so far are in the index, and the lines that are left follow them
abbrev pub invariant-loop-rest : goal.invariant-loop-rest
invariant-loop-rest l =
    (vec_len l.index ≡ 256) ×
    (l.number + length (lines l.rest) ≤ length l.fn.bytes + 1) ×
    IsReadTo (listed l.index) l.number (lines l.rest) (rows l.fn.bytes)

-- the lines that are left
abbrev pub decreases-loop-rest : goal.decreases-loop-rest
decreases-loop-rest l = length (lines l.rest)
