use Rattle.std.proofs.Common.{◌≡◌, [], replicate, vec_len}
use Rattle.kc_syms.specs.Listed.{parts}
use Rattle.kc_syms.proofs.index.new_index.Given as goal

-- so many parts, with no row
abbrev pub invariant-loop-part : goal.invariant-loop-part
invariant-loop-part l = (vec_len l.index ≡ l._part) × (parts l.index.items ≡ replicate l._part [])
