use Rattle.std.proofs.Common.{◌≡◌, ◌++◌, drop, flat_map}
use Rattle.kc_gen.specs.Types.{numbers_bytes}
use Rattle.kc_gen.proofs.types.push_rows.Given as goal

-- what was added, and what is still to come, are the whole
abbrev pub invariant-loop-row : goal.invariant-loop-row
invariant-loop-row l = l.bytes.items ++ flat_map numbers_bytes (drop l.row-index l.rows) ≡ l.fn.bytes.items ++ flat_map numbers_bytes l.rows
