use Rattle.std.proofs.Common.{◌≡◌, ◌++◌, drop, flat_map}
use Rattle.kc_gen.specs.Types.{numbers_bytes}
use Rattle.kc_gen.proofs.types.push_ints.Given as goal

-- what was added, and what is still to come, are the whole
abbrev pub invariant-loop-int : goal.invariant-loop-int
invariant-loop-int l = l.bytes.items ++ flat_map numbers_bytes (drop l.int-index l.ints) ≡ l.fn.bytes.items ++ flat_map numbers_bytes l.ints
