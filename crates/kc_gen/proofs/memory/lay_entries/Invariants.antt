use Rattle.std.proofs.Common.{◌≡◌, drop}
use Rattle.kc_gen.specs.Memory.{with_entries}
use Rattle.kc_gen.proofs.memory.lay_entries.Given as goal

-- what is still to come on what stands is the whole
abbrev pub invariant-loop-entries : goal.invariant-loop-entries
invariant-loop-entries l = with_entries (drop l.entries-index l.tables) l.bytes.items ≡ with_entries l.tables l.fn.bytes.items
