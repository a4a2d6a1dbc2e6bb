use Rattle.std.proofs.Common.{◌≡◌, ◌++◌, drop}
use Rattle.kc_text.specs.Compose.{texts}
use Rattle.kc_told.specs.Text.{entry_line}
use Rattle.kc_told.proofs.text.push_entries.Given as goal

-- what was added, and what is still to come, are the whole
abbrev pub invariant-loop-entry : goal.invariant-loop-entry
invariant-loop-entry l = l.text.items ++ texts entry_line (drop l.entry-index l.entries) ≡ l.fn.text.items ++ texts entry_line l.entries
