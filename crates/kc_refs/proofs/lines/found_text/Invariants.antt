use Rattle.std.proofs.Common.{◌≡◌, ◌++◌, drop}
use Rattle.kc_text.specs.Compose.{texts}
use Rattle.kc_refs.specs.Lines.{found_lines}
use Rattle.kc_refs.proofs.lines.found_text.Given as goal

-- what was added, and what is still to come, are the whole
abbrev pub invariant-loop-word : goal.invariant-loop-word
invariant-loop-word l = l.text.items ++ texts (found_lines l.keys) (drop l.word-index l.found) ≡ texts (found_lines l.keys) l.found
