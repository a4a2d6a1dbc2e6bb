use Rattle.std.proofs.Common.{◌≡◌, ◌++◌, drop, map}
use Rattle.kc_text.specs.Text.{visible}
use Rattle.kc_text.proofs.piece.push_name.Given as goal

-- what was added, and what is still to come, are the whole
abbrev pub invariant-loop-c : goal.invariant-loop-c
invariant-loop-c l = l.text.items ++ map visible (drop l.c-index l.name) ≡ l.fn.text.items ++ map visible l.name
