use Rattle.std.proofs.Common.{◌≡◌, ◌++◌, drop}
use Rattle.kc_app.specs.Shown.{member_lines}
use Rattle.kc_app.proofs.layout.push_members.Given as goal

-- what was added, and what is still to come, are the whole
abbrev pub invariant-loop-line : goal.invariant-loop-line
invariant-loop-line l = l.text.items ++ member_lines l.types.strings (drop l.line-index l.lines) ≡ l.fn.text.items ++ member_lines l.types.strings l.lines
