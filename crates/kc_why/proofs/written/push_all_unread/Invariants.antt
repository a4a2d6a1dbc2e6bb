use Rattle.std.proofs.Common.{◌≡◌, ◌++◌, drop}
use Rattle.kc_text.specs.Compose.{texts}
use Rattle.kc_why.specs.WordText.{unread_line}
use Rattle.kc_why.proofs.written.push_all_unread.Given as goal

-- what was added, and what is still to come, are the whole
abbrev pub invariant-loop-cache : goal.invariant-loop-cache
invariant-loop-cache l = l.text.items ++ texts unread_line (drop l.cache-index l.caches) ≡ l.fn.text.items ++ texts unread_line l.caches
