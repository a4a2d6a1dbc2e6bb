use Rattle.std.proofs.Common.{◌≡◌, ◌++◌, drop}
use Rattle.kc_text.specs.Compose.{texts}
use Rattle.kc_told.specs.Text.{byte_text}
use Rattle.kc_told.proofs.text.push_bytes.Given as goal

-- what was added, and what is still to come, are the whole
abbrev pub invariant-loop-byte : goal.invariant-loop-byte
invariant-loop-byte l = l.text.items ++ texts byte_text (drop l.byte-index l.bytes) ≡ l.fn.text.items ++ texts byte_text l.bytes
