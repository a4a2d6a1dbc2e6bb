use Rattle.std.proofs.Common.{◌≡◌, ◌++◌, drop}
use Rattle.kc_text.specs.Compose.{texts}
use Rattle.kc_printk.specs.Texts.{shown_byte}
use Rattle.kc_printk.proofs.text.push_text.Given as goal

-- what was added, and what is still to come, are the whole
abbrev pub invariant-loop-byte : goal.invariant-loop-byte
invariant-loop-byte l = l.text.items ++ texts (shown_byte l.indent) (drop l.byte-index l.bytes) ≡ l.fn.text.items ++ texts (shown_byte l.indent) l.bytes
