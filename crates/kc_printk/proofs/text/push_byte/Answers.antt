use Rattle.std.proofs.Common.{sym, ◌∙◌}
use Rattle.kc_printk.proofs.TextLemmas.{byte_escaped, byte_newline, byte_plain, on_ok}
use Rattle.kc_printk.proofs.text.push_byte.Goals as goal

pub returns-in_ok-push : goal.returns-in_ok-push
returns-in_ok-push c =
    on_ok c.push_many.result (byte_newline c.args.indent c.args.byte c.args.text.now.items c.push.new.text.items c.push_many.new.text.items c.if-byte-eq10.true c.in_ok-push.ensures) c.push_many.ensures

pub returns-then-is_plain : goal.returns-then-is_plain
returns-then-is_plain c =
    on_ok c.push-then-is_plain.result (byte_plain c.args.indent c.args.byte c.args.text.now.items c.push-then-is_plain.new.text.items c.if-byte-eq10.false (sym c.is_plain.ensures ∙ c.if-is_plain.true)) c.push-then-is_plain.ensures

pub returns-else-is_plain : goal.returns-else-is_plain
returns-else-is_plain c =
    on_ok c.push_escaped.result (byte_escaped c.args.indent c.args.byte c.args.text.now.items c.push_escaped.new.text.items c.if-byte-eq10.false (sym c.is_plain.ensures ∙ c.if-is_plain.false)) c.push_escaped.ensures
