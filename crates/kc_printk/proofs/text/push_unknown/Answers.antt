use Rattle.kc_printk.proofs.TextLemmas.{on_ok, unknown_made}
use Rattle.kc_printk.proofs.text.push_unknown.Goals as goal

pub returns : goal.returns
returns c =
    on_ok c.push-4.result
    (unknown_made c.args.index c.args.at c.args.rule c.code_of.result.now c.args.text.now.items c.push_numbered.new.text.items c.push.new.text.items c.push-2.new.text.items c.push-3.new.text.items c.push_hex.new.text.items
    c.push-4.new.text.items c.in_ok-push_numbered.ensures c.in_ok-push.ensures c.code_of.ensures c.in_ok-push-2.ensures c.in_ok-push-3.ensures c.in_ok-push_hex.ensures) c.push-4.ensures
