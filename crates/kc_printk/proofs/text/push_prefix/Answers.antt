use Rattle.kc_printk.proofs.TextLemmas.{on_ok, prefix_made}
use Rattle.kc_printk.proofs.text.push_prefix.Goals as goal

pub returns : goal.returns
returns c =
    on_ok c.push-3.result
    (prefix_made c.args.time c.args.text.now.items c.push.new.text.items c.push_padded.new.text.items c.push-2.new.text.items c.push_padded-2.new.text.items c.push-3.new.text.items
    c.in_ok-push.ensures c.in_ok-push_padded.ensures c.in_ok-push-2.ensures c.in_ok-push_padded-2.ensures) c.push-3.ensures
