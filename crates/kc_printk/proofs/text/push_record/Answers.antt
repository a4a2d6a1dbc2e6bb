use Rattle.std.proofs.Common.{◌≡◌, ◌-◌, List, ℕ, length, length-append, ap, arith}
use Rattle.kc_printk.specs.Texts.{prefix}
use Rattle.kc_printk.proofs.TextLemmas.{on_ok, record_made}
use Rattle.kc_printk.proofs.text.push_record.Goals as goal

pub returns : goal.returns
returns c =
    let grown = simp length-append at (ap (λ (l : List ℕ). length l) c.in_ok-push_prefix.ensures) in
    let indent : c.len.result - c.len-before.result ≡ length (prefix c.args.time) = omega (arith, grown) in
    on_ok c.push.result
    (record_made c.args.time (c.len.result - c.len-before.result) c.args.bytes.now c.args.text.now.items c.push_prefix.new.text.items c.push_text.new.text.items c.push.new.text.items
    c.in_ok-push_prefix.ensures c.in_ok-push_text.ensures indent) c.push.ensures
