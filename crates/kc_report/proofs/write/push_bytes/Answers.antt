use Rattle.std.proofs.Common.{◌++◌, take, sym, ap, ◌∙◌, ◌∷◌, [], append_assoc}
use Rattle.kc_report.proofs.ItemLemmas.{take_item}
use Rattle.kc_report.proofs.write.push_bytes.Goals as goal

pub loop-i-preserved : goal.loop-i-preserved
loop-i-preserved c =
    let name = c.args.name.now in
    let i = c.loop-i.i in
    let x = c.get.result.now in
    c.in_ok-push.ensures.items
    ∙ ap (λ l. l ++ x ∷ []) c.loop-i.invariant
    ∙ append_assoc c.args.text.now.items (take i name) (x ∷ [])
    ∙ ap (λ l. c.args.text.now.items ++ l) (sym (take_item name i x c.get.ensures))
