use Rattle.std.proofs.Common.{◌∷◌, [], ◌∙◌, ap, length, arith}
use Rattle.std.proofs.lemmas.List.{length-append}
use Rattle.kc_report.specs.Copies.{IsOfRoot, root_lines}
use Rattle.kc_report.proofs.ItemLemmas.{all_get, mapped_item}
use Rattle.kc_report.proofs.make.report_each.Goals as goal

pub root_text-requires : goal.root_text-requires
root_text-requires c = all_get (IsOfRoot c.args.plan_names.now) c.args.verdicts.now c.loop-i.i _ c.get.ensures c.requires.roots

pub loop-i-preserved : goal.loop-i-preserved
loop-i-preserved c = (
  mapped_item (root_lines c.args.plan_names.now) c.args.verdicts.now c.loop-i.i _ _ _ _ c.get.ensures c.in_ok-root.ensures c.in_ok-push.ensures.added c.loop-i.invariant.0,
  (let grown = ap length c.in_ok-push.ensures.added ∙ length-append c.loop-i.roots (c.in_ok-root.root ∷ []) in let long = c.loop-i.invariant.1 in omega arith),
)
