use Rattle.kc_report.specs.Copies.{name_of}
use Rattle.kc_report.proofs.ItemLemmas.{mapped_item, named}
use Rattle.kc_report.proofs.make.names_of.Goals as goal

pub loop-i-preserved : goal.loop-i-preserved
loop-i-preserved c =
    let names = c.args.plan_names.now in
    let audit = c.get.result.now in
    mapped_item (name_of names) c.args.audits.now c.loop-i.i audit _ _ _ c.get.ensures (named names audit _ c.get-in-loop-i.ensures.name) c.in_ok-push_copy.ensures.added c.loop-i.invariant
