use Rattle.kc_report.specs.Report.{IsLine}
use Rattle.kc_report.specs.ReportText.{audit_line}
use Rattle.kc_report.proofs.ItemLemmas.{all_item, texts_item}
use Rattle.kc_report.proofs.write.push_lines.Goals as goal

pub loop-i-preserved : goal.loop-i-preserved
loop-i-preserved c = (
  texts_item audit_line c.args.lines.now c.loop-i.i _ _ _ _ c.get.ensures c.in_ok-push_line.ensures.added c.loop-i.invariant.0,
  all_item IsLine c.args.lines.now c.loop-i.i _ c.get.ensures c.loop-i.invariant.1 c.in_ok-push_line.ensures.keeps,
)
