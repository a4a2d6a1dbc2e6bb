use Rattle.kc_report.proofs.ItemLemmas.{keeps_all, three_pieces}
use Rattle.kc_report.specs.Lines.{rule_at}
use Rattle.kc_report.specs.ReportText.{start_lines, end_lines}
use Rattle.kc_report.proofs.write.push_broken.Goals as goal

pub returns-clause-added : goal.returns-clause-added
returns-clause-added c = let b = c.args.broken.now in
    three_pieces c.push_end.result _ _ _ _ (start_lines b) (rule_at b.rule b.at) (end_lines b) c.in_ok-push_start.ensures.added c.in_ok-push_rule_of.ensures.added c.push_end.ensures.added

pub returns-clause-keeps : goal.returns-clause-keeps
returns-clause-keeps c = let end = c.push_end.ensures in let start = c.in_ok-push_start.ensures in
    keeps_all c.push_end.result c.args.broken.now start.name start.start c.in_ok-push_rule_of.ensures.at end.expected end.stop end.number end.places
