use Rattle.std.proofs.Common.{◌∙◌, true, false, sym, ap}
use Rattle.kc_report.specs.IsReport.{report_text}
use Rattle.kc_app.proofs.Rooted.{each_written}
use Rattle.kc_app.proofs.verdict.answer_each.Goals as goal

pub returns-then-is_broken-clause-output : goal.returns-then-is_broken-clause-output
returns-then-is_broken-clause-output c =
    each_written c.args.names.now c.args.verdicts.now c.in_ok-text.text.items true (sym c.is_broken.ensures ∙ c.if-is_broken.true) (c.in_ok-text.ensures.spelled ∙ ap report_text c.in_ok-report.ensures)

pub returns-clause-output : goal.returns-clause-output
returns-clause-output c =
    each_written c.args.names.now c.args.verdicts.now c.in_ok-text.text.items false (sym c.is_broken.ensures ∙ c.if-is_broken.false) (c.in_ok-text.ensures.spelled ∙ ap report_text c.in_ok-report.ensures)
