use Rattle.kc_cause.proofs.FileLemmas.{report_told}
use Rattle.kc_cause.proofs.files.find_report.Goals as goal

pub returns-clause-told : goal.returns-clause-told
returns-clause-told g c =
    report_told (g.S.Store.files c.args.store.now) c.args.name.now _ _ c.in_ok-bytes.bytes c.pass_report.result c.in_ok-bytes.ensures.told c.pass_report.ensures.made
