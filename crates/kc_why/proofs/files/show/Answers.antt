use Rattle.kc_outside.specs.declared.store.Slot.TheVariants as slot
use Rattle.kc_outside.specs.Files.{Files}
use Rattle.kc_cause.specs.Explained.{cause_made}
use Rattle.kc_why.proofs.ReportLemmas.{told_prints}
use Rattle.kc_why.proofs.files.show.Goals as goal

pub returns-in-Explains-clause-output : goal.returns-in-Explains-clause-output
returns-in-Explains-clause-output g c =
    let a = c.in-Explains.asks in
    rw c.in-Explains.is
    (told_prints (λ (files : Files). cause_made (files slot.Dump a.files.dump.now) (files slot.Btf a.files.btf.now) (files slot.Map a.files.map.now) (files slot.Plan a.plan.now) (files slot.Report a.report.now))
    (g.S.Store.files c.args.store.now) c.explain.result c.explain.ensures.output)
