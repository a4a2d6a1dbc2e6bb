use Rattle.kc_mem.specs.Paged.{with_paging}
use Rattle.kc_cause.proofs.FileLemmas.{refuses_told, tells_told}
use Rattle.kc_cause.proofs.files.explain_judged.Goals as goal

pub returns-in-Ok-clause-output : goal.returns-in-Ok-clause-output
returns-in-Ok-clause-output g c =
    tells_told c.args.over.now (with_paging c.args.over.now.paging (g.F.Frames.image c.args.memory)) c.args.judged.now c.args.report.now c.tell.result.answer
    c.requires.says (rw c.in-Ok.is at c.compare.ensures) c.tell.ensures.says c.tell.ensures.not_refused

pub returns-in-Err-clause-output : goal.returns-in-Err-clause-output
returns-in-Err-clause-output g c =
    refuses_told c.args.over.now (with_paging c.args.over.now.paging (g.F.Frames.image c.args.memory)) c.args.judged.now c.args.report.now c.in-Err.halt
    c.requires.says (rw c.in-Err.is at c.compare.ensures)
