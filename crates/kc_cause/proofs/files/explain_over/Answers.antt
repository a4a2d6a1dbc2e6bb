use Rattle.std.proofs.Common.{ap}
use Rattle.kc_mem.specs.Paged.{with_paging}
use Rattle.kc_command.specs.declared.halt.Halt.TheVariants.{Store, Memory}
use Rattle.kc_cause.proofs.FileLemmas.{judged_told, stops_told}
use Rattle.kc_cause.proofs.files.explain_over.Goals as goal

pub returns-in-Ok-clause-output : goal.returns-in-Ok-clause-output
returns-in-Ok-clause-output g c =
    judged_told c.args.over.now (with_paging c.args.over.now.paging (g.F.Frames.image c.args.memory)) _ c.args.report.now c.explain_judged.result.answer
    (ap (with_paging c.args.over.now.paging) c.judge_over-memory.ensures.reads.stays.same_image) c.explain_judged.ensures.output

pub returns-in-Err-Fault-clause-output : goal.returns-in-Err-Fault-clause-output
returns-in-Err-Fault-clause-output g c = stops_told c.args.over.now (with_paging c.args.over.now.paging (g.F.Frames.image c.args.memory)) c.args.report.now Store tt

pub returns-in-Err-NoMemory-clause-output : goal.returns-in-Err-NoMemory-clause-output
returns-in-Err-NoMemory-clause-output g c = stops_told c.args.over.now (with_paging c.args.over.now.paging (g.F.Frames.image c.args.memory)) c.args.report.now Memory tt
