use Rattle.std.proofs.Common.{ap}
use Rattle.kc_mem.specs.Paged.{with_paging}
use Rattle.kc_cause.proofs.LedLemmas.{as_added}
use Rattle.kc_cause.proofs.repairs.push_repairs_as.Goals as goal

pub returns-in-Ok-clause-added : goal.returns-in-Ok-clause-added
returns-in-Ok-clause-added g c =
    as_added (with_paging c.args.over.now.paging (g.F.Frames.image c.args.memory)) _ c.push_repair_over.result.answer c.args.over.now c.args.root c.root_at.result c.in-Some.root c.args.number c.args.kind.now c.args.found.now
    c.repair-memory.result.answer c.in-Ok.mended _ _
    (ap (with_paging c.args.over.now.paging) c.repair-memory.ensures.stays.same_image) c.root_at.ensures.root c.in-Some.is c.in-Ok.is c.repair-memory.ensures.exact c.push_repair_over.ensures.added
