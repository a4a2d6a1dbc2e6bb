use Rattle.std.proofs.Common.{rules}
use Rattle.kc_slab_scan.proofs.CpuLemmas.{taking_done, taking_next}
use Rattle.kc_slab_scan.proofs.cpu_list.take_all.Goals as goal

pub loop-i-preserved : goal.loop-i-preserved
loop-i-preserved c =
    taking_next c.args.claims.now c.args.objects.now c.loop-i.i c.get.result.now c.loop-i.claims _ _ c.get.ensures c.in-Ok.ensures.answer c.in-Ok.ensures.taken c.loop-i.invariant

pub returns-clause-taken : goal.returns-clause-taken
returns-clause-taken c = taking_done c.args.claims.now c.args.objects.now c.loop-i.i c.loop-i.claims (search rules) c.loop-i.invariant
