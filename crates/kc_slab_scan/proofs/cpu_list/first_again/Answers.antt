use Rattle.std.proofs.Common.{rules}
use Rattle.kc_slab_scan.proofs.CpuLemmas.{seeking_done, seeking_found, seeking_next}
use Rattle.kc_slab_scan.proofs.cpu_list.first_again.Goals as goal

pub loop-i-preserved : goal.loop-i-preserved
loop-i-preserved c =
    seeking_next c.args.claims.now c.args.objects.now c.loop-i.i c.get-object.result.now c.loop-i.claims _ c.in-Ok-true.field-0 c.get-object.ensures
    c.in-Ok-true.field-0-test c.in-Ok-true.ensures.answer c.in-Ok-true.ensures.taken c.loop-i.invariant

pub returns-in-Ok-false-clause-first : goal.returns-in-Ok-false-clause-first
returns-in-Ok-false-clause-first c =
    seeking_found c.args.claims.now c.args.objects.now c.loop-i.i c.get-object.result.now c.loop-i.claims c.in-Ok-false.field-0 c.get-object.ensures
    c.in-Ok-false.field-0-test c.in-Ok-false.ensures.answer c.loop-i.invariant

pub returns-clause-first : goal.returns-clause-first
returns-clause-first c = seeking_done c.args.claims.now c.args.objects.now c.loop-i.i c.loop-i.claims (search rules) c.loop-i.invariant
