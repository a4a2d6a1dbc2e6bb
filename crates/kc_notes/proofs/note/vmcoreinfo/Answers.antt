use Rattle.std.proofs.Common.{◌<◌, length, sym, ◌∙◌, arith}
use Rattle.kc_notes.proofs.SearchLemmas.{part_found, part_broken, part_passed}
use Rattle.kc_notes.proofs.note.vmcoreinfo.Goals as goal

pub returns-in-Ok-Some : goal.returns-in-Ok-Some
returns-in-Ok-Some c =
    let below : c.loop-index.index < length c.args.core.now.notes = omega arith in
    sym c.loop-index.invariant ∙ part_found c.args.core.now.notes c.loop-index.index c.note.result.now c.in-Ok-Some.text.now below c.note.ensures (rw c.in-Ok-Some.field-0-is at c.in-Ok-Some.ensures)

pub returns-in-Err : goal.returns-in-Err
returns-in-Err c =
    let below : c.loop-index.index < length c.args.core.now.notes = omega arith in
    sym c.loop-index.invariant ∙ part_broken c.args.core.now.notes c.loop-index.index c.note.result.now c.in-Err.place below c.note.ensures c.in-Err.ensures

pub loop-index-preserved : goal.loop-index-preserved
loop-index-preserved c =
    let below : c.loop-index.index < length c.args.core.now.notes = omega arith in
    sym (part_passed c.args.core.now.notes c.loop-index.index c.note.result.now below c.note.ensures (rw c.in-Ok-None.field-0-is at c.in-Ok-None.ensures)) ∙ c.loop-index.invariant
