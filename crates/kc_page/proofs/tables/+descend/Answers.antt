use Rattle.std.proofs.Common.{◌+◌, ◌%◌}
use Rattle.kc_page.proofs.DescentLemmas.{descent_ends, descent_goes, descent_arrives, descent_stops, reads_end, reads_go, reads_arrive, reads_stop}
use Rattle.kc_page.proofs.tables.+descend.Goals as goal

pub returns-then-level-eq0-clause-translated : goal.returns-then-level-eq0-clause-translated
returns-then-level-eq0-clause-translated g t c =
    descent_ends (g.F.Frames.image c.args.frames.now) c.args.sme c.args.va c.args.level c.args.table c.if-level-eq0.true

pub returns-in-Ok-Table-clause-translated : goal.returns-in-Ok-Table-clause-translated
returns-in-Ok-Table-clause-translated g t c =
    let enters = rw c.in-Ok-Table.field-0-is at c.in-Ok-Table.ensures.entered in
    let below = rw c.in-Ok-Table.ensures.stays.same_image at c.descend.ensures.translated in
    descent_goes (g.F.Frames.image c.args.frames.now) c.args.sme c.args.va c.args.level c.args.table c.in-Ok-Table.next c.descend.result c.if-level-eq0.false enters below

pub returns-in-Ok-Large-clause-translated : goal.returns-in-Ok-Large-clause-translated
returns-in-Ok-Large-clause-translated g t c =
    let enters = rw c.in-Ok-Large.field-0-is at c.in-Ok-Large.ensures.entered in
    descent_arrives (g.F.Frames.image c.args.frames.now) c.args.sme c.args.va c.args.level c.args.table c.in-Ok-Large.pa c.if-level-eq0.false enters

pub returns-in-Err-clause-translated : goal.returns-in-Err-clause-translated
returns-in-Err-clause-translated g t c =
    descent_stops (g.F.Frames.image c.args.frames.now) c.args.sme c.args.va c.args.level c.args.table c.in-Err.stop c.if-level-eq0.false c.in-Err.ensures.entered

pub returns-then-level-eq0-clause-reads : goal.returns-then-level-eq0-clause-reads
returns-then-level-eq0-clause-reads g t c =
    reads_end (g.F.Frames.image c.args.frames.now) c.args.sme c.args.va c.args.level c.args.table c.args.steps.now (c.args.table + c.args.va % 4096) c.if-level-eq0.true

pub returns-in-Ok-Table-clause-reads : goal.returns-in-Ok-Table-clause-reads
returns-in-Ok-Table-clause-reads g t c =
    let enters = rw c.in-Ok-Table.field-0-is at c.in-Ok-Table.ensures.entered in
    let below = rw c.in-Ok-Table.ensures.stays.same_image at c.descend.ensures.reads in
    reads_go (g.F.Frames.image c.args.frames.now) c.args.sme c.args.va c.args.level c.args.table c.in-Ok-Table.next c.args.steps.now c.enter.new.steps c.descend.new.steps c.descend.result c.if-level-eq0.false enters c.in-Ok-Table.ensures.steps below

pub returns-in-Ok-Large-clause-reads : goal.returns-in-Ok-Large-clause-reads
returns-in-Ok-Large-clause-reads g t c =
    let enters = rw c.in-Ok-Large.field-0-is at c.in-Ok-Large.ensures.entered in
    reads_arrive (g.F.Frames.image c.args.frames.now) c.args.sme c.args.va c.args.level c.args.table c.in-Ok-Large.pa c.args.steps.now c.enter.new.steps c.if-level-eq0.false enters c.in-Ok-Large.ensures.steps

pub returns-in-Err-clause-reads : goal.returns-in-Err-clause-reads
returns-in-Err-clause-reads g t c =
    reads_stop (g.F.Frames.image c.args.frames.now) c.args.sme c.args.va c.args.level c.args.table c.args.steps.now c.enter.new.steps c.in-Err.stop c.if-level-eq0.false c.in-Err.ensures.entered c.in-Err.ensures.steps
