use Rattle.std.proofs.Common.{◌+◌, ◌-◌, ◌*◌, Some, None, ap}
use Rattle.kc_sight.proofs.EntryLemmas.{entries_after, entries_end, entries_go, entries_last, entries_stop, on_ok}
use Rattle.kc_sight.proofs.entries.+push_entries.Goals as goal

pub returns-then-level-eq0-clause-entries : goal.returns-then-level-eq0-clause-entries
returns-then-level-eq0-clause-entries g t c =
    entries_end (g.F.Frames.image c.args.frames.now) c.args.sme c.args.va c.args.level c.args.table c.args.entries.now.items c.if-level-eq0.true

pub returns-in-Err-Absent-clause-entries : goal.returns-in-Err-Absent-clause-entries
returns-in-Err-Absent-clause-entries g t c =
    let at = ap (λ i. c.args.table + 8 * i) c.index_at.ensures.value in
    entries_stop (g.F.Frames.image c.args.frames.now) c.args.sme c.args.va c.args.level c.args.table _ c.args.entries.now.items c.if-level-eq0.false at
    (rw c.in-Err-Absent.field-0-is at c.in-Err-Absent.ensures.word)

pub returns-in-Some-clause-entries : goal.returns-in-Some-clause-entries
returns-in-Some-clause-entries g t c =
    let at = ap (λ i. c.args.table + 8 * i) c.index_at.ensures.value in
    on_ok c.push_entries.result
    (λ below. entries_go (g.F.Frames.image c.args.frames.now) c.args.sme c.args.va c.args.level c.args.table _ c.args.entries.now.items _ c.in-Ok.word (Some c.in-Some.next)
    c.if-level-eq0.false at c.in-Ok.ensures.word c.in-Some.ensures.table
    (entries_after (g.F.Frames.image c.args.frames.now) c.args.sme c.args.va (c.args.level - 1) c.in-Some.next c.args.entries.now.items _ _ _ c.in_ok-push.ensures.items below))
    (rw c.in-Ok.ensures.stays.same_image at c.push_entries.ensures.entries)

pub returns-in-None-clause-entries : goal.returns-in-None-clause-entries
returns-in-None-clause-entries g t c =
    let at = ap (λ i. c.args.table + 8 * i) c.index_at.ensures.value in
    entries_go (g.F.Frames.image c.args.frames.now) c.args.sme c.args.va c.args.level c.args.table _ c.args.entries.now.items _ c.in-Ok.word None
    c.if-level-eq0.false at c.in-Ok.ensures.word c.in-None.ensures.table
    (entries_last (g.F.Frames.image c.args.frames.now) c.args.sme c.args.va (c.args.level - 1) c.args.entries.now.items _ _ c.in_ok-push.ensures.items)
