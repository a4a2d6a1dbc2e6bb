use Rattle.std.proofs.Common.{ap, rules, ◌∙◌, arith}
use Rattle.kc_outside.specs.declared.store.Slot.TheVariants.{Dump}
use Rattle.kc_outside.specs.Files.{content}
use Rattle.kc_slab_page.specs.Frames.Frames.{frames, frames_of}
use Rattle.kc_cause.proofs.FileLemmas.{kernel_prints}
use Rattle.kc_cause.proofs.files.explain_read.Goals as goal

-- the file bytes of a segment end no later than its memory
pub frame_runs-requires : goal.frame_runs-requires
frame_runs-requires g c = λ k d lt. let below = (rw (← c.segments-segments.ensures) at c.requires.below) k d lt in omega (arith, below)

pub returns-clause-output : goal.returns-clause-output
returns-clause-output g c =
    kernel_prints (content (g.S.Store.files c.args.store.now) Dump (g.S.Store.opened c.args.store.now Dump)) (content (g.S.Store.files c.over-memory.result.store.now) Dump (g.S.Store.opened c.over-memory.result.store.now Dump))
    c.args.kernel.now c.args.planned.now c.over-memory.result.segments.items c.over-memory.result.tail (frames_of c.deref.result.now) c.args.report.now c.explain_over-memory.result.answer
    (ap (λ st. content (g.S.Store.files st) Dump (g.S.Store.opened st Dump)) c.over-memory.ensures.store) (search rules) (search rules)
    (ap frames_of c.deref.ensures.value ∙ c.in_ok-runs.ensures ∙ ap frames c.segments-segments.ensures)
    (rw c.paging_by.ensures at c.explain_over-memory.ensures.output)
