use Rattle.std.proofs.Common.{None, Some, ap, ◌∙◌}
use Rattle.std.specs.Global.{Vec}
use Rattle.kc_word.specs.declared.plain.Segment.{Segment}
use Rattle.kc_outside.specs.declared.store.Slot.TheVariants.{Dump}
use Rattle.kc_outside.specs.Files.{content}
use Rattle.kc_plan.specs.Views.{plan_seen}
use Rattle.kc_question.specs.Memory.{image_of}
use Rattle.kc_repair.proofs.Determined.{given, imaged}
use Rattle.kc_repair.proofs.Standing.{all_stand}
use Rattle.kc_repair.proofs.tries.repair.Goals as goal

pub returns-clause-exact : goal.returns-clause-exact
returns-clause-exact g c =
    given _ (content (g.S.Store.files c.args.store.now) Dump (g.S.Store.opened c.args.store.now Dump)) (λ bytes. image_of bytes c.args.segments.now c.args.audit.now.plan.now.tail c.args.paging)
    (plan_seen c.args.audit.now.plan.now) (c.args.audit.now.root.audit, c.args.audit.now.root.start) (record { found = c.args.found; walk = None; only = Some c.args.found }) c.args.suspects.now c.try_all-memory.result.repair
    (imaged c.over-memory.result.segments.items c.args.segments.now c.over-memory.result.tail c.args.audit.now.plan.now.tail (content (g.S.Store.files c.over-memory.result.store.now) Dump (g.S.Store.opened c.over-memory.result.store.now Dump)) _ c.args.paging
    (ap (λ (v : Vec Segment). v.items) c.over-memory.ensures.segments ∙ c.in-Ok.ensures.segments) (c.over-memory.ensures.tail ∙ c.in-Ok.ensures.tail)
    (ap (λ st. content (g.S.Store.files st) Dump (g.S.Store.opened st Dump)) c.over-memory.ensures.store))
    c.try_all-memory.ensures.exact

pub returns-clause-stands : goal.returns-clause-stands
returns-clause-stands g c =
    all_stand c.know_verdicts.ensures.roots (content (g.S.Store.files c.args.store.now) Dump (g.S.Store.opened c.args.store.now Dump)) (λ bytes. image_of bytes c.args.segments.now c.args.audit.now.plan.now.tail c.args.paging)
    (plan_seen c.args.audit.now.plan.now) (c.args.audit.now.root.audit, c.args.audit.now.root.start) (record { found = c.args.found; walk = None; only = Some c.args.found }) c.args.suspects.now c.try_all-memory.result.repair
    (returns-clause-exact g c)
