use Rattle.std.proofs.Common.{◌≡◌, ◌∷◌, [], None, find, take}
use Rattle.std.specs.Prelude.{IfSome}
use Rattle.kc_outside.specs.declared.store.Slot.TheVariants.{Dump}
use Rattle.kc_outside.specs.Files.{content}
use Rattle.kc_memory.specs.Stays.{FramesStay}
use Rattle.kc_phys.specs.Stored.{stored}
use Rattle.kc_mem.specs.Paged.{with_paging}
use Rattle.kc_plan.specs.Views.{plan_seen}
use Rattle.kc_repair.specs.Repairs.{repairs, judged_with, with_words}
use Rattle.kc_repair.proofs.tries.first_that_repairs.Given as goal

abbrev pub invariant-loop-i : goal.invariant-loop-i
invariant-loop-i g l =
    IfSome (with_paging l.paging (stored l.fn.memory.segments.items l.fn.memory.tail (content (g.S.Store.files l.fn.memory.store.now) Dump (g.S.Store.opened l.fn.memory.store.now Dump))))
    (λ image. find (repairs (judged_with (with_words image l.earlier) (plan_seen l.by.audit.now.plan.now) (l.by.audit.now.root.audit, l.by.audit.now.root.start) l.by.walk.now l.by.only)) (take l.i l.suspects) ≡ None)
    × FramesStay (λ p. stored p.segments.items p.tail (content (g.S.Store.files p.store.now) Dump (g.S.Store.opened p.store.now Dump))) (λ p. g.S.Store.files p.store.now) (λ p. p.store.ghost_name ∷ []) l.fn.memory l.memory
    × (g.S.Store.faults l.memory.store.now ≡ g.S.Store.faults l.fn.memory.store.now)
