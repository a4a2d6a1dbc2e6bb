use Rattle.std.proofs.Common.{◌≡◌, ◌-◌, ◌∷◌, []}
use Rattle.std.specs.Prelude.{IfSome, length}
use Rattle.kc_outside.specs.declared.store.Slot.TheVariants.{Dump}
use Rattle.kc_outside.specs.Files.{content}
use Rattle.kc_memory.specs.Stays.{FramesStay}
use Rattle.kc_phys.specs.Stored.{stored}
use Rattle.kc_mem.specs.Paged.{with_paging}
use Rattle.kc_plan.specs.Views.{plan_seen}
use Rattle.kc_repair.specs.Repairs.{WalkInside}
use Rattle.kc_cause.specs.Chained.{chain_from, chain_of, most_words}
use Rattle.kc_cause.proofs.chain.chain.Given as goal

-- the words so far, and what is left, lead where the first answer does
abbrev pub invariant-loop-i : goal.invariant-loop-i
invariant-loop-i g l =
    IfSome (with_paging l.over.paging (stored l.fn.memory.segments.items l.fn.memory.tail (content (g.S.Store.files l.fn.memory.store.now) Dump (g.S.Store.opened l.fn.memory.store.now Dump))))
    (λ m. chain_from (most_words - l._i) m (plan_seen l.over.plan.now) (l.root.audit, l.root.start) l.words l.left.walk l.left.repair ≡ chain_of m (plan_seen l.over.plan.now) (l.root.audit, l.root.start) l.fn.first)
    × FramesStay (λ p. stored p.segments.items p.tail (content (g.S.Store.files p.store.now) Dump (g.S.Store.opened p.store.now Dump))) (λ p. g.S.Store.files p.store.now) (λ p. p.store.ghost_name ∷ []) l.fn.memory l.memory
    × (g.S.Store.faults l.memory.store.now ≡ g.S.Store.faults l.fn.memory.store.now)
    × WalkInside (length l.over.types.now.records) l.left.walk
