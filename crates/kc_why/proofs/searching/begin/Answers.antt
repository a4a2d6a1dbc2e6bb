use Rattle.std.proofs.Common.{◌≡◌, List, rules, nat_eq, sym, ap, subst, ◌∙◌}
use Rattle.std.specs.Bool.{OnTrue}
use Rattle.std.proofs.lemmas.Bool.{OnTrue_from, eq-eqb, eqb-true}
use Rattle.kc_word.specs.declared.plain.Segment.{Segment}
use Rattle.kc_outside.specs.declared.store.Slot.TheVariants.{Dump}
use Rattle.kc_outside.specs.Files.{content}
use Rattle.kc_phys.specs.Blocks.{reach}
use Rattle.kc_phys.specs.Stored.{AreInside}
use Rattle.kc_command.specs.Paging.{by_info}
use Rattle.kc_why.specs.Searching.{keys_of}
use Rattle.kc_why.proofs.SearchLemmas.{inside, is_there, told_by}
use Rattle.kc_why.proofs.searching.begin.Goals as goal

pub returns-clause-inside : goal.returns-clause-inside
returns-clause-inside g c =
    let frames = c.ask_over-memory.result.memory in
    let segments = c.segments-segments.result.now in
    let ends : c.over-frames.result.end ≡ reach segments = c.over-frames.result.ends ∙ ap (λ v. reach v.items) c.over-frames.ensures.segments ∙ ap reach c.in_ok-room.ensures.segments in
    let known : OnTrue (nat_eq frames.end c.over-frames.result.end) (AreInside (g.S.Store.sizes c.into_store-store.result.now Dump) segments) =
    OnTrue_from _ _ (λ is. subst (λ m. AreInside (g.S.Store.sizes m Dump) segments) (sym c.into_store-store.ensures.now)
    (inside (g.S.Store.sizes frames.store.now Dump) segments c.over-frames.result.end frames.end frames.inside.0 frames.within ends (eqb-true _ _ is))) in
    subst (λ m. OnTrue (nat_eq frames.end c.over-frames.result.end) (AreInside (g.S.Store.sizes m Dump) c.args.kernel.now.core.segments)) (search rules)
    (subst (λ (ss : List Segment). OnTrue (nat_eq frames.end c.over-frames.result.end) (AreInside (g.S.Store.sizes c.into_store-store.result.now Dump) ss)) c.segments-segments.ensures known)

pub returns-clause-told : goal.returns-clause-told
returns-clause-told g c =
    told_by (by_info c.args.kernel.now.info) c.args.kernel.now.core.segments c.in_ok-room.room.segments.items c.in_ok-room.room.tail (content (g.S.Store.files c.args.store.now) Dump (g.S.Store.opened c.args.store.now Dump))
    (λ i. c.in_ok-told.told ≡ keys_of i c.args.shape.now) (search rules) (search rules) (search rules)

pub returns-clause-there : goal.returns-clause-there
returns-clause-there g c =
    let frames = c.ask_over-memory.result.memory in
    let segments = c.args.kernel.now.core.segments in
    let same : c.in_ok-room.room.segments.items ≡ segments = search rules in
    let ends : c.over-frames.result.end ≡ reach segments = c.over-frames.result.ends ∙ ap (λ v. reach v.items) c.over-frames.ensures.segments ∙ ap reach same in
    let known = is_there segments frames.segments.items c.in_ok-room.room.tail frames.tail
    (content (g.S.Store.files c.args.store.now) Dump (g.S.Store.opened c.args.store.now Dump))
    (content (g.S.Store.files c.into_store-store.result.now) Dump (g.S.Store.opened c.into_store-store.result.now Dump)) c.over-frames.result.end frames.end (nat_eq frames.end c.over-frames.result.end)
    (search rules) ends frames.ends (λ is. eq-eqb _ _ is) in
    search (rules, known)
