use Rattle.std.proofs.Common.{ap}
use Rattle.std.proofs.lemmas.List.{take_rest}
use Rattle.kc_view.proofs.PointerLemmas.{reached-none, reached-null, reached-next, reached-stop}
use Rattle.kc_view.proofs.WordLemmas.{reached_words-null, reached_words-next, reached_words-stop}
use Rattle.kc_view.proofs.pointers.+reach.Goals as goal

pub returns-in-empty-clause-exact : goal.returns-in-empty-clause-exact
returns-in-empty-clause-exact g t c =
    reached-none (g.S.Space.image c.args.space.now) c.args.at c.args.offsets.now c.in-empty.len_below

pub returns-then-next-eq-NULL-clause-exact : goal.returns-then-next-eq-NULL-clause-exact
returns-then-next-eq-NULL-clause-exact g t c =
    reached-null (g.S.Space.image c.args.space.now) c.args.at c.args.offsets.now c.in-Ok.pointer c.pointer.inside.first c.target-next.result c.in-len1-up.len_at_least c.in-Ok.ensures.exact (ap (λ n. n.first) c.pointer.view_is) c.target-next.ensures c.if-next-eq-NULL.true

pub returns-else-next-eq-NULL-clause-exact : goal.returns-else-next-eq-NULL-clause-exact
returns-else-next-eq-NULL-clause-exact g t c =
    let rest = rw (c.in-Ok.ensures.stays.same_image, take_rest c.args.offsets.now 1) at c.reach.ensures.exact in
    reached-next (g.S.Space.image c.args.space.now) c.args.at c.args.offsets.now c.in-Ok.pointer c.target-next.result c.reach.result c.in-len1-up.len_at_least c.in-Ok.ensures.exact c.target-next.ensures c.if-next-eq-NULL.false rest

pub returns-in-Err-clause-exact : goal.returns-in-Err-clause-exact
returns-in-Err-clause-exact g t c =
    reached-stop (g.S.Space.image c.args.space.now) c.args.at c.args.offsets.now c.in-Err.stop c.in-len1-up.len_at_least c.in-Err.ensures.exact

pub returns-then-next-eq-NULL-clause-words : goal.returns-then-next-eq-NULL-clause-words
returns-then-next-eq-NULL-clause-words g t c =
    reached_words-null (g.S.Space.image c.args.space.now) c.args.at c.args.offsets.now c.in-Ok.pointer _ _ _ _ c.in-len1-up.len_at_least c.in-Ok.ensures.exact c.in-Ok.ensures.words

pub returns-else-next-eq-NULL-clause-words : goal.returns-else-next-eq-NULL-clause-words
returns-else-next-eq-NULL-clause-words g t c =
    let rest = rw (c.in-Ok.ensures.stays.same_image, c.in-Ok.ensures.stays.same_most, take_rest c.args.offsets.now 1) at c.reach.ensures.words in
    reached_words-next (g.S.Space.image c.args.space.now) c.args.at c.args.offsets.now c.in-Ok.pointer c.target-next.result c.reach.result _ _ _ _ c.in-len1-up.len_at_least c.in-Ok.ensures.exact c.target-next.ensures c.if-next-eq-NULL.false c.in-Ok.ensures.words rest

pub returns-in-Err-clause-words : goal.returns-in-Err-clause-words
returns-in-Err-clause-words g t c =
    reached_words-stop (g.S.Space.image c.args.space.now) c.args.at c.args.offsets.now c.in-Err.stop _ _ _ c.in-len1-up.len_at_least c.in-Err.ensures.words
