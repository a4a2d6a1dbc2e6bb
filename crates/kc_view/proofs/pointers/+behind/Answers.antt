use Rattle.std.proofs.lemmas.List.{take_rest}
use Rattle.kc_view.proofs.PointerLemmas.{behind-none, behind-next, behind-stop}
use Rattle.kc_view.proofs.WordLemmas.{behind_words-next, behind_words-stop}
use Rattle.kc_view.proofs.pointers.+behind.Goals as goal

pub returns-in-empty-clause-exact : goal.returns-in-empty-clause-exact
returns-in-empty-clause-exact g t c =
    behind-none (g.S.Space.image c.args.space.now) c.args.at c.args.offsets.now c.in-empty.len_below

pub returns-in-Ok-clause-exact : goal.returns-in-Ok-clause-exact
returns-in-Ok-clause-exact g t c =
    let rest = rw (c.in-Ok.ensures.stays.same_image, take_rest c.args.offsets.now 1) at c.behind.ensures.exact in
    behind-next (g.S.Space.image c.args.space.now) c.args.at c.args.offsets.now c.in-Ok.pointer c.target.result c.behind.result c.in-len1-up.len_at_least c.in-Ok.ensures.exact c.target.ensures rest

pub returns-in-Err-clause-exact : goal.returns-in-Err-clause-exact
returns-in-Err-clause-exact g t c =
    behind-stop (g.S.Space.image c.args.space.now) c.args.at c.args.offsets.now c.in-Err.stop c.in-len1-up.len_at_least c.in-Err.ensures.exact

pub returns-in-Ok-clause-words : goal.returns-in-Ok-clause-words
returns-in-Ok-clause-words g t c =
    let rest = rw (c.in-Ok.ensures.stays.same_image, c.in-Ok.ensures.stays.same_most, take_rest c.args.offsets.now 1) at c.behind.ensures.words in
    behind_words-next (g.S.Space.image c.args.space.now) c.args.at c.args.offsets.now c.in-Ok.pointer c.target.result c.behind.result _ _ _ _ c.in-len1-up.len_at_least c.in-Ok.ensures.exact c.target.ensures c.in-Ok.ensures.words rest

pub returns-in-Err-clause-words : goal.returns-in-Err-clause-words
returns-in-Err-clause-words g t c =
    behind_words-stop (g.S.Space.image c.args.space.now) c.args.at c.args.offsets.now c.in-Err.stop _ _ _ c.in-len1-up.len_at_least c.in-Err.ensures.words
