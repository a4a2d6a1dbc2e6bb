use Rattle.std.proofs.Common.{◌≡◌, ◌++◌, ◌∷◌, []}
use Rattle.kc_xa.proofs.ListedLemmas.Gathering.{head_gathers}
use Rattle.kc_xa.proofs.ListedLemmas.Lowering.{head_sound, on_ok}
use Rattle.kc_xa.proofs.ListedLemmas.Tracing.{claim_halts, head_answers, head_halts}
use Rattle.kc_xa.proofs.listed.steps.enter_head.Goals as goal

pub returns-in-Err-clause-passes : goal.returns-in-Err-clause-passes
returns-in-Err-clause-passes g c =
    head_halts _ (g.S.Space.image c.args.space.now) c.args.shape.now c.args.start c.args.claims.now c.args.pending.now.items c.in-Err.stop c.test_stop_of.result c.test_stop_of.ensures c.in-Err.ensures.word

pub returns-in-Err-take_word-clause-passes : goal.returns-in-Err-take_word-clause-passes
returns-in-Err-take_word-clause-passes g c =
    claim_halts _ (λ (x : Unit {0}). c.take_word.new.claims) _ _ (g.S.Space.image c.args.space.now) c.args.claims.now c.in-Ok.head.pa _ c.in-Err-take_word.stop c.test_stop_of-in-Err-take_word.result c.test_stop_of-in-Err-take_word.ensures c.requires.none c.in-Err-take_word.ensures.taken

pub returns-clause-passes : goal.returns-clause-passes
returns-clause-passes g c =
    head_answers (g.S.Space.image c.args.space.now) c.args.shape.now c.args.start c.args.claims.now c.take_word.new.claims c.args.pending.now.items c.push_spot.new.pending.items c.in-Ok.head c.head_spot.result _ c.push_spot.result c.requires.none c.requires.empty c.in-Ok.ensures.word c.in-Ok-take_word.ensures.taken c.head_spot.ensures c.push_spot.ensures.added c.push_spot.ensures.memory

pub returns-clause-sound : goal.returns-clause-sound
returns-clause-sound g c =
    on_ok c.push_spot.result _ _ (λ (e : c.push_spot.new.pending.items ≡ c.args.pending.now.items ++ c.head_spot.result ∷ []). head_sound c.args.shape.now.chunk c.in-Ok.head c.args.pending.now.items c.push_spot.new.pending.items c.head_spot.result c.requires.empty c.head_spot.ensures e) c.push_spot.ensures.added

pub returns-clause-items : goal.returns-clause-items
returns-clause-items g c =
    head_gathers (g.S.Space.image c.args.space.now) c.args.shape.now c.args.start c.args.pending.now.items c.push_spot.new.pending.items c.in-Ok.head c.head_spot.result c.push_spot.result c.requires.empty c.in-Ok.ensures.word c.head_spot.ensures c.push_spot.ensures.added
