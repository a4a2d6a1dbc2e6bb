use Rattle.std.proofs.Common.{arith}
use Rattle.kc_told.proofs.NearLemmas.{all_near}
use Rattle.kc_told.proofs.near.near_words.Goals as goal

pub returns-clause-told : goal.returns-clause-told
returns-clause-told g c =
    all_near (g.S.Space.image c.args.space.now) c.args.words.now.objects c.args.words.now.cpus c.args.near.now c.loop-seen.seen-index c.loop-seen.found (omega arith) c.loop-seen.invariant.told
