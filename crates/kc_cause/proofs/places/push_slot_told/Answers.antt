use Rattle.std.specs.Prelude.{Some}
use Rattle.kc_cause.specs.Explained.{says_at}
use Rattle.kc_cause.specs.Judged.{over_plan}
use Rattle.kc_cause.specs.Written.{slot_line}
use Rattle.kc_cause.proofs.LedLemmas.{after_pure}
use Rattle.kc_cause.proofs.places.push_slot_told.Goals as goal

pub returns-clause-added : goal.returns-clause-added
returns-clause-added g c =
    after_pure (g.M.Space.image c.args.memory.now) c.push_says_at.result c.args.text.now.items _ _ (slot_line c.args.word)
    (λ m. says_at (over_plan c.args.over.now m) c.args.word.value (Some c.args.word.va)) c.in_ok-push_slot_line.ensures c.push_says_at.ensures.added
