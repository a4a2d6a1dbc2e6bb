use Rattle.std.proofs.Common.{arith, ◌≡◌, ◌+◌}
use Rattle.std.proofs.lemmas.Grind.{common_steps}
use Rattle.kc_sight.proofs.RefsLemmas.BlockLemmas.{hit, passed}
use Rattle.kc_sight.proofs.refs.search.add_words.Goals as goal
use Rattle.kc_sight.proofs.refs.search.add_words.Goals.{in-Some+in_ok-push, in_default}

pub loop-k-preserved : goal.loop-k-preserved
loop-k-preserved c = elim c.match-writing.branch [
  | in-Some+in_ok-push w ↦
      let more = hit c.args.sought.now c.args.block.now c.args.segment.now c.args.first c.loop-k.k w.in-Some.writing (grind (arith, common_steps)) in
      grind (arith, common_steps)
  | in_default w ↦
      let more = passed c.args.sought.now c.args.block.now c.args.segment.now c.args.first c.loop-k.k (grind (arith, common_steps)) in
      grind (arith, common_steps)
]
