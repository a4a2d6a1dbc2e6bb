use Rattle.std.proofs.Common.{◌≡◌, sym, ap, ◌∙◌, arith}
use Rattle.std.proofs.lemmas.Grind.{common_steps}
use Rattle.kc_sight.proofs.RefsLemmas.WritingLemmas.{filtered, is_no_one, is_one}
use Rattle.kc_sight.proofs.refs.sought.Sought.writing.Goals as goal
use Rattle.kc_sight.proofs.refs.sought.Sought.writing.Goals.{else-index-via-then-index+else-is_among, else-index-via-else-index}

-- src/sought.rt:94:5
pub returns-then-is_among : goal.returns-then-is_among
returns-then-is_among c =
    let one = is_one c.args.self.now c.args.word c.args.pa c.decode-random.result (grind (arith, common_steps)) (grind (arith, common_steps)) in
    grind (arith, common_steps)

-- src/sought.rt:94:5
pub returns-else-index : goal.returns-else-index
returns-else-index c =
    elim c.else-index.branch [
      | else-index-via-then-index+else-is_among w ↦
          let none = is_no_one c.args.self.now c.args.word c.args.pa c.decode-random.result (grind (arith, common_steps)) (grind (arith, common_steps)) in
          grind (arith, common_steps)
      | else-index-via-else-index w ↦
          let lacks = filtered c.self.inside.filter.items c.self.inside.randoms.items c.decode-random.result c.self.inside.law (grind (arith, common_steps)) in
          let none = is_no_one c.args.self.now c.args.word c.args.pa c.decode-random.result (grind (arith, common_steps)) (grind (arith, common_steps)) in
          grind (arith, common_steps)
    ]
