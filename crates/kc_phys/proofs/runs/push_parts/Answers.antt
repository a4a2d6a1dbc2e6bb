use Rattle.std.proofs.Common.{◌^◌, ◌<◌, ◌≤◌, get_or, length, arith}
use Rattle.kc_phys.specs.declared.runs.Run.{Run}
use Rattle.kc_phys.proofs.RunLemmas.{parts_whole}
use Rattle.kc_phys.proofs.runs.push_parts.Goals.{then-loop-next-test+else-runs-next, else-loop-next-test}
use Rattle.kc_phys.proofs.runs.push_parts.Goals as goal

pub returns-in_ok-push_part-2-clause-parts : goal.returns-in_ok-push_part-2-clause-parts
returns-in_ok-push_part-2-clause-parts c =
    let d : Run = record { first = 0; end = 0; segment = 0 } in
    let lt : c.loop-next.next < length c.args.runs.now = c.if-next-runs.true in
    let ends : c.args.limit ≤ (get_or c.args.runs.now c.loop-next.next d).end = elim c.loop-next-test.branch [
      | then-loop-next-test+else-runs-next w ↦ let past = w.if-runs-next.false in omega arith
      | else-loop-next-test w ↦ let past = w.loop-next-test.false in absurd (omega arith)
    ] in
    parts_whole c.args.from c.args.limit (2 ^ 62) c.loop-next.next c.args.runs.now d c.loop-next.all.items _ _ c.requires.apart lt ends c.loop-next.invariant.whole c.in_ok-push_part-2.ensures
