use Rattle.kc_kdump.proofs.ByteLemmas.{holes_begun, holes_many, on_both, on_many}
use Rattle.kc_kdump.proofs.walk.Walk.take_holes.Goals as goal

pub returns-clause-runs : goal.returns-clause-runs
returns-clause-runs c =
    let old = c.args.self.now in
    let new = c.begin.new.self in
    on_both c.begin.result _ _ _
    (λ put is. λ rest. holes_begun old.runs.items new.runs.items old.run new.run c.end-end.result rest c.end-end.ensures put is)
    c.begin.ensures.runs c.begin.ensures.run

pub returns-clause-many : goal.returns-clause-many
returns-clause-many c =
    let old = c.args.self.now in
    on_many c.begin.result _ _ (λ many. λ rest. holes_many old.runs.items old.run many rest) c.begin.ensures.many
