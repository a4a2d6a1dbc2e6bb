use Rattle.std.proofs.Common.{◌≡◌, ◌*◌, ◌++◌}
use Rattle.std.proofs.lemmas.List.{take-append-drop}
use Rattle.std.proofs.lemmas.Result.{IfOk-weaker}
use Rattle.kc_phys.specs.Runs.{part_has}
use Rattle.kc_phys.proofs.TableLemmas.{both_edges, both_law}
use Rattle.kc_phys.proofs.runs.+runs_from.Goals as goal

pub returns-clause-law : goal.returns-clause-law
returns-clause-law t c =
    let whole : c.split_at.result.0.now ++ c.split_at.result.1.now ≡ c.args.segments.now = rw (c.split_at.ensures.front, c.split_at.ensures.back) (take-append-drop _ _) in
    IfOk-weaker c.laid_over.result _ _
    (λ runs law word. both_law (part_has c.args.part (8 * word)) c.args.place word c.args.segments.now c.split_at.result.0.now c.split_at.result.1.now c.in_ok-over.over.items c.in_ok-under.under.items runs.items whole (c.in_ok-over.ensures.law word) (c.in_ok-under.ensures.law word) (law word))
    (rw (c.deref.ensures.value, c.deref-2.ensures.value) at c.laid_over.ensures.law)

pub returns-clause-edges : goal.returns-clause-edges
returns-clause-edges t c =
    let whole : c.split_at.result.0.now ++ c.split_at.result.1.now ≡ c.args.segments.now = rw (c.split_at.ensures.front, c.split_at.ensures.back) (take-append-drop _ _) in
    IfOk-weaker c.laid_over.result _ _
    (λ runs has. both_edges c.args.part c.args.segments.now c.split_at.result.0.now c.split_at.result.1.now c.in_ok-over.over.items c.in_ok-under.under.items runs.items whole c.in_ok-over.ensures.edges c.in_ok-under.ensures.edges has)
    (rw (c.deref.ensures.value, c.deref-2.ensures.value) at c.laid_over.ensures.edges)
