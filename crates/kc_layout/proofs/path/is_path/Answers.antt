use Rattle.std.proofs.Common.{List, Option, ◌-◌, nat_eq, is_some, ap, ◌∙◌, sym, arith}
use Rattle.kc_layout.specs.Path.{Step}
use Rattle.kc_layout.specs.PathViews.{cut_view}
use Rattle.kc_layout.proofs.PathLemmas.{steps-empty, steps-stop, steps-full, is_some-next}
use Rattle.kc_layout.proofs.path.is_path.Goals as goal

pub returns-then-is_empty : goal.returns-then-is_empty
returns-then-is_empty c =
    let l = c.loop-taken in
    sym (ap (λ (o : Option (List Step)). is_some o) (steps-empty (256 - l.taken) (nat_eq l.taken 0) l.rest.now (sym c.is_empty.ensures ∙ c.if-is_empty.true))) ∙ l.invariant

pub returns-in-None : goal.returns-in-None
returns-in-None c =
    let l = c.loop-taken in
    sym (ap (λ (o : Option (List Step)). is_some o) (steps-stop (256 - l.taken) (nat_eq l.taken 0) l.rest.now (sym c.is_empty.ensures ∙ c.if-is_empty.false) c.in-None.ensures)) ∙ l.invariant

pub loop-taken-preserved : goal.loop-taken-preserved
loop-taken-preserved c =
    let l = c.loop-taken in
    is_some-next l.taken (nat_eq l.taken 0) l.rest.now (cut_view c.in-Some.cut) c.loop-taken-test.true c.in-Some.ensures ∙ l.invariant

pub returns : goal.returns
returns c =
    let l = c.loop-taken in
    c.is_empty-2.ensures ∙ steps-full (256 - l.taken) (nat_eq l.taken 0) l.rest.now (omega arith) ∙ l.invariant
