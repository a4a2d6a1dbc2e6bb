use Rattle.std.proofs.Common.{◌≡◌, ◌+◌, ◌-◌, nat_eq, is_some, true, refl, ap, ◌∙◌, sym, arith}
use Rattle.kc_layout.specs.Path.{Cut, steps_from}
use Rattle.kc_layout.specs.PathViews.{cut_view}
use Rattle.kc_layout.specs.Places.{led}
use Rattle.kc_layout.specs.Views.{place_view}
use Rattle.kc_layout.proofs.PathLemmas.{steps-after, steps-ended, steps-all, is_some-next}
use Rattle.kc_layout.proofs.PlaceLemmas.{led-end, led-next, led-fault}
use Rattle.kc_layout.proofs.resolving.walk.Goals as goal

pub returns-in_default-clause-exact : goal.returns-in_default-clause-exact
returns-in_default-clause-exact c =
    let l = c.loop-taken in
    let first = nat_eq l.taken 0 in
    sym l.invariant.whole
    ∙ led-end c.args.btf.now l.taken l.taken (place_view l.place) (steps_from (256 - l.taken) first l.rest.now) refl (steps-ended (256 - l.taken) first l.rest.now l.invariant.path c.in_default.ensures)

pub returns-in-Err-clause-exact : goal.returns-in-Err-clause-exact
returns-in-Err-clause-exact c =
    let l = c.loop-taken in
    let here : Cut = cut_view c.in-Some.cut in
    let first = nat_eq l.taken 0 in
    let rest = steps_from (256 - (l.taken + 1)) (nat_eq (l.taken + 1) 0) here.rest in
    let path : is_some rest ≡ true = is_some-next l.taken first l.rest.now here c.loop-taken-test.true c.in-Some.ensures ∙ l.invariant.path in
    sym l.invariant.whole
    ∙ ap (led c.args.btf.now l.taken (place_view l.place)) (steps-after l.taken first l.rest.now here c.loop-taken-test.true c.in-Some.ensures)
    ∙ led-fault c.args.btf.now l.taken (place_view l.place) c.in-Err.rule here.step rest path c.in-Err.ensures.exact

pub loop-taken-preserved : goal.loop-taken-preserved
loop-taken-preserved c =
    let l = c.loop-taken in
    let here : Cut = cut_view c.in-Some.cut in
    let first = nat_eq l.taken 0 in
    let rest = steps_from (256 - (l.taken + 1)) (nat_eq (l.taken + 1) 0) here.rest in
    let path : is_some rest ≡ true = is_some-next l.taken first l.rest.now here c.loop-taken-test.true c.in-Some.ensures ∙ l.invariant.path in
    record {
      path = path;
      whole = sym (ap (led c.args.btf.now l.taken (place_view l.place)) (steps-after l.taken first l.rest.now here c.loop-taken-test.true c.in-Some.ensures)
          ∙ led-next c.args.btf.now l.taken (place_view l.place) (place_view c.in-Ok.next) here.step rest path c.in-Ok.ensures.exact) ∙ l.invariant.whole;
      reached = c.in-Ok.ensures.reached;
    }

pub returns-clause-exact : goal.returns-clause-exact
returns-clause-exact c =
    let l = c.loop-taken in
    let first = nat_eq l.taken 0 in
    sym l.invariant.whole
    ∙ led-end c.args.btf.now l.taken 256 (place_view l.place) (steps_from (256 - l.taken) first l.rest.now) (omega arith) (steps-all (256 - l.taken) first l.rest.now (omega arith) l.invariant.path)
