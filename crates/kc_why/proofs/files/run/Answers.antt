use Rattle.std.proofs.Common.{map, refl, rules}
use Rattle.std.specs.String.{string_bytes}
use Rattle.kc_why.specs.Why.{finds_asked, follows, usage_text, whole_view, why_asks, why_written}
use Rattle.kc_why.proofs.RunLemmas.{came_whole}
use Rattle.kc_why.proofs.SaidLemmas.{lines_asked, said_nothing}
use Rattle.kc_why.proofs.files.run.Goals as goal

pub returns-in-Some-Shows-clause-output : goal.returns-in-Some-Shows-clause-output
returns-in-Some-Shows-clause-output g c =
    came_whole why_written (why_asks (map string_bytes c.args.words.now)) (whole_view c.in-Some-Shows.whole) (g.S.Store.files c.args.store.now) c.show.result (g.S.Store.opened c.args.store.now) (g.S.Store.opened c.show.new.store)
    (g.O.Sink.taken c.args.out.now) (g.E.Sink.taken c.args.err.now) (search rules) c.show.ensures.output c.show.ensures.unopened

pub returns-in-None-clause-lines : goal.returns-in-None-clause-lines
returns-in-None-clause-lines g c = said_nothing _ _ _ _ refl

pub returns-in-Some-Shows-clause-lines : goal.returns-in-Some-Shows-clause-lines
returns-in-Some-Shows-clause-lines g c = said_nothing _ _ _ _ refl

pub returns-in_ok-find-in-Some-Finds-clause-lines : goal.returns-in_ok-find-in-Some-Finds-clause-lines
returns-in_ok-find-in-Some-Finds-clause-lines g c =
    lines_asked usage_text why_written (why_asks (map string_bytes c.args.words.now)) (finds_asked c.in-Some-Finds.asks) (g.S.Store.files c.args.store.now) c.in-Some-Finds.asks.aim.progress (follows (map string_bytes c.args.words.now))
    (g.E.Sink.taken c.args.err.now) (g.E.Sink.taken c.find.new.err) (search rules) (search rules) (search rules)
