use Rattle.kc_outside.specs.declared.store.Slot.TheVariants.{Dump}
use Rattle.kc_outside.specs.Files.{content}
use Rattle.kc_sight.specs.Refs.Holding.{in_segments}
use Rattle.kc_refs.specs.Progress.{goal_of, words_in}
use Rattle.kc_why.proofs.HuntLemmas.{rest_of}
use Rattle.kc_why.proofs.SaidLemmas.{says_rest}
use Rattle.kc_why.proofs.files.put_hunted.Goals as goal

pub returns-in-Ok-clause-wrote : goal.returns-in-Ok-clause-wrote
returns-in-Ok-clause-wrote g c =
    rest_of c.args.hunt.now.same (content (g.S.Store.files c.args.store.now) Dump (g.S.Store.opened c.args.store.now Dump)) c.args.hunt.now.told (λ bytes. in_segments c.args.hunt.now.sought bytes c.args.kernel.now.core.segments)
    c.in-Ok.count c.rest.result (g.O.Sink.taken c.args.out.now) (g.O.Sink.taken c.put_found.new.out) (rw c.segments-segments.ensures at c.in-Ok.ensures.wrote) c.rest.ensures.text c.rest.ensures.err

pub returns-in-Ok-clause-says : goal.returns-in-Ok-clause-says
returns-in-Ok-clause-says g c =
    says_rest c.args.hunt.now.same (goal_of c.args.progress c.args.kernel.now.core.segments) (words_in c.args.kernel.now.core.segments) c.in-Ok.count c.rest.result (g.E.Sink.taken c.args.err.now) (g.E.Sink.taken c.put_found.new.err)
    (rw c.segments-segments.ensures at c.in-Ok.ensures.says) c.rest.ensures.err
