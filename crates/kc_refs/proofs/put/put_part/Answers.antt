use Rattle.kc_outside.specs.declared.store.Slot.TheVariants.{Dump}
use Rattle.kc_outside.specs.Files.{content}
use Rattle.kc_sight.specs.Refs.Holding.{in_segment}
use Rattle.kc_refs.proofs.PutLemmas.{on_err_of, told_whole}
use Rattle.kc_refs.proofs.put.put_part.Goals as goal

pub returns-in_err-put_progress-clause-part : goal.returns-in_err-put_progress-clause-part
returns-in_err-put_progress-clause-part g c =
    on_err_of c.from_residual-in_err-put_progress.result
    (told_whole (content (g.S.Store.files c.args.store.now) Dump (g.S.Store.opened c.args.store.now Dump)) c.args.search.now.keys.now (λ bytes. in_segment c.args.search.now.sought.now bytes c.args.segment.now)
    (g.O.Sink.taken c.args.out.now) (g.O.Sink.taken c.put_found.new.out) c.in_ok-more.more c.in_ok-more.ensures.wrote)
