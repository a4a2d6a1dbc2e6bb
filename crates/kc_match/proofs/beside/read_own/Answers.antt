use Rattle.std.proofs.Common.{sym}
use Rattle.kc_outside.specs.declared.store.Slot.TheVariants.{Dump}
use Rattle.kc_outside.specs.Files.{content}
use Rattle.kc_command.specs.Kernels.{noted_view}
use Rattle.kc_match.proofs.OwnLemmas.{counted, not_refused, own_found}
use Rattle.kc_match.proofs.beside.read_own.Goals as goal

pub returns-in-Ok : goal.returns-in-Ok
returns-in-Ok g c =
    let counts = counted c.ask_types.result c.own_of.result (g.S.Store.faults c.args.store.now) (g.S.Store.faults c.ask_types.new.store) c.ask_types.ensures.cause c.own_of.ensures in
    record {
      own = own_found (content (g.S.Store.files c.args.store.now) Dump (g.S.Store.opened c.args.store.now Dump)) (noted_view c.args.noted.now) c.args.note.now c.in-Ok.places c.ask_types.result c.own_of.result
          (sym c.in-Ok.ensures) c.ask_types.ensures.types c.own_of.ensures;
      not_refused = not_refused c.ask_types.result c.own_of.result c.own_of.ensures;
      files = c.ask_types.ensures.files;
      later = counts.later;
      quiet = counts.quiet;
      cause = counts.cause;
    }
