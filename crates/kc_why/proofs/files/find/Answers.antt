use Rattle.std.proofs.Common.{Option, refl}
use Rattle.kc_command.specs.Ends.Ends.{TookErr}
use Rattle.kc_command.specs.Ends.Written.{Written}
use Rattle.kc_why.specs.Why.{Words}
use Rattle.kc_why.proofs.HuntLemmas.{holds_made, leaves_unread}
use Rattle.kc_why.proofs.RunLemmas.{leaves_made_as, part_made_as}
use Rattle.kc_why.proofs.SaidLemmas.{lines_made, on_then, said_nothing, unless_then}
use Rattle.kc_why.proofs.files.find.Goals as goal

pub returns-in-Ok-clause-output : goal.returns-in-Ok-clause-output
returns-in-Ok-clause-output g c =
    leaves_made_as (Words c.args.asks.now.aim) (g.S.Store.files c.args.store.now) c.args.asks.now.files.dump.now c.args.asks.now.files.btf.now c.args.asks.now.files.map.now c.in-Ok.kernel _ c.find_in.result
    (g.O.Sink.taken c.args.out.now) (g.O.Sink.taken c.find_in.new.out) (g.E.Sink.taken c.args.err.now) (g.E.Sink.taken c.find_in.new.err) c.in-Ok.ensures.told c.in-Ok.ensures.content c.find_in.ensures.output

pub returns-in-Ok-clause-part : goal.returns-in-Ok-clause-part
returns-in-Ok-clause-part g c =
    part_made_as (Words c.args.asks.now.aim) (g.S.Store.files c.args.store.now) c.args.asks.now.files.dump.now c.args.asks.now.files.btf.now c.args.asks.now.files.map.now c.in-Ok.kernel _ c.find_in.result
    (g.O.Sink.taken c.args.out.now) (g.O.Sink.taken c.find_in.new.out) c.in-Ok.ensures.told c.in-Ok.ensures.content c.find_in.ensures.part

pub returns-in-Err-clause-output : goal.returns-in-Err-clause-output
returns-in-Err-clause-output g c =
    leaves_unread (Words c.args.asks.now.aim) (g.S.Store.files c.args.store.now) c.args.asks.now.files.dump.now c.args.asks.now.files.btf.now c.args.asks.now.files.map.now c.in-Err.halt (g.O.Sink.taken c.args.out.now) (g.E.Sink.taken c.args.err.now) c.in-Err.ensures.told

pub returns-in-Ok-clause-lines : goal.returns-in-Ok-clause-lines
returns-in-Ok-clause-lines g c =
    unless_then c.find_in.result
    (lines_made (Words c.args.asks.now.aim) (g.S.Store.files c.args.store.now) c.args.asks.now.files.dump.now c.args.asks.now.files.btf.now c.args.asks.now.files.map.now c.in-Ok.kernel _ c.args.asks.now.aim.progress
    (g.E.Sink.taken c.args.err.now) (g.E.Sink.taken c.find_in.new.err) c.in-Ok.ensures.told c.in-Ok.ensures.content) c.find_in.ensures.lines

pub returns-in-Ok-clause-cut : goal.returns-in-Ok-clause-cut
returns-in-Ok-clause-cut g c =
    on_then c.find_in.result
    (holds_made (Words c.args.asks.now.aim) (g.S.Store.files c.args.store.now) c.args.asks.now.files.dump.now c.args.asks.now.files.btf.now c.args.asks.now.files.map.now c.in-Ok.kernel _
    (λ (o : Option Written). TookErr o (g.E.Sink.taken c.args.err.now) (g.E.Sink.taken c.find_in.new.err)) c.in-Ok.ensures.told c.in-Ok.ensures.content) c.find_in.ensures.cut

pub returns-in-Err-clause-lines : goal.returns-in-Err-clause-lines
returns-in-Err-clause-lines g c = said_nothing _ _ _ _ refl
