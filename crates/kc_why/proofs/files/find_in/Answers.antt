use Rattle.std.proofs.Common.{ap, refl}
use Rattle.kc_outside.specs.declared.store.Slot.TheVariants.{Dump}
use Rattle.kc_outside.specs.Files.{content}
use Rattle.kc_command.specs.Kernels.{kernel_view}
use Rattle.kc_why.proofs.HuntLemmas.{hunt_cut_as, hunted_as}
use Rattle.kc_why.proofs.SaidLemmas.{hunted_lines, hunted_part, said_nothing}
use Rattle.kc_why.proofs.files.find_in.Goals as goal

pub returns-in-Ok-clause-output : goal.returns-in-Ok-clause-output
returns-in-Ok-clause-output g c =
    hunted_as (content (g.S.Store.files c.args.store.now) Dump (g.S.Store.opened c.args.store.now Dump)) (content (g.S.Store.files c.prepare.new.store) Dump (g.S.Store.opened c.prepare.new.store Dump)) c.args.aim (kernel_view c.args.kernel.now)
    c.in-Ok.hunt c.put_hunted.result (g.O.Sink.taken c.args.out.now) (g.O.Sink.taken c.put_hunted.new.out) (g.E.Sink.taken c.args.err.now) (g.E.Sink.taken c.put_hunted.new.err) c.in-Ok.ensures.ready c.put_hunted.ensures.says c.put_hunted.ensures.wrote

pub returns-in-Ok-clause-part : goal.returns-in-Ok-clause-part
returns-in-Ok-clause-part g c =
    hunt_cut_as (content (g.S.Store.files c.args.store.now) Dump (g.S.Store.opened c.args.store.now Dump)) (content (g.S.Store.files c.prepare.new.store) Dump (g.S.Store.opened c.prepare.new.store Dump)) c.args.aim (kernel_view c.args.kernel.now)
    c.in-Ok.hunt c.put_hunted.result (g.O.Sink.taken c.args.out.now) (g.O.Sink.taken c.put_hunted.new.out) c.in-Ok.ensures.ready c.put_hunted.ensures.part

pub returns-in-Ok-clause-lines : goal.returns-in-Ok-clause-lines
returns-in-Ok-clause-lines g c =
    hunted_lines (content (g.S.Store.files c.args.store.now) Dump (g.S.Store.opened c.args.store.now Dump)) (content (g.S.Store.files c.prepare.new.store) Dump (g.S.Store.opened c.prepare.new.store Dump)) c.args.aim (kernel_view c.args.kernel.now)
    c.in-Ok.hunt c.put_hunted.result (g.E.Sink.taken c.args.err.now) (g.E.Sink.taken c.put_hunted.new.err) c.in-Ok.ensures.ready c.put_hunted.ensures.says (λ apart. ap g.E.Sink.taken (c.put_hunted.ensures.unsaid apart))

pub returns-in-Ok-clause-cut : goal.returns-in-Ok-clause-cut
returns-in-Ok-clause-cut g c =
    hunted_part (content (g.S.Store.files c.args.store.now) Dump (g.S.Store.opened c.args.store.now Dump)) (content (g.S.Store.files c.prepare.new.store) Dump (g.S.Store.opened c.prepare.new.store Dump)) c.args.aim (kernel_view c.args.kernel.now)
    c.in-Ok.hunt c.put_hunted.result (g.E.Sink.taken c.args.err.now) (g.E.Sink.taken c.put_hunted.new.err) c.in-Ok.ensures.ready c.put_hunted.ensures.says

pub returns-in-Err-clause-lines : goal.returns-in-Err-clause-lines
returns-in-Err-clause-lines g c = said_nothing _ _ _ _ refl
