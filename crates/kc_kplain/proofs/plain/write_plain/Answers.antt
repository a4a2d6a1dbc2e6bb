use Rattle.std.proofs.Common.{◌≡◌, ◌∙◌, ℕ, List, Option, IfSome, refl, sym, subst}
use Rattle.kc_outside.specs.Counts.{Rose}
use Rattle.kc_outside.specs.Texts.{with_piece}
use Rattle.kc_command.specs.declared.ends.status.Status.TheVariants.{Done, StoreFailed}
use Rattle.kc_command.specs.Ends.Status.{At}
use Rattle.kc_any_dump.specs.Causes.{is_unread}
use Rattle.kc_kplain.specs.Outcomes.{is_unopened}
use Rattle.kc_kplain.proofs.Copies.{always, copy_rose, copy_silent, opened_ends, shown_same, unopened_ends, unread_done}
use Rattle.kc_kplain.proofs.plain.write_plain.Goals as goal

pub returns-in-Ok-clause-ends : goal.returns-in-Ok-clause-ends
returns-in-Ok-clause-ends g c =
    let end = c.write_opened.ensures in
    let dump = c.write_opened.new.dump in
    opened_ends (g.D.Store.files c.args.dump.now) c.args.name.now (g.D.TellsCause.file dump) (g.D.TellsCause.held dump) (g.D.TellsCause.told dump) c.write_opened.result (g.O.Sink.taken c.args.out.now) (g.O.Sink.taken c.write_opened.new.out) (g.E.Sink.taken c.args.err.now) (g.E.Sink.taken c.write_opened.new.err)
    end.status
    (subst (λ (file : Option (List ℕ)). At c.write_opened.result Done (IfSome file (λ bytes. g.O.Sink.taken c.write_opened.new.out ≡ with_piece (g.O.Sink.taken c.args.out.now) bytes))) c.in-Ok.ensures.content end.whole)
    (sym c.in-Ok.ensures.content ∙ shown_same _ _ _ _ _ end.files end.opened (g.met.D.TellsCause.shown dump (rw end.opened c.in-Ok.ensures.opened)))
    end.said (g.met.D.TellsCause.is_true dump) (g.met.D.TellsCause.means dump) end.store

pub returns-in-Ok-clause-silent : goal.returns-in-Ok-clause-silent
returns-in-Ok-clause-silent g c = copy_silent _ c.write_opened.result c.write_opened.ensures.status

pub returns-in-Ok-clause-store_failed : goal.returns-in-Ok-clause-store_failed
returns-in-Ok-clause-store_failed g c =
    copy_rose _ c.write_opened.result c.write_opened.ensures.status
    (subst (λ (n : ℕ). At c.write_opened.result StoreFailed (Rose n (g.D.Store.faults c.write_opened.new.dump))) c.in-Ok.ensures.quiet c.write_opened.ensures.store_failed)

pub returns-in-Err-clause-ends : goal.returns-in-Err-clause-ends
returns-in-Err-clause-ends g c =
    let end = c.end_opening.ensures in
    let dump = c.open_file.new.self in
    unopened_ends (g.D.Store.files c.args.dump.now) c.args.name.now (g.D.TellsCause.file dump) (g.D.TellsCause.held dump) (g.D.TellsCause.told dump) c.end_opening.result (g.O.Sink.taken c.args.out.now) (g.E.Sink.taken c.args.err.now) (g.E.Sink.taken c.end_opening.new.err)
    end.status (g.met.D.TellsCause.is_true dump) (g.met.D.TellsCause.means dump) end.refused end.store end.memory

pub returns-in-Err-clause-silent : goal.returns-in-Err-clause-silent
returns-in-Err-clause-silent g c = always _ (is_unopened c.end_opening.result) refl

pub returns-in-Err-clause-store_failed : goal.returns-in-Err-clause-store_failed
returns-in-Err-clause-store_failed g c = always _ (is_unread c.end_opening.result) c.in-Err.ensures.cause

pub returns-in-Err-clause-quiet_store : goal.returns-in-Err-clause-quiet_store
returns-in-Err-clause-quiet_store g c = unread_done _ c.end_opening.result c.end_opening.ensures.status
