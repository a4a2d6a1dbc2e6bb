use Rattle.std.proofs.Common.{map, ap, refl, nat_eq}
use Rattle.std.specs.String.{string_bytes}
use Rattle.kc_command.specs.Ends.Status.{is_silent, is_sink_quiet, number}
use Rattle.kc_kplain.proofs.Ends.{audit_ends, carried, completed, nothing_ends, part_ends, quiet_err, quiet_store, sink_ends, stops_ends, under_false}
use Rattle.kc_kplain.proofs.audit.audit.Goals as goal

pub returns-clause-ends : goal.returns-clause-ends
returns-clause-ends g c =
    let k = c.kaudit_within-status.ensures in
    let end = c.end_with_cause.ensures in
    let own = c.kaudit_within-status.result in
    let dump = c.kaudit_within-status.new.store in
    audit_ends (map string_bytes c.args.words.now) (g.D.Store.files c.args.dump.now) (g.D.TellsCause.file dump) (g.D.TellsCause.held dump) (g.D.TellsCause.told dump) (g.D.Store.opened c.args.dump.now) (g.D.Store.opened c.kaudit_within-status.new.store) own c.end_with_cause.result
    (g.O.Sink.taken c.args.out.now) (g.O.Sink.taken c.kaudit_within-status.new.out) (g.E.Sink.taken c.args.err.now) (g.E.Sink.taken c.kaudit_within-status.new.err) (g.E.Sink.taken c.end_with_cause.new.err)
    (record {
      told = k.told;
      stands = k.stands;
      stands_with_module = k.stands_with_module;
      roots = k.roots;
      roots_with_module = k.roots_with_module;
      shown = k.shown;
      certified = k.certified;
      rechecked = k.rechecked;
      unopened = k.unopened;
      store_text = k.store_text;
      memory_text = k.memory_text;
      silent = k.silent_text;
    })
    end.same (under_false (nat_eq (number own) 3) (λ same. ap g.E.Sink.taken same) end.untouched) end.is_true end.told end.unread

pub returns-clause-complete : goal.returns-clause-complete
returns-clause-complete g c =
    let own = c.kaudit_within-status.result in
    completed own c.end_with_cause.result (g.E.Sink.faults c.args.err.now) (g.E.Sink.faults c.kaudit_within-status.new.err) (g.E.Sink.faults c.end_with_cause.new.err)
    c.end_with_cause.ensures.same (under_false (nat_eq (number own) 3) (λ same. ap g.E.Sink.faults same) c.end_with_cause.ensures.untouched)
    c.kaudit_within-status.ensures.store_failed c.kaudit_within-status.ensures.complete

pub returns-clause-store_failed : goal.returns-clause-store_failed
returns-clause-store_failed g c =
    carried _ (λ s. nat_eq (number s) 3) c.kaudit_within-status.result c.end_with_cause.result refl c.end_with_cause.ensures.same c.kaudit_within-status.ensures.store_failed

pub returns-clause-sink_failed : goal.returns-clause-sink_failed
returns-clause-sink_failed g c =
    let own = c.kaudit_within-status.result in
    sink_ends _ own c.end_with_cause.result (g.E.Sink.faults c.args.err.now) (g.E.Sink.faults c.kaudit_within-status.new.err) (g.E.Sink.faults c.end_with_cause.new.err)
    c.end_with_cause.ensures.same (under_false (nat_eq (number own) 3) (λ same. ap g.E.Sink.faults same) c.end_with_cause.ensures.untouched)
    c.kaudit_within-status.ensures.sink_failed c.kaudit_within-status.ensures.quiet_err c.end_with_cause.ensures.sink_failed

pub returns-clause-silent : goal.returns-clause-silent
returns-clause-silent g c = carried _ is_silent c.kaudit_within-status.result c.end_with_cause.result refl c.end_with_cause.ensures.same c.kaudit_within-status.ensures.silent

pub returns-clause-quiet_store : goal.returns-clause-quiet_store
returns-clause-quiet_store g c =
    quiet_store _ c.kaudit_within-status.result c.end_with_cause.result c.end_with_cause.ensures.same c.end_with_cause.ensures.unread c.kaudit_within-status.ensures.quiet_store

pub returns-clause-quiet_out : goal.returns-clause-quiet_out
returns-clause-quiet_out g c = carried _ is_sink_quiet c.kaudit_within-status.result c.end_with_cause.result refl c.end_with_cause.ensures.same c.kaudit_within-status.ensures.quiet_out

pub returns-clause-quiet_err : goal.returns-clause-quiet_err
returns-clause-quiet_err g c =
    quiet_err _ c.kaudit_within-status.result c.end_with_cause.result _ _ _ c.end_with_cause.ensures.same c.kaudit_within-status.ensures.quiet_err c.end_with_cause.ensures.quiet

pub returns-clause-out_part : goal.returns-clause-out_part
returns-clause-out_part g c =
    part_ends _ c.kaudit_within-status.result c.end_with_cause.result (g.O.Sink.faults c.args.out.now) (g.O.Sink.faults c.kaudit_within-status.new.out)
    c.end_with_cause.ensures.same c.kaudit_within-status.ensures.quiet_out c.kaudit_within-status.ensures.out_part

pub returns-clause-out_nothing : goal.returns-clause-out_nothing
returns-clause-out_nothing g c =
    nothing_ends _ _ _ c.kaudit_within-status.result c.end_with_cause.result c.end_with_cause.ensures.same c.kaudit_within-status.ensures.silent_text c.kaudit_within-status.ensures.out_nothing

pub returns-clause-err_last : goal.returns-clause-err_last
returns-clause-err_last g c =
    stops_ends g.E.Sink.taken g.E.Sink.faults g.E.Sink.asked c.args.err.now c.kaudit_within-status.new.err c.end_with_cause.new.err c.kaudit_within-status.result
    c.end_with_cause.ensures.untouched c.kaudit_within-status.ensures.quiet_err c.kaudit_within-status.ensures.err_last c.end_with_cause.ensures.last
