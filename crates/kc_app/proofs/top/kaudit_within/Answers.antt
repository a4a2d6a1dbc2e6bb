use Rattle.std.proofs.Common.{map}
use Rattle.std.specs.String.{string_bytes}
use Rattle.kc_app.specs.Program.{usage_text}
use Rattle.kc_app.proofs.Calls.{done_at, few}
use Rattle.kc_app.proofs.CertEnds.{answer_certifies, answer_rechecks}
use Rattle.kc_app.proofs.Ends.{answer_ends, answer_prints, answer_true}
use Rattle.kc_app.proofs.Fitted.{failed_by, part_by, told_by, unopened_by}
use Rattle.kc_app.proofs.ModuleEnds.{module_answer_ends, module_answer_prints}
use Rattle.kc_app.proofs.Selftests.{answers_or_memory}
use Rattle.kc_app.proofs.top.kaudit_within.Goals as goal

pub returns-clause-told : goal.returns-clause-told
returns-clause-told g c =
    told_by c.args.most (map string_bytes c.args.words.now) (g.S.Store.files c.args.store.now) c.run_any-outcome.result _ _ c.finish.result (g.O.Sink.taken c.args.out.now) (g.O.Sink.taken c.finish.new.out) (g.E.Sink.taken c.args.err.now) (g.E.Sink.taken c.finish.new.err)
    c.run_any-outcome.ensures.output c.finish.ensures.told

pub returns-clause-stands : goal.returns-clause-stands
returns-clause-stands g c =
    answer_ends c.args.most c.know_shown.ensures.ends (map string_bytes c.args.words.now) (g.S.Store.files c.args.store.now) c.finish.result (g.O.Sink.taken c.args.out.now) (g.O.Sink.taken c.finish.new.out) (g.E.Sink.taken c.args.err.now) (g.E.Sink.taken c.finish.new.err)
    (returns-clause-told g c)

pub returns-clause-roots : goal.returns-clause-roots
returns-clause-roots g c =
    answer_prints c.args.most c.know_shown.ensures.roots (map string_bytes c.args.words.now) (g.S.Store.files c.args.store.now) c.finish.result (g.O.Sink.taken c.args.out.now) (g.O.Sink.taken c.finish.new.out) (g.E.Sink.taken c.args.err.now) (g.E.Sink.taken c.finish.new.err)
    (returns-clause-told g c)

pub returns-clause-stands_with_module : goal.returns-clause-stands_with_module
returns-clause-stands_with_module g c =
    module_answer_ends c.args.most c.know_shown.ensures.module_ends (map string_bytes c.args.words.now) (g.S.Store.files c.args.store.now) c.finish.result (g.O.Sink.taken c.args.out.now) (g.O.Sink.taken c.finish.new.out) (g.E.Sink.taken c.args.err.now) (g.E.Sink.taken c.finish.new.err)
    (returns-clause-told g c)

pub returns-clause-roots_with_module : goal.returns-clause-roots_with_module
returns-clause-roots_with_module g c =
    module_answer_prints c.args.most c.know_shown.ensures.roots (map string_bytes c.args.words.now) (g.S.Store.files c.args.store.now) c.finish.result (g.O.Sink.taken c.args.out.now) (g.O.Sink.taken c.finish.new.out) (g.E.Sink.taken c.args.err.now) (g.E.Sink.taken c.finish.new.err)
    (returns-clause-told g c)

pub returns-clause-shown : goal.returns-clause-shown
returns-clause-shown g c =
    answer_true c.args.most c.know_shown.ensures.shown (map string_bytes c.args.words.now) (g.S.Store.files c.args.store.now) c.finish.result (g.O.Sink.taken c.args.out.now) (g.O.Sink.taken c.finish.new.out) (g.E.Sink.taken c.args.err.now) (g.E.Sink.taken c.finish.new.err)
    (returns-clause-told g c)

pub returns-clause-certified : goal.returns-clause-certified
returns-clause-certified g c =
    answer_certifies c.args.most c.know_shown.ensures.checked (record { only = c.know_shown.ensures.single; order = c.know_shown.ensures.order }) (map string_bytes c.args.words.now) (g.S.Store.files c.args.store.now) c.finish.result (g.O.Sink.taken c.args.out.now) (g.O.Sink.taken c.finish.new.out) (g.E.Sink.taken c.args.err.now) (g.E.Sink.taken c.finish.new.err)
    (returns-clause-told g c)

pub returns-clause-rechecked : goal.returns-clause-rechecked
returns-clause-rechecked g c =
    answer_rechecks c.args.most c.know_shown.ensures.right c.know_shown.ensures.texts (map string_bytes c.args.words.now) (g.S.Store.files c.args.store.now) c.finish.result (g.O.Sink.taken c.args.out.now) (g.O.Sink.taken c.finish.new.out) (g.E.Sink.taken c.args.err.now) (g.E.Sink.taken c.finish.new.err)
    (returns-clause-told g c)

pub returns-clause-unopened : goal.returns-clause-unopened
returns-clause-unopened g c =
    unopened_by c.args.most (map string_bytes c.args.words.now) (g.S.Store.files c.args.store.now) c.run_any-outcome.result _ _ c.finish.result (g.O.Sink.taken c.args.out.now) (g.O.Sink.taken c.finish.new.out) (g.E.Sink.taken c.args.err.now) (g.E.Sink.taken c.finish.new.err)
    c.run_any-outcome.ensures.output c.finish.ensures.told

pub returns-clause-out_part : goal.returns-clause-out_part
returns-clause-out_part g c =
    part_by c.args.most (map string_bytes c.args.words.now) (g.S.Store.files c.args.store.now) c.run_any-outcome.result _ _ c.finish.result (g.O.Sink.faults c.args.out.now) (g.O.Sink.faults c.finish.new.out) (g.O.Sink.taken c.args.out.now) (g.O.Sink.taken c.finish.new.out)
    c.run_any-outcome.ensures.output c.finish.ensures.out_part

pub returns-clause-err_failed : goal.returns-clause-err_failed
returns-clause-err_failed g c =
    failed_by c.args.most (map string_bytes c.args.words.now) (g.S.Store.files c.args.store.now) c.run_any-outcome.result _ _ c.finish.result (g.S.Store.faults c.args.store.now) (g.S.Store.faults c.run_any-outcome.new.store) (g.O.Sink.faults c.args.out.now) (g.O.Sink.faults c.finish.new.out) (g.E.Sink.taken c.args.err.now) (g.E.Sink.taken c.finish.new.err)
    c.run_any-outcome.ensures.output c.run_any-outcome.ensures.reads.cause c.finish.ensures.err_failed

pub returns-clause-selftest_complete : goal.returns-clause-selftest_complete
returns-clause-selftest_complete g c named out err =
    answers_or_memory c.finish.result c.run_any-outcome.result (c.run_any-outcome.ensures.selftest_sure named) c.finish.ensures.store_failed c.finish.ensures.sink_failed out err

pub returns-clause-layout : goal.returns-clause-layout
returns-clause-layout g c = λ layout. few g.S.Store.faults g.S.Store.asked c.run_any-outcome.result c.args.store.now c.run_any-outcome.new.store (c.run_any-outcome.ensures.layout layout)

pub returns-clause-layout_done : goal.returns-clause-layout_done
returns-clause-layout_done g c = λ layout.
    done_at g.S.Store.faults g.S.Store.asked usage_text c.run_any-outcome.result c.args.store.now c.run_any-outcome.new.store c.finish.result (g.O.Sink.taken c.args.out.now) (g.O.Sink.taken c.finish.new.out) (g.E.Sink.taken c.args.err.now) (g.E.Sink.taken c.finish.new.err)
    (c.run_any-outcome.ensures.layout layout) c.finish.ensures.told
