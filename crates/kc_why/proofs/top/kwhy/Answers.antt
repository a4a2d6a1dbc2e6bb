use Rattle.std.proofs.Common.{◌≡◌, map, ◌-◌, ◌^◌, ◌<◌, ℕ, Option, Result, refl, rules, sym, subst, ◌∙◌}
use Rattle.std.specs.String.{string_bytes}
use Rattle.kc_command.specs.declared.ends.answer.Answer.{Answer}
use Rattle.kc_command.specs.declared.halt.Halt.{Halt}
use Rattle.kc_why.specs.declared.files.FailedSink.TheVariants.{Shown, Progress}
use Rattle.kc_why.specs.Why.{why_asks, why_written, usage_text, written_of}
use Rattle.kc_command.specs.declared.ends.status.Status.TheVariants.{OutOfMemory, StoreFailed}
use Rattle.kc_why.proofs.RestLemmas.{at_sink, at_status, comes_part_at, front_of, on_silent, rest_fails, rest_part, rest_told, usage_alone}
use Rattle.kc_why.proofs.SaidLemmas.{after_lines, cut_fails, if_progress, if_shown, said_nothing}
use Rattle.kc_why.proofs.TakenLemmas.{answer_true}
use Rattle.kc_why.proofs.top.kwhy.Goals as goal

pub returns-in-Ok-clause-told : goal.returns-in-Ok-clause-told
returns-in-Ok-clause-told g c =
    rest_told usage_text why_written (why_asks (map string_bytes c.args.words.now)) (g.S.Store.files c.args.store.now) c.in-Ok.outcome _ _ c.finish.result (g.O.Sink.taken c.args.out.now) (g.O.Sink.taken c.run.new.out) (g.O.Sink.taken c.finish.new.out)
    (g.E.Sink.taken c.args.err.now) (g.E.Sink.taken c.run.new.err) (g.E.Sink.taken c.finish.new.err) c.in-Ok.ensures.output c.finish.ensures.told

pub returns-in-Ok-clause-shown : goal.returns-in-Ok-clause-shown
returns-in-Ok-clause-shown g c =
    answer_true c.know_why.ensures.stand (map string_bytes c.args.words.now) (g.S.Store.files c.args.store.now) c.finish.result (g.O.Sink.taken c.args.out.now) (g.O.Sink.taken c.finish.new.out) (g.E.Sink.taken c.args.err.now) (g.E.Sink.taken c.finish.new.err)
    (returns-in-Ok-clause-told g c)

pub returns-in-Ok-clause-out_part : goal.returns-in-Ok-clause-out_part
returns-in-Ok-clause-out_part g c =
    rest_part usage_text why_written (why_asks (map string_bytes c.args.words.now)) (g.S.Store.files c.args.store.now) c.in-Ok.outcome _ _ c.finish.result (g.O.Sink.faults c.args.out.now) (g.O.Sink.faults c.run.new.out) (g.O.Sink.faults c.finish.new.out)
    (g.O.Sink.taken c.args.out.now) (g.O.Sink.taken c.run.new.out) (g.O.Sink.taken c.finish.new.out) (g.E.Sink.taken c.args.err.now) (g.E.Sink.taken c.run.new.err) c.in-Ok.ensures.output c.in-Ok.ensures.out_quiet c.finish.ensures.out_part

pub returns-in-Ok-clause-out_front : goal.returns-in-Ok-clause-out_front
returns-in-Ok-clause-out_front g c =
    at_sink _ _ c.finish.result
    (λ nothing few same. comes_part_at usage_text why_written (why_asks (map string_bytes c.args.words.now)) (g.S.Store.files c.args.store.now) c.in-Ok.outcome _ _ (g.O.Sink.taken c.args.out.now) (g.O.Sink.taken c.run.new.out) (g.O.Sink.taken c.finish.new.out) (g.E.Sink.taken c.args.err.now) (g.E.Sink.taken c.run.new.err)
    c.in-Ok.ensures.output (nothing (subst (λ (n : ℕ). n < 2 ^ 64 - 1) (sym c.in-Ok.ensures.out_quiet) few) (same ∙ sym c.in-Ok.ensures.out_quiet)))
    c.finish.ensures.out_nothing

pub returns-in-Ok-clause-store_text : goal.returns-in-Ok-clause-store_text
returns-in-Ok-clause-store_text g c = at_status _ _ c.finish.result StoreFailed (λ took. after_lines c.in-Ok.ensures.lines took) c.finish.ensures.store_text

pub returns-in-Ok-clause-memory_text : goal.returns-in-Ok-clause-memory_text
returns-in-Ok-clause-memory_text g c = at_status _ _ c.finish.result OutOfMemory (λ took. after_lines c.in-Ok.ensures.lines took) c.finish.ensures.memory_text

pub returns-in-Ok-clause-err_part : goal.returns-in-Ok-clause-err_part
returns-in-Ok-clause-err_part g c =
    at_sink _ _ c.finish.result (λ took rose. after_lines c.in-Ok.ensures.lines (took (subst (λ (n : ℕ). n < g.O.Sink.faults c.finish.new.out) (sym c.in-Ok.ensures.out_quiet) rose))) c.finish.ensures.err_part

pub returns-in-Ok-clause-err_whole : goal.returns-in-Ok-clause-err_whole
returns-in-Ok-clause-err_whole g c =
    at_sink _ _ c.finish.result
    (λ took few same. after_lines c.in-Ok.ensures.lines (took (subst (λ (n : ℕ). n < 2 ^ 64 - 1) (sym c.in-Ok.ensures.err_quiet) few) (same ∙ sym c.in-Ok.ensures.err_quiet)))
    c.finish.ensures.err_whole

pub returns-in-Ok-clause-err_failed : goal.returns-in-Ok-clause-err_failed
returns-in-Ok-clause-err_failed g c =
    rest_fails usage_text why_written (why_asks (map string_bytes c.args.words.now)) (g.S.Store.files c.args.store.now) c.in-Ok.outcome _ _ c.finish.result (g.S.Store.faults c.args.store.now) (g.S.Store.faults c.run.new.store)
    (g.O.Sink.faults c.args.out.now) (g.O.Sink.faults c.run.new.out) (g.O.Sink.faults c.finish.new.out) (g.O.Sink.taken c.args.out.now) (g.O.Sink.taken c.run.new.out) (g.E.Sink.taken c.args.err.now) (g.E.Sink.taken c.run.new.err) (g.E.Sink.taken c.finish.new.err) _
    c.in-Ok.ensures.output c.in-Ok.ensures.cause c.in-Ok.ensures.out_quiet (λ failed. after_lines c.in-Ok.ensures.lines failed) c.finish.ensures.err_failed

pub returns-in-Err-Shown-clause-err_part : goal.returns-in-Err-Shown-clause-err_part
returns-in-Err-Shown-clause-err_part g c =
    let shown : c.in-Err-Shown.field-0 ≡ Shown = search rules in
    λ rose. after_lines (if_shown (Option (Result Answer Halt)) _ c.in-Err-Shown.field-0 shown c.in-Err-Shown.ensures.lines) c.tell_failure.ensures.part

pub returns-in-Err-Shown-clause-err_whole : goal.returns-in-Err-Shown-clause-err_whole
returns-in-Err-Shown-clause-err_whole g c =
    let shown : c.in-Err-Shown.field-0 ≡ Shown = search rules in
    let quiet = if_shown (Option (Result Answer Halt)) _ c.in-Err-Shown.field-0 shown c.in-Err-Shown.ensures.err_quiet in
    λ few same. after_lines (if_shown (Option (Result Answer Halt)) _ c.in-Err-Shown.field-0 shown c.in-Err-Shown.ensures.lines)
    (c.tell_failure.ensures.whole (subst (λ (n : ℕ). n < 2 ^ 64 - 1) (sym quiet) few) (same ∙ sym quiet))

pub returns-in-Err-Progress-clause-err_failed : goal.returns-in-Err-Progress-clause-err_failed
returns-in-Err-Progress-clause-err_failed g c =
    let cut : c.in-Err-Progress.field-0 ≡ Progress = search rules in
    λ few same. after_lines (said_nothing _ _ _ _ refl)
    (cut_fails (written_of (map string_bytes c.args.words.now)) (g.S.Store.files c.args.store.now) _ (g.E.Sink.taken c.args.err.now) (g.E.Sink.taken c.run.new.err)
    (if_progress (Option (Result Answer Halt)) _ c.in-Err-Progress.field-0 cut c.in-Err-Progress.ensures.cut))

pub returns-in-Ok-clause-silent_part : goal.returns-in-Ok-clause-silent_part
returns-in-Ok-clause-silent_part g c =
    on_silent _ _ c.finish.result
    (λ same. comes_part_at usage_text why_written (why_asks (map string_bytes c.args.words.now)) (g.S.Store.files c.args.store.now) c.in-Ok.outcome _ _ (g.O.Sink.taken c.args.out.now) (g.O.Sink.taken c.run.new.out) (g.O.Sink.taken c.finish.new.out) (g.E.Sink.taken c.args.err.now) (g.E.Sink.taken c.run.new.err)
    c.in-Ok.ensures.output same)
    c.finish.ensures.silent_text

pub returns-in-Ok-clause-usage_text : goal.returns-in-Ok-clause-usage_text
returns-in-Ok-clause-usage_text g c =
    usage_alone why_written (why_asks (map string_bytes c.args.words.now)) (g.S.Store.files c.args.store.now) c.in-Ok.outcome _ _ c.finish.result usage_text (g.O.Sink.taken c.args.out.now) (g.O.Sink.taken c.run.new.out)
    (g.E.Sink.taken c.args.err.now) (g.E.Sink.taken c.run.new.err) (g.E.Sink.taken c.finish.new.err) c.in-Ok.ensures.output c.finish.ensures.usage c.finish.ensures.usage_text

pub returns-in-Err-Progress-clause-out_front : goal.returns-in-Err-Progress-clause-out_front
returns-in-Err-Progress-clause-out_front g c =
    λ few same. front_of (written_of (map string_bytes c.args.words.now)) (g.S.Store.files c.args.store.now) (g.O.Sink.taken c.args.out.now) (g.O.Sink.taken c.run.new.out) c.in-Err-Progress.ensures.part
