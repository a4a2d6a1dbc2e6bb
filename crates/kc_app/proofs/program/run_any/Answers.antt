use Rattle.std.proofs.Common.{◌≡◌, ◌∙◌, List, ℕ, Some, None, map, sym, ap, subst}
use Rattle.std.specs.Option.{ForSome}
use Rattle.std.specs.String.{string_bytes}
use Rattle.kc_app.specs.Program.{certs_asks, certs_view, program}
use Rattle.kc_app.proofs.Fitted.{certs_run, certs_word, layout_none, selftest_none, shown_runs, shown_word}
use Rattle.kc_app.proofs.program.run_any.Goals as goal

pub reply-requires : goal.reply-requires
reply-requires g c slot =
    subst (λ w. ForSome w (g.S.Store.may c.args.store.now slot)) (certs_word c.args.most (map string_bytes c.args.words.now) (certs_view c.in-Some.asks) slot (sym c.in-Some.ensures.asked)) (c.requires slot)

pub run-requires : goal.run-requires
run-requires g c slot =
    subst (λ w. ForSome w (g.S.Store.may c.args.store.now slot)) (shown_word c.args.most (map string_bytes c.args.words.now) slot (sym c.in-None.ensures.asked)) (c.requires slot)

pub returns-in-Some-clause-output : goal.returns-in-Some-clause-output
returns-in-Some-clause-output g c =
    certs_run c.args.most (map string_bytes c.args.words.now) (certs_view c.in-Some.asks) (g.S.Store.files c.args.store.now) c.reply.result (g.S.Store.opened c.args.store.now) (g.S.Store.opened c.reply.new.store)
    (sym c.in-Some.ensures.asked) c.reply.ensures.output

pub returns-in-Some-clause-selftest_unasked : goal.returns-in-Some-clause-selftest_unasked
returns-in-Some-clause-selftest_unasked g c is =
    absurd (let no : Some (certs_view c.in-Some.asks) ≡ None = c.in-Some.ensures.asked ∙ selftest_none c.args.most (map string_bytes c.args.words.now) is in let none : ⊥ = cc in none)

pub returns-in-Some-clause-selftest_sure : goal.returns-in-Some-clause-selftest_sure
returns-in-Some-clause-selftest_sure g c is =
    absurd (let no : Some (certs_view c.in-Some.asks) ≡ None = c.in-Some.ensures.asked ∙ selftest_none c.args.most (map string_bytes c.args.words.now) is in let none : ⊥ = cc in none)

pub returns-in-Some-clause-layout : goal.returns-in-Some-clause-layout
returns-in-Some-clause-layout g c is =
    absurd (let no : Some (certs_view c.in-Some.asks) ≡ None = c.in-Some.ensures.asked ∙ layout_none c.args.most (map string_bytes c.args.words.now) is in let none : ⊥ = cc in none)

pub returns-in-None-clause-output : goal.returns-in-None-clause-output
returns-in-None-clause-output g c =
    shown_runs c.args.most (map string_bytes c.args.words.now) (g.S.Store.files c.args.store.now) c.run.result (g.S.Store.opened c.args.store.now) (g.S.Store.opened c.run.new.store)
    (sym c.in-None.ensures.asked) c.run.ensures.output
