use Rattle.std.proofs.Common.{ap, inl, inr, refl, ◌∙◌, List, ℕ}
use Rattle.kc_outside.specs.Texts.{with_piece}
use Rattle.kc_any_dump.specs.declared.cause.Cause.TheVariants.{Page}
use Rattle.kc_kplain.proofs.Copies.{at_store, line_failed}
use Rattle.kc_kplain.proofs.plain.end_page.Goals as goal

pub returns-in-Ok-clause-failed : goal.returns-in-Ok-clause-failed
returns-in-Ok-clause-failed g c = line_failed c.end_with_line.result c.end_with_line.ensures.status

pub returns-in-Ok-clause-store : goal.returns-in-Ok-clause-store
returns-in-Ok-clause-store g c =
    at_store _ _ c.end_with_line.result
    (λ took. inr (Page c.args.bad, refl, refl, took ∙ ap (λ (t : List ℕ). with_piece (g.E.Sink.taken c.args.err.now) t) (c.deref.ensures.value ∙ c.in-Ok.ensures)))
    c.end_with_line.ensures.whole

pub returns-in-Err-clause-failed : goal.returns-in-Err-clause-failed
returns-in-Err-clause-failed g c = line_failed c.end_with_line-in-Err.result c.end_with_line-in-Err.ensures.status

pub returns-in-Err-clause-store : goal.returns-in-Err-clause-store
returns-in-Err-clause-store g c = at_store _ _ c.end_with_line-in-Err.result (λ took. inl took) c.end_with_line-in-Err.ensures.whole
