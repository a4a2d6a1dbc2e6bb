use Rattle.std.proofs.Common.{ap, sym, ◌∙◌}
use Rattle.kc_told.specs.Spans.{span_at}
use Rattle.kc_told.proofs.span.span_at.Goals as goal

pub returns-in-Ok : goal.returns-in-Ok
returns-in-Ok c = (rw c.meaning_of.ensures at c.spanned.ensures) ∙ ap (λ w. span_at w c.args.page.now) (sym c.in-Ok.is)
