use Rattle.std.proofs.Common.{◌∙◌}
use Rattle.kc_repair.proofs.Changing.{asked-changed}
use Rattle.kc_repair.proofs.trial.ask_changed.Goals as goal

pub returns-in-Ok-clause-says : goal.returns-in-Ok-clause-says
returns-in-Ok-clause-says g c =
    asked-changed _ c.args.paging c.as_slice.result.now c.args.words.now c.ask_lent.result.answer (λ image answer. g.Q.Question.says c.args.question.now image answer)
    (c.as_slice.ensures ∙ c.in-Ok.ensures) c.ask_lent.ensures.says
