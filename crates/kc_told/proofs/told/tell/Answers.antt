use Rattle.std.proofs.lemmas.Result.{err_from_is_err_and}
use Rattle.kc_told.specs.Objects.{told_by}
use Rattle.kc_told.specs.Views.{shapes_view, told_view}
use Rattle.kc_told.proofs.ToldLemmas.{told_failed}
use Rattle.kc_told.proofs.told.tell.Goals as goal

pub returns-in_err-holders-clause-told : goal.returns-in_err-holders-clause-told
returns-in_err-holders-clause-told g c =
    let gave = err_from_is_err_and c.from_residual-in_err-holders.result c.from_residual-in_err-holders.ensures.1 in
    told_failed told_view (λ image. told_by image (shapes_view c.args.shapes.now) c.args.address c.args.around.now.word.now c.args.around.now.page.now) (g.S.Space.image c.args.space.now)
    c.from_residual-in_err-holders.result gave.0 gave.1

pub returns-in_err-named-clause-told : goal.returns-in_err-named-clause-told
returns-in_err-named-clause-told g c =
    let gave = err_from_is_err_and c.from_residual-in_err-named.result c.from_residual-in_err-named.ensures.1 in
    told_failed told_view (λ image. told_by image (shapes_view c.args.shapes.now) c.args.address c.args.around.now.word.now c.args.around.now.page.now) (g.S.Space.image c.args.space.now)
    c.from_residual-in_err-named.result gave.0 gave.1
