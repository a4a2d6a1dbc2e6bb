use Rattle.std.proofs.Common.{refl, ◌∙◌}
use Rattle.kc_sight.specs.declared.sight.Sight.{Sight}
use Rattle.kc_told.specs.Views.{shapes_view, told_view}
use Rattle.kc_told.proofs.ToldLemmas.{told_seen}
use Rattle.kc_told.proofs.told.read_sighted.Goals as goal

pub returns-clause-told : goal.returns-clause-told
returns-clause-told g c =
    told_seen (g.S.Space.image c.args.space.now) _ (shapes_view c.args.shapes.now) c.args.address (λ (s : Sight). s.word) (λ (s : Sight). s.page.items) c.in_ok-sight.sight told_view c.in_ok-told.told _ _
    c.in_ok-sight.ensures.word c.in_ok-sight.ensures.page (c.in_ok-near.ensures.stays.same_image ∙ c.in_ok-sight.ensures.stays.same_image)
    (rw c.deref-2.ensures.value at c.in_ok-told.ensures.told) refl
