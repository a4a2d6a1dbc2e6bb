use Rattle.kc_told.specs.Views.{told_view}
use Rattle.kc_cause.proofs.RepairLemmas.{place_added}
use Rattle.kc_cause.proofs.places.push_place_told.Goals as goal

pub returns-clause-added : goal.returns-clause-added
returns-clause-added g c =
    place_added (g.M.Space.image c.args.memory.now) _ c.args.over.now c.args.place.now c.in-Some.address (λ page. page.items) told_view c.in_ok-page.page c.in_ok-told.told c.args.text.now.items _ _ _
    c.in-Some.is c.in_ok-page.ensures.stays.same_image c.in_ok-push_place.ensures (rw c.page_start.ensures at c.in_ok-page.ensures.words) (rw c.deref.ensures.value at c.in_ok-push_says.ensures) c.in_ok-told.ensures.told c.in_ok-push_told.ensures
