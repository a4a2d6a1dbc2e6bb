use Rattle.kc_found.specs.XaSites.{xa_course}
use Rattle.kc_xa.proofs.Rising.{rises}
use Rattle.kc_xa.proofs.Showing.{violation_tells}
use Rattle.kc_xa.proofs.Whole.{tree_or_violation, walk_of_xarray, xarray_of_walk, unwalked}
use Rattle.kc_xa.proofs.laws.know_xarrays.Goals as goal

pub returns-clause-walked : goal.returns-clause-walked
returns-clause-walked c = λ image shape audit start items. (walk_of_xarray image shape (record { audit = audit; start = start }) items, xarray_of_walk image shape (record { audit = audit; start = start }) items)

pub returns-clause-either : goal.returns-clause-either
returns-clause-either c = λ image shape audit start. (tree_or_violation image shape (record { audit = audit; start = start }), unwalked image shape (record { audit = audit; start = start }))

pub returns-clause-places : goal.returns-clause-places
returns-clause-places c = λ image shape audit start v e. violation_tells c.know_places.ensures image shape (record { audit = audit; start = start }) v e

pub returns-clause-rise : goal.returns-clause-rise
returns-clause-rise c = λ image shape audit start items chunk x. rises (xa_course image shape (record { audit = audit; start = start })) items chunk x
