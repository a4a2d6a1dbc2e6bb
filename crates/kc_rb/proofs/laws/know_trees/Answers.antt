use Rattle.std.proofs.Common.{List, ℕ, Some, Ok}
use Rattle.kc_found.specs.RbTrees.{reads_of}
use Rattle.kc_rb.proofs.Law.{ends, not_both, tree_of, walked}
use Rattle.kc_rb.proofs.Nulls.{nulls_agree}
use Rattle.kc_rb.proofs.Order.{rising}
use Rattle.kc_rb.proofs.Places.{walk_shows}
use Rattle.kc_rb.proofs.laws.know_trees.Goals as goal

pub returns-clause-trees : goal.returns-clause-trees
returns-clause-trees c = λ image shape audit start ns. (walked image shape (record { audit = audit; start = start }) ns, λ e. tree_of (λ (xs : List ℕ). xs) (Some image) shape (record { audit = audit; start = start }) (Ok ns) e)

pub returns-clause-keys : goal.returns-clause-keys
returns-clause-keys c = λ image shape start ns t. rising (reads_of image) shape start ns t

pub returns-clause-nulls : goal.returns-clause-nulls
returns-clause-nulls c = nulls_agree

pub returns-clause-places : goal.returns-clause-places
returns-clause-places c = λ image shape audit start v is. walk_shows c.know_places.ensures c.know_numbers.ensures.stand image shape audit start v is

pub returns-clause-either : goal.returns-clause-either
returns-clause-either c = λ image shape audit start. (ends image shape (record { audit = audit; start = start }), not_both image shape (record { audit = audit; start = start }))
