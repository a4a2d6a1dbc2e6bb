use Rattle.std.proofs.Common.{List, ℕ, Some}
use Rattle.kc_list.proofs.ChainsShown.{hash_walk_shows, ring_walk_shows}
use Rattle.kc_list.proofs.HashWalk.{hash_finite, hash_walked}
use Rattle.kc_list.proofs.RingWalk.{finite, walked}
use Rattle.kc_list.proofs.laws.know_lists.Goals as goal

pub returns-clause-rings : goal.returns-clause-rings
returns-clause-rings c = λ image shape audit head ns. (walked image shape audit head ns, λ e. finite (λ (xs : List ℕ). xs) (Some image) shape audit head ns e)

pub returns-clause-hash_chains : goal.returns-clause-hash_chains
returns-clause-hash_chains c = λ image shape audit head ns. (hash_walked image shape audit head ns, λ e. hash_finite (λ (xs : List ℕ). xs) (Some image) shape audit head ns e)

pub returns-clause-ring_places : goal.returns-clause-ring_places
returns-clause-ring_places c = ring_walk_shows c.know_places.ensures

pub returns-clause-hash_places : goal.returns-clause-hash_places
returns-clause-hash_places c = hash_walk_shows c.know_places.ensures
