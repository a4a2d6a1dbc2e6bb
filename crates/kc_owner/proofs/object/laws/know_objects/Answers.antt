use Rattle.kc_owner.proofs.ObjectLemmas.HoldLaws.{objects_hold}
use Rattle.kc_owner.proofs.ObjectLemmas.ObjectLaws.{objects_stand}
use Rattle.kc_owner.proofs.object.laws.know_objects.Goals as goal

pub returns-clause-stand : goal.returns-clause-stand
returns-clause-stand c = objects_stand (record {
  places = c.know_places.ensures;
  values = c.know_values.ensures.values;
  rings = c.know_lists.ensures.ring_places;
  frees = c.know_free_lists.ensures.places;
})

pub returns-clause-hold : goal.returns-clause-hold
returns-clause-hold c = objects_hold c.know_free_lists.ensures.walked
