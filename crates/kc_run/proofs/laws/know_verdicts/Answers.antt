use Rattle.kc_run.proofs.RootLaws.{first_of_roots}
use Rattle.kc_run.proofs.Showing.{root_verdicts_stand, verdicts_stand}
use Rattle.kc_run.proofs.Standing.{clean_roots_stand, clean_where_standing}
use Rattle.kc_run.proofs.laws.know_verdicts.Goals as goal

pub returns-clause-clean : goal.returns-clause-clean
returns-clause-clean c = clean_where_standing c.know_walks.ensures.walked

pub returns-clause-roots : goal.returns-clause-roots
returns-clause-roots c = clean_roots_stand c.know_walks.ensures.walked

pub returns-clause-first : goal.returns-clause-first
returns-clause-first c = first_of_roots

pub returns-clause-places : goal.returns-clause-places
returns-clause-places c = verdicts_stand (record {
  numbers = c.know_numbers.ensures.stand;
  values = c.know_values.ensures.values;
  kinds = c.know_walks.ensures.places;
})

pub returns-clause-root_places : goal.returns-clause-root_places
returns-clause-root_places c = root_verdicts_stand (record {
  numbers = c.know_numbers.ensures.stand;
  values = c.know_values.ensures.values;
  kinds = c.know_walks.ensures.places;
})
