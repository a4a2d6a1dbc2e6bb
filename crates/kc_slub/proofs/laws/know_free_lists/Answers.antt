use Rattle.kc_slub.proofs.FreeShown.{free_places_stand}
use Rattle.kc_slub.proofs.FreeSites.{free_is_chain}
use Rattle.kc_slub.proofs.FreeWalk.{free_lists_are_walked}
use Rattle.kc_slub.proofs.laws.know_free_lists.Goals as goal

pub returns-clause-walked : goal.returns-clause-walked
returns-clause-walked c = free_lists_are_walked

pub returns-clause-chains : goal.returns-clause-chains
returns-clause-chains c = free_is_chain

pub returns-clause-places : goal.returns-clause-places
returns-clause-places c = free_places_stand c.know_numbers.ensures.stand
