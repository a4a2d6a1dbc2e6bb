use Rattle.kc_list.proofs.ListedLemmas.Tested.{chains_tested, rings_tested}
use Rattle.kc_list.proofs.listed_laws.know_listed_rings.Goals as goal

pub returns-clause-rings : goal.returns-clause-rings
returns-clause-rings c = rings_tested

pub returns-clause-chains : goal.returns-clause-chains
returns-clause-chains c = chains_tested
