use Rattle.kc_xa.proofs.ListedLemmas.Meeting.{items_are_walked}
use Rattle.kc_xa.proofs.ListedLemmas.Pointing.{pointers_few}
use Rattle.kc_xa.proofs.ListedLemmas.Single.{xarrays_once}
use Rattle.kc_xa.proofs.ListedLemmas.Whole.{only_walks, only_xarrays, walks_pass, xarrays_pass}
use Rattle.kc_xa.proofs.listed.laws.know_entries.Goals as goal

pub returns-clause-xarrays : goal.returns-clause-xarrays
returns-clause-xarrays c = only_xarrays c.know_nodes.ensures.nodes c.know_nodes.ensures.entries c.know_nodes.ensures.heads

pub returns-clause-all_xarrays : goal.returns-clause-all_xarrays
returns-clause-all_xarrays c = xarrays_pass c.know_nodes.ensures.nodes c.know_nodes.ensures.entries c.know_nodes.ensures.heads

pub returns-clause-walks : goal.returns-clause-walks
returns-clause-walks c = only_walks c.know_xarrays.ensures.walked (only_xarrays c.know_nodes.ensures.nodes c.know_nodes.ensures.entries c.know_nodes.ensures.heads)

pub returns-clause-all_walks : goal.returns-clause-all_walks
returns-clause-all_walks c = walks_pass c.know_xarrays.ensures.walked (xarrays_pass c.know_nodes.ensures.nodes c.know_nodes.ensures.entries c.know_nodes.ensures.heads)

pub returns-clause-few : goal.returns-clause-few
returns-clause-few c = pointers_few

pub returns-clause-one_xarray : goal.returns-clause-one_xarray
returns-clause-one_xarray c = xarrays_once

pub returns-clause-items : goal.returns-clause-items
returns-clause-items c = items_are_walked c.know_nodes.ensures.nodes c.know_xarrays.ensures.walked (only_xarrays c.know_nodes.ensures.nodes c.know_nodes.ensures.entries c.know_nodes.ensures.heads)
