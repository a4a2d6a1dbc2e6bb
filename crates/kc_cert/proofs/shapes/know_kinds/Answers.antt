use Rattle.kc_cert.proofs.Making.{shaped}
use Rattle.kc_cert.proofs.OneShape.{shapes_once}
use Rattle.kc_cert.proofs.shapes.know_kinds.Goals as goal

pub returns-clause-shaped : goal.returns-clause-shaped
returns-clause-shaped c = shaped c.know_listed_rings.ensures.rings c.know_listed_rings.ensures.chains c.know_listed_trees.ensures.all_trees c.know_lists.ensures.rings c.know_lists.ensures.hash_chains c.know_trees.ensures.trees c.know_entries.ensures.all_walks c.know_given_lists.ensures.caches c.know_given_lists.ensures.tasks c.know_pid_lists.ensures.pids

pub returns-clause-one : goal.returns-clause-one
returns-clause-one c = shapes_once c.know_walked.ensures.walked c.know_listed_trees.ensures.one_tree c.know_entries.ensures.one_xarray c.know_given_lists.ensures.tested_caches c.know_given_lists.ensures.tested_tasks c.know_pid_lists.ensures.one
