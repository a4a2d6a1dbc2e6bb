use Rattle.kc_rb.proofs.ListedLemmas.Planting.{only_trees, trees_pass}
use Rattle.kc_rb.proofs.ListedLemmas.Single.{trees_once}
use Rattle.kc_rb.proofs.listed.laws.know_listed_trees.Goals as goal

pub returns-clause-trees : goal.returns-clause-trees
returns-clause-trees c = only_trees c.know_nodes.ensures

pub returns-clause-all_trees : goal.returns-clause-all_trees
returns-clause-all_trees c = trees_pass c.know_nodes.ensures

pub returns-clause-one_tree : goal.returns-clause-one_tree
returns-clause-one_tree c = trees_once
