use Rattle.kc_by_lists.proofs.Telling.{behind_first}
use Rattle.kc_by_lists.proofs.nodes.task_nodes.Goals as goal

pub returns : goal.returns
returns c = behind_first c.args.shape.now c.args.lists.now c.nodes_apart.result c.nodes_apart.ensures
