use Rattle.kc_run.proofs.Counting.{added_set}
use Rattle.kc_run.proofs.counts.count_walk.Goals as goal

pub returns-clause-added : goal.returns-clause-added
returns-clause-added c =
    rw (c.set.ensures, c.saturating_add.ensures, c.saturating_add-2.ensures)
    (added_set c.args.counts.now c.args.audit c.args.elements c.get-count.result.now c.get-count.ensures)
