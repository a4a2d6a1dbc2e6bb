use Rattle.kc_pid.proofs.PidLaw.{finite_of, none_of}
use Rattle.kc_pid.proofs.walk.pids_walk.Goals as goal

pub returns-clause-finite : goal.returns-clause-finite
returns-clause-finite g c =
    finite_of (record { chains = c.know_lists.ensures.hash_chains; arrays = c.know_xarrays.ensures.walked }) (g.S.Space.image c.args.space.now) c.args.shape.now (record { audit = c.args.audit; start = c.args.start }) c.walk_table.result c.walk_table.ensures.exact

pub returns-clause-none : goal.returns-clause-none
returns-clause-none g c =
    none_of (record { chains = c.know_lists.ensures.hash_chains; arrays = c.know_xarrays.ensures.walked }) (g.S.Space.image c.args.space.now) c.args.shape.now (record { audit = c.args.audit; start = c.args.start }) c.walk_table.result c.walk_table.ensures.exact
