use Rattle.std.proofs.Common.{arith, length}
use Rattle.kc_layout.specs.HopList.{hop_list}
use Rattle.kc_run.proofs.Few.{hops_few, pointers_cost}
use Rattle.kc_run.proofs.checks.read_one.Goals as goal

pub returns-clause-steps : goal.returns-clause-steps
returns-clause-steps g c =
    omega (arith, c.read.ensures.steps, c.know_most.ensures, pointers_cost (length (hop_list c.args.field.now.hops)) (g.S.Space.most c.args.space.now) (hops_few c.args.field.now.hops) c.know_most.ensures)
