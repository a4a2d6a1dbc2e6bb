use Rattle.std.proofs.Common.{arith}
use Rattle.kc_view.specs.TaskLists.{task_of}
use Rattle.kc_by_lists.proofs.Telling.{adds_all, adds_none, adds_ring}
use Rattle.kc_by_lists.proofs.nodes.nodes_apart.Goals as goal

pub loop-i-preserved-then-over-gt0 : goal.loop-i-preserved-then-over-gt0
loop-i-preserved-then-over-gt0 c =
    adds_none (task_of c.args.offset) _ c.loop-i.found c.args.lists.now c.loop-i.i c.loop-i.over (omega (arith, c.loop-i-test.true, c.len-i-end.ensures)) c.if-over-gt0.true c.loop-i.invariant

pub loop-i-preserved : goal.loop-i-preserved
loop-i-preserved c =
    rw c.len-over.ensures (adds_ring (task_of c.args.offset) _ c.loop-i.found c.append.new.found c.get-nodes.result.now c.args.lists.now c.loop-i.i c.loop-i.over c.get-nodes.ensures (omega (arith, c.if-over-gt0.false)) c.in_ok-append.ensures c.loop-i.invariant)

pub returns : goal.returns
returns c = adds_all (task_of c.args.offset) _ c.loop-i.found c.args.lists.now c.loop-i.i c.loop-i.over (omega (arith, c.loop-i-test.false, c.len-i-end.ensures)) c.loop-i.invariant
