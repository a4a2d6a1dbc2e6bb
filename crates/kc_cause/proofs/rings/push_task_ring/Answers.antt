use Rattle.std.proofs.Common.{◌++◌}
use Rattle.kc_which.specs.TaskRings.{task_ring}
use Rattle.kc_cause.specs.Came.{by_lines, came_by}
use Rattle.kc_cause.specs.Rings.{found_ring, led_tasks}
use Rattle.kc_cause.proofs.LedLemmas.{after_pure}
use Rattle.kc_cause.proofs.RepairLemmas.{looked_lines}
use Rattle.kc_cause.proofs.rings.push_task_ring.Goals as goal

pub returns-clause-added : goal.returns-clause-added
returns-clause-added g c =
    looked_lines (g.M.Space.image c.args.memory.now) _ c.push_came.result (λ m. task_ring m c.args.shape.now c.args.found.now) c.in_ok-ring.ring
    (λ m x. led_tasks c.args.over.now.types.now c.args.over.now.shapes.words.areas m c.args.shape.now c.args.found.now x) c.args.text.now.items _
    c.in_ok-ring.ensures.reads.stays.same_image c.in_ok-ring.ensures.exact
    (after_pure _ c.push_came.result c.args.text.now.items _ _ (found_ring c.args.over.now.types.now c.args.shape.now c.args.found.now c.in_ok-ring.ring)
    (λ m. by_lines c.args.over.now.types.now m c.args.shape.now (came_by m c.args.over.now.shapes.words.areas c.args.shape.now c.args.found.now c.in_ok-ring.ring))
    c.in_ok-push_found_ring.ensures c.push_came.ensures.added)
