use Rattle.kc_cause.specs.Came.{by_lines, came_by}
use Rattle.kc_cause.proofs.RepairLemmas.{looked_lines}
use Rattle.kc_cause.proofs.came.push_came.Goals as goal

pub returns-clause-added : goal.returns-clause-added
returns-clause-added g c =
    looked_lines (g.M.Space.image c.args.memory.now) _ c.push_member.result (λ m. came_by m c.args.over.now.shapes.words.areas c.args.shape.now c.args.found.now c.args.ring) c.in_ok-member.member
    (λ m x. by_lines c.args.over.now.types.now m c.args.shape.now x) c.args.text.now.items _
    c.in_ok-member.ensures.reads.stays.same_image c.in_ok-member.ensures.exact c.push_member.ensures.added
