use Rattle.std.proofs.Common.{ap, rules, ◌∙◌}
use Rattle.kc_mem.specs.Paged.{with_paging}
use Rattle.kc_plan.specs.Views.{plan_seen}
use Rattle.kc_cause.specs.Explained.{found_named, found_number, repairs_found, root_line, shown_lines}
use Rattle.kc_cause.specs.Judged.{over_plan}
use Rattle.kc_cause.proofs.RepairLemmas.{broken_added}
use Rattle.kc_cause.proofs.explained.push_broken.Goals as goal

pub returns-in-Ok-clause-added : goal.returns-in-Ok-clause-added
returns-in-Ok-clause-added g c =
    let o = c.args.over.now in
    let v = c.args.found.now in
    broken_added (with_paging c.args.over.now.paging (g.F.Frames.image c.args.memory)) _ _
    c.push_repairs.result.answer c.args.text.now.items c.push_named_root.new.text.items c.push_shown_over-memory.new.text.items c.push_found_number.new.text.items c.push_repairs.new.text.items (root_line (plan_seen o.plan.now) c.args.root) (found_named o.types.now (plan_seen o.plan.now) v) (found_number (plan_seen o.plan.now) v)
    (λ m. shown_lines (over_plan o m) v) (λ m. repairs_found (over_plan o m) c.args.root v)
    (ap (with_paging c.args.over.now.paging) c.push_shown_over-memory.ensures.reads.stays.same_image) (ap (with_paging c.args.over.now.paging) c.push_shown_over-memory.ensures.reads.stays.same_image)
    (search rules) (search rules) (search rules) c.push_repairs.ensures.added
