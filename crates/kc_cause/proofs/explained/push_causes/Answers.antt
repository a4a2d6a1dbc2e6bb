use Rattle.std.proofs.Common.{ap, arith, ◌∙◌}
use Rattle.kc_mem.specs.Paged.{with_paging}
use Rattle.kc_cause.specs.Explained.{cause_lines}
use Rattle.kc_cause.specs.Judged.{over_plan}
use Rattle.kc_cause.proofs.RepairLemmas.{all_items, item_more}
use Rattle.kc_cause.proofs.explained.push_causes.Goals as goal

pub loop-i-preserved : goal.loop-i-preserved
loop-i-preserved g c = (
  item_more _ _ (λ m. cause_lines (over_plan c.args.over.now m)) c.args.verdicts.now c.loop-i.i _ _ _ _
      (ap (with_paging c.args.over.now.paging) c.loop-i.invariant.1.same_image) c.get.ensures (rw c.in-Ok.is at c.push_cause-wrote.ensures.added) c.loop-i.invariant.0,
  record {
    same_image = c.push_cause-wrote.ensures.reads.stays.same_image ∙ c.loop-i.invariant.1.same_image;
    same_files = c.push_cause-wrote.ensures.reads.stays.same_files ∙ c.loop-i.invariant.1.same_files;
    same_through = c.push_cause-wrote.ensures.reads.stays.same_through ∙ c.loop-i.invariant.1.same_through;
  },
  (rw c.in-Ok.is at c.push_cause-wrote.ensures.reads.cause) ∙ c.loop-i.invariant.2,
)

pub returns-clause-added : goal.returns-clause-added
returns-clause-added g c =
    all_items (with_paging c.args.over.now.paging (g.F.Frames.image c.args.memory)) (λ m. cause_lines (over_plan c.args.over.now m)) c.args.verdicts.now c.loop-i.i _ _ (omega arith) c.loop-i.invariant.0
