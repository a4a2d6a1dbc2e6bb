use Rattle.std.proofs.Common.{◌∙◌, arith}
use Rattle.kc_memory.specs.Stays.{stays_on}
use Rattle.kc_cause.specs.Explained.{leads_to}
use Rattle.kc_cause.specs.Judged.{over_plan}
use Rattle.kc_cause.specs.Lines.{word_line}
use Rattle.kc_cause.proofs.RepairLemmas.{all_items, item_more}
use Rattle.kc_cause.proofs.repairs.push_words.Goals as goal

pub loop-i-preserved : goal.loop-i-preserved
loop-i-preserved g c = record {
  added = item_more (g.M.Space.image c.args.memory.now) _ (λ m. word_line (leads_to (over_plan c.args.over.now m))) c.args.words.now c.loop-i.i _ _ _ _
      c.loop-i.invariant.stays.same_image c.get.ensures c.in_ok-push_word.ensures.added c.loop-i.invariant.added;
  stays = stays_on g.M.Space.image g.M.Space.files g.M.Space.through g.M.Space.most _ _ _ c.loop-i.invariant.stays c.in_ok-push_word.ensures.reads.stays;
  quiet = c.in_ok-push_word.ensures.reads.cause ∙ c.loop-i.invariant.quiet;
}

pub returns-clause-added : goal.returns-clause-added
returns-clause-added g c =
    all_items (g.M.Space.image c.args.memory.now) (λ m. word_line (leads_to (over_plan c.args.over.now m))) c.args.words.now c.loop-i.i _ _ (omega arith) c.loop-i.invariant.added
