use Rattle.std.proofs.Common.{sym, ◌∙◌}
use Rattle.kc_cause.specs.Explained.{is_broken}
use Rattle.kc_cause.proofs.ItemLemmas.{find_item, find_past}
use Rattle.kc_cause.proofs.explained.push_first.Goals as goal

pub loop-i-preserved : goal.loop-i-preserved
loop-i-preserved g c = (
  find_past is_broken c.args.verdicts.now c.loop-i.i _ c.get-root.ensures (sym c.is_broken.ensures ∙ c.if-is_broken.false) c.loop-i.invariant.0,
  c.loop-i.invariant.1,
)

pub returns-then-is_broken-clause-added : goal.returns-then-is_broken-clause-added
returns-then-is_broken-clause-added g c =
    rw (find_item is_broken c.args.verdicts.now c.loop-i.i _ c.get-root.ensures (sym c.is_broken.ensures ∙ c.if-is_broken.true) c.loop-i.invariant.0, ← c.loop-i.invariant.1) c.push_cause.ensures.added
