use Rattle.std.proofs.Common.{ap, ◌∙◌, arith}
use Rattle.kc_syms.specs.Listed.{parts}
use Rattle.kc_syms.proofs.IndexLemmas.{none_listed, part-more}
use Rattle.kc_syms.proofs.index.new_index.Goals as goal

pub loop-part-preserved : goal.loop-part-preserved
loop-part-preserved c = (
  omega (arith, c.in_ok-push.ensures.len),
  ap parts c.in_ok-push.ensures.items ∙ part-more c.loop-part.index.items c.in_ok-part.part c.loop-part._part c.loop-part.invariant.1 c.in_ok-part.ensures.items,
)

pub returns-clause-empty : goal.returns-clause-empty
returns-clause-empty c = λ query. none_listed c.loop-part.index.items query c.loop-part._part c.loop-part.invariant.1
