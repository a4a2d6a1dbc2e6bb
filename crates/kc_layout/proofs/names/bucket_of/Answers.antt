use Rattle.std.proofs.Common.{refl, sym, ◌∙◌, arith}
use Rattle.kc_layout.proofs.IndexLemmas.{chosen_drop, chosen_end}
use Rattle.kc_layout.proofs.names.bucket_of.Goals as goal

pub loop-c-init : goal.loop-c-init
loop-c-init c = record { below = omega arith; left = refl }

pub loop-c-preserved : goal.loop-c-preserved
loop-c-preserved c = record {
  below = omega arith;
  left = c.loop-c.invariant.left ∙ chosen_drop c.args.start.now c.loop-c.bucket c.loop-c.c-index c.from.result (omega arith) (omega arith);
}

pub returns-clause-exact : goal.returns-clause-exact
returns-clause-exact c = sym (c.loop-c.invariant.left ∙ chosen_end c.args.start.now c.loop-c.bucket c.loop-c.c-index (omega arith))
