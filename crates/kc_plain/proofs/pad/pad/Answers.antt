use Rattle.std.proofs.Common.{◌∙◌, ◌≤◌, sym, arith}
use Rattle.kc_plain.proofs.HeadLemmas.{no_zero, zero_more}
use Rattle.kc_plain.proofs.pad.pad.Goals as goal

pub loop-bytes-preserved : goal.loop-bytes-preserved
loop-bytes-preserved c = record {
  whole = zero_more c.loop-bytes.bytes.items c.push.new.self.items c.args.end (omega arith) c.in_ok-push.ensures.items ∙ c.loop-bytes.invariant.whole;
  within = λ short. omega (arith, c.in_ok-push.ensures.len);
}

pub returns-clause-value : goal.returns-clause-value
returns-clause-value c = sym (no_zero c.loop-bytes.bytes.items c.args.end (omega arith)) ∙ c.loop-bytes.invariant.whole
