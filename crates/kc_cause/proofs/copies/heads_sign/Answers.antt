use Rattle.std.proofs.Common.{sym, ◌∙◌, arith}
use Rattle.kc_memory.specs.Stays.{stays_on}
use Rattle.kc_cause.specs.Copies.{heads_sign}
use Rattle.kc_cause.proofs.CopyLemmas.{head_ends, head_further, head_there}
use Rattle.kc_cause.proofs.copies.heads_sign.Goals as goal

pub returns-then-is_some-clause-sign : goal.returns-then-is_some-clause-sign
returns-then-is_some-clause-sign g c =
    head_there (g.M.Space.image c.args.memory.now) c.loop-left.at c.loop-left.left (λ image. heads_sign c.args.words image c.args.first) c.in_ok-sign.sign
    c.loop-left-test.true (sym c.is_some.ensures ∙ c.if-is_some.true) (rw c.loop-left.invariant.stays.same_image at c.in_ok-sign.ensures.sign) c.loop-left.invariant.sign

pub loop-left-preserved : goal.loop-left-preserved
loop-left-preserved g c = record {
  sign = head_further (g.M.Space.image c.args.memory.now) c.loop-left.at c.loop-left.left (λ image. heads_sign c.args.words image c.args.first) c.in_ok-sign.sign
      c.loop-left-test.true (sym c.is_some.ensures ∙ c.if-is_some.false) (rw c.loop-left.invariant.stays.same_image at c.in_ok-sign.ensures.sign) c.loop-left.invariant.sign;
  stays = stays_on g.M.Space.image g.M.Space.files g.M.Space.through g.M.Space.most _ _ _ c.loop-left.invariant.stays c.in_ok-sign.ensures.reads.stays;
  quiet = c.in_ok-sign.ensures.reads.cause ∙ c.loop-left.invariant.quiet;
}

pub returns-clause-sign : goal.returns-clause-sign
returns-clause-sign g c =
    head_ends (g.M.Space.image c.args.memory.now) c.loop-left.at c.loop-left.left (λ image. heads_sign c.args.words image c.args.first)
    (omega (arith, c.loop-left-test.false)) c.loop-left.invariant.sign
