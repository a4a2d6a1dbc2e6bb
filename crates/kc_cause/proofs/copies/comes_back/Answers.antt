use Rattle.std.proofs.Common.{◌∙◌, arith}
use Rattle.kc_memory.specs.Stays.{stays_on}
use Rattle.kc_cause.specs.Copies.{comes_back}
use Rattle.kc_cause.proofs.CopyLemmas.{back_ends, back_further, back_passed, back_there, back_unread}
use Rattle.kc_cause.proofs.copies.comes_back.Goals as goal

pub returns-in_default-clause-comes : goal.returns-in_default-clause-comes
returns-in_default-clause-comes g c =
    back_unread (g.M.Space.image c.args.memory.now) c.args.node c.args.above c.loop-left.here c.loop-left.left (λ image. comes_back 65536 image c.args.node c.args.above c.args.first) c.in_ok-back.field-0
    c.loop-left-test.true c.in_default.is (rw c.loop-left.invariant.stays.same_image at c.in_ok-back.ensures.number) c.loop-left.invariant.comes

pub returns-then-back-node-clause-comes : goal.returns-then-back-node-clause-comes
returns-then-back-node-clause-comes g c =
    back_there (g.M.Space.image c.args.memory.now) c.args.node c.args.above c.loop-left.here c.loop-left.left (λ image. comes_back 65536 image c.args.node c.args.above c.args.first) c.in_ok-back.field-0 c.in-Some.back
    c.loop-left-test.true c.in-Some.is c.if-back-node.true (rw c.loop-left.invariant.stays.same_image at c.in_ok-back.ensures.number) c.loop-left.invariant.comes

pub returns-then-back-above-clause-comes : goal.returns-then-back-above-clause-comes
returns-then-back-above-clause-comes g c =
    back_passed (g.M.Space.image c.args.memory.now) c.args.node c.args.above c.loop-left.here c.loop-left.left (λ image. comes_back 65536 image c.args.node c.args.above c.args.first) c.in_ok-back.field-0 c.in-Some.back
    c.loop-left-test.true c.in-Some.is c.if-back-node.false c.if-back-above.true (rw c.loop-left.invariant.stays.same_image at c.in_ok-back.ensures.number) c.loop-left.invariant.comes

pub loop-left-preserved : goal.loop-left-preserved
loop-left-preserved g c = record {
  comes = back_further (g.M.Space.image c.args.memory.now) c.args.node c.args.above c.loop-left.here c.loop-left.left (λ image. comes_back 65536 image c.args.node c.args.above c.args.first) c.in_ok-back.field-0 c.in-Some.back
      c.loop-left-test.true c.in-Some.is c.if-back-node.false c.if-back-above.false (rw c.loop-left.invariant.stays.same_image at c.in_ok-back.ensures.number) c.loop-left.invariant.comes;
  stays = stays_on g.M.Space.image g.M.Space.files g.M.Space.through g.M.Space.most _ _ _ c.loop-left.invariant.stays c.in_ok-back.ensures.reads.stays;
  quiet = c.in_ok-back.ensures.reads.cause ∙ c.loop-left.invariant.quiet;
}

pub returns-clause-comes : goal.returns-clause-comes
returns-clause-comes g c =
    back_ends (g.M.Space.image c.args.memory.now) c.args.node c.args.above c.loop-left.here c.loop-left.left (λ image. comes_back 65536 image c.args.node c.args.above c.args.first)
    (omega (arith, c.loop-left-test.false)) c.loop-left.invariant.comes
