use Rattle.std.proofs.Common.{◌∙◌, arith}
use Rattle.kc_memory.specs.Stays.{stays_on}
use Rattle.kc_repair.specs.Suspect.Links.{chain_link}
use Rattle.kc_repair.proofs.SuspectLemmas.LinkLemmas.{ends, ends_there, ends_unread, goes_by, goes_on}
use Rattle.kc_repair.proofs.suspect.links.chain_link.Goals as goal
use Rattle.kc_repair.proofs.suspect.links.chain_link.Goals.{then-link-node+else-others-eq0, else-link-node}

pub returns-in_default-clause-link : goal.returns-in_default-clause-link
returns-in_default-clause-link g c =
    ends_unread (g.S.Space.image c.args.space.now) c.args.offset c.args.node c.loop-left.others c.loop-left.at c.loop-left.left (λ image. chain_link image c.args.offset c.args.first c.args.node c.args.others) c.in_ok-link.field-0
    c.loop-left-test.true c.in_default.is (rw c.loop-left.invariant.stays.same_image at c.in_ok-link.ensures.word) c.loop-left.invariant.link

pub returns-then-others-eq0-clause-link : goal.returns-then-others-eq0-clause-link
returns-then-others-eq0-clause-link g c =
    ends_there (g.S.Space.image c.args.space.now) c.args.offset c.args.node c.loop-left.others c.loop-left.at c.loop-left.left (λ image. chain_link image c.args.offset c.args.first c.args.node c.args.others) c.in_ok-link.field-0 c.in-Some.link
    c.loop-left-test.true c.in-Some.is c.if-link-node.true c.if-others-eq0.true (rw c.loop-left.invariant.stays.same_image at c.in_ok-link.ensures.word) c.loop-left.invariant.link

pub loop-left-preserved : goal.loop-left-preserved
loop-left-preserved g c = record {
  link = elim c.if-link-node.branch [
    | then-link-node+else-others-eq0 w ↦ rw w.others-is
        (goes_on (g.S.Space.image c.args.space.now) c.args.offset c.args.node c.loop-left.others c.loop-left.at c.loop-left.left (λ image. chain_link image c.args.offset c.args.first c.args.node c.args.others) c.in_ok-link.field-0 c.in-Some.link
        c.loop-left-test.true c.in-Some.is w.if-link-node.true (omega (arith, w.if-others-eq0.false)) (rw c.loop-left.invariant.stays.same_image at c.in_ok-link.ensures.word) c.loop-left.invariant.link)
    | else-link-node w ↦ rw w.others-is
        (goes_by (g.S.Space.image c.args.space.now) c.args.offset c.args.node c.loop-left.others c.loop-left.at c.loop-left.left (λ image. chain_link image c.args.offset c.args.first c.args.node c.args.others) c.in_ok-link.field-0 c.in-Some.link
        c.loop-left-test.true c.in-Some.is w.if-link-node.false (rw c.loop-left.invariant.stays.same_image at c.in_ok-link.ensures.word) c.loop-left.invariant.link)
  ];
  stays = stays_on g.S.Space.image g.S.Space.files g.S.Space.through g.S.Space.most _ _ _ c.loop-left.invariant.stays c.in_ok-link.ensures.reads.stays;
  quiet = c.in_ok-link.ensures.reads.cause ∙ c.loop-left.invariant.quiet;
}

pub returns-clause-link : goal.returns-clause-link
returns-clause-link g c =
    ends (g.S.Space.image c.args.space.now) c.args.offset c.args.node c.loop-left.others c.loop-left.at c.loop-left.left (λ image. chain_link image c.args.offset c.args.first c.args.node c.args.others)
    (omega (arith, c.loop-left-test.false)) c.loop-left.invariant.link
