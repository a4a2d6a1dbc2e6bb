use Rattle.std.proofs.Common.{sym, ◌∙◌, arith}
use Rattle.kc_memory.specs.Stays.{stays_on}
use Rattle.kc_cause.specs.Written.{first_written}
use Rattle.kc_cause.proofs.WrittenLemmas.{word_ends, word_further, word_there}
use Rattle.kc_cause.proofs.written.first_written.Goals as goal

pub returns-then-is_some-clause-word : goal.returns-then-is_some-clause-word
returns-then-is_some-clause-word g c =
    word_there (g.M.Space.image c.args.memory.now) c.loop-left.at c.loop-left.left (λ image. first_written c.args.words image c.args.first) c.in_ok-word.word
    c.loop-left-test.true (sym c.is_some.ensures ∙ c.if-is_some.true) (rw c.loop-left.invariant.stays.same_image at c.in_ok-word.ensures.word) c.loop-left.invariant.word

pub loop-left-preserved : goal.loop-left-preserved
loop-left-preserved g c = record {
  word = word_further (g.M.Space.image c.args.memory.now) c.loop-left.at c.loop-left.left (λ image. first_written c.args.words image c.args.first) c.in_ok-word.word
      c.loop-left-test.true (sym c.is_some.ensures ∙ c.if-is_some.false) (rw c.loop-left.invariant.stays.same_image at c.in_ok-word.ensures.word) c.loop-left.invariant.word;
  stays = stays_on g.M.Space.image g.M.Space.files g.M.Space.through g.M.Space.most _ _ _ c.loop-left.invariant.stays c.in_ok-word.ensures.reads.stays;
  quiet = c.in_ok-word.ensures.reads.cause ∙ c.loop-left.invariant.quiet;
}

pub returns-clause-word : goal.returns-clause-word
returns-clause-word g c =
    word_ends (g.M.Space.image c.args.memory.now) c.loop-left.at c.loop-left.left (λ image. first_written c.args.words image c.args.first)
    (omega (arith, c.loop-left-test.false)) c.loop-left.invariant.word
