use Rattle.std.proofs.Common.{[], ◌∷◌, reverse, sym, ap, ◌∙◌, arith}
use Rattle.std.proofs.lemmas.List.{nil_from_length, reverse-append}
use Rattle.kc_memory.specs.Stays.{stays_on}
use Rattle.kc_repair.specs.Suspect.Links.{tree_links}
use Rattle.kc_repair.proofs.SuspectLemmas.LinkLemmas.{all_found, most_found, one_found}
use Rattle.kc_repair.proofs.suspect.links.tree_links.Goals as goal

pub returns-in_default-clause-links : goal.returns-in_default-clause-links
returns-in_default-clause-links g c =
    all_found (g.S.Space.image c.args.space.now) c.args.shape.now c.loop-left.links (reverse c.loop-left.ahead.items) c.loop-left.left (λ image. tree_links image c.args.shape.now c.args.head)
    (ap reverse (nil_from_length _ (sym c.loop-left.ahead.ok.0 ∙ c.in_default.ensures.cases.0))) c.loop-left.invariant.links

pub loop-left-preserved : goal.loop-left-preserved
loop-left-preserved g c = record {
  links = one_found (g.S.Space.image c.args.space.now) c.args.shape.now c.loop-left.links _ (reverse c.pop.new.self.items) _ c.in-Some.at c.loop-left.left c.in_ok-link.link (λ image. tree_links image c.args.shape.now c.args.head)
      c.loop-left-test.true (rw c.loop-left.invariant.stays.same_image at c.in_ok-link.ensures.word) c.in_ok-push_link.ensures.links c.in_ok-push_link.ensures.ahead
      (rw (ap reverse c.in-Some.ensures.items ∙ reverse-append c.pop.new.self.items (c.in-Some.at ∷ [])) at c.loop-left.invariant.links);
  stays = stays_on g.S.Space.image g.S.Space.files g.S.Space.through g.S.Space.most _ _ _ c.loop-left.invariant.stays c.in_ok-link.ensures.reads.stays;
  quiet = c.in_ok-link.ensures.reads.cause ∙ c.loop-left.invariant.quiet;
}

pub returns-clause-links : goal.returns-clause-links
returns-clause-links g c =
    most_found (g.S.Space.image c.args.space.now) c.args.shape.now c.loop-left.links (reverse c.loop-left.ahead.items) c.loop-left.left (λ image. tree_links image c.args.shape.now c.args.head) (omega (arith, c.loop-left-test.false)) c.loop-left.invariant.links
