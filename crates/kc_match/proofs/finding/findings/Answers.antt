use Rattle.std.proofs.Common.{◌≡◌, ◌==◌, refl, sym, ap, ◌∙◌, rules}
use borrow.Author.Tests.{tests}
use Rattle.std.proofs.lemmas.Iterator.Consumers.{YieldsList-end}
use Rattle.std.proofs.lemmas.Iterator.Splits.{YieldsList-from_slice_split}
use Rattle.kc_match.specs.Findings.{findings}
use Rattle.kc_match.specs.Views.{finding_view, kernel_view, fact_view}
use Rattle.kc_match.proofs.FindingLemmas.{found_more, found_none}
use Rattle.kc_match.proofs.finding.findings.Goals as goal

pub loop-line-preserved-in-Continue-1 : goal.loop-line-preserved-in-Continue-1
loop-line-preserved-in-Continue-1 c =
    found_more (kernel_view c.args.kernel) c.loop-line.yielded c.in-Some.line (fact_view c.in-Some-read_fact.fact) c.loop-line.found.items c.push.new.self.items _
    c.loop-line.invariant (sym c.in-Some-read_fact.ensures) (ap (λ o. record { line = c.in-Some.line.now; outcome = o }) c.outcome_of-outcome.ensures) c.in_ok-push.ensures.items

pub loop-line-preserved : goal.loop-line-preserved
loop-line-preserved c =
    found_none (kernel_view c.args.kernel) c.loop-line.yielded c.in-Some.line c.loop-line.found.items c.loop-line.invariant (sym c.in_default.ensures)

pub returns : goal.returns
returns c =
    let all = YieldsList-end (YieldsList-from_slice_split _ (λ byte. byte == 10) c.args.text.now (rw c.into_iter-line-iterator.ensures.into_iter_gives c.split-line-items.ensures.rest)
    (rw c.into_iter-line-iterator.ensures.into_iter_gives c.split-line-items.ensures.done) refl
    (λ x r q k. search (rules, tests))) c.loop-line.yielded _ c.loop-line.yielded_by _ _ c.in-None.is c.next.ensures.steps in
    c.loop-line.invariant ∙ ap (findings (kernel_view c.args.kernel)) all.0
