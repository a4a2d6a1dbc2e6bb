use Rattle.std.proofs.Common.{length, sym}
use Rattle.std.proofs.lemmas.List.{length-map}
use Rattle.kc_plan.specs.Planned.{audit_seen}
use Rattle.kc_plan.specs.Views.{plan_seen}
use Rattle.kc_run.proofs.RootLaws.{root_broken, root_clean}
use Rattle.kc_run.proofs.each.judged.Goals as goal

pub returns-in-Ok-counts_at-clause-exact : goal.returns-in-Ok-counts_at-clause-exact
returns-in-Ok-counts_at-clause-exact g c =
    root_clean (g.S.Space.image c.args.space.now) (plan_seen c.args.known.now.plan.now) c.args.root.now.audit c.args.root.now.start (length c.args.known.now.plan.now.audits) c.args.audits.now c.enter.new.recorder.counts c.in-Ok-counts_at.counts c.in-Ok-enter.field-0
    (rw c.in-Ok.ensures at c.in-Ok-enter.ensures.means) c.requires.reached (sym (length-map c.args.known.now.plan.now.audits audit_seen)) c.requires.below c.in-Ok-counts_at.ensures

pub returns-in-Err-Broken-clause-exact : goal.returns-in-Err-Broken-clause-exact
returns-in-Err-Broken-clause-exact g c =
    root_broken _ (g.S.Space.image c.args.space.now) (plan_seen c.args.known.now.plan.now) c.args.root.now.audit c.args.root.now.start c.enter.new.recorder.counts c.in-Err-Broken.found
    (rw (c.in-Ok.ensures, c.in-Err-Broken.field-0-is) at c.in-Err-Broken.ensures.means)
