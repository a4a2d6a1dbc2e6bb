use Rattle.std.proofs.Common.{rules, ◌≡◌, ◌∙◌, [], ◌∷◌}
use Rattle.std.specs.Prelude.{Err}
use Rattle.kc_memory.specs.Stays.{stays_on}
use Rattle.kc_plan.specs.Planned.{audit_seen}
use Rattle.kc_plan.specs.Seen.{root_of}
use Rattle.kc_plan.specs.Views.{plan_seen}
use Rattle.kc_run.proofs.Parts.{root_ends, root_goes, root_skips}
use Rattle.kc_run.proofs.nest.enter_roots.Goals as goal

pub loop-number-preserved-in_default : goal.loop-number-preserved-in_default
loop-number-preserved-in_default g c =
    let none : root_of c.loop-number.number (audit_seen c.audit.result.now).start ≡ [] = search rules in record {
      leads = root_skips g.R.Recorder.Means (g.S.Space.image c.args.space.now) (plan_seen c.args.known.now.plan.now) (audit_seen c.audit.result.now) c.loop-number.number c.args.recorder.now c.loop-number.recorder c.audit.ensures.seen none c.loop-number.invariant.leads;
      stays = c.loop-number.invariant.stays;
      cause = c.loop-number.invariant.cause;
      ready = c.loop-number.invariant.ready;
    }

pub returns-in_err-enter-clause-means : goal.returns-in_err-enter-clause-means
returns-in_err-enter-clause-means g c =
    let ended : c.from_residual.result ≡ Err c.in_err-enter.field-0.0 = search rules in
    let root : root_of c.loop-number.number (audit_seen c.audit.result.now).start ≡ (c.loop-number.number, c.in-Root.symbol) ∷ [] = search rules in
    rw ended (root_ends g.R.Recorder.Means c.know_parts.ensures (g.S.Space.image c.args.space.now) (plan_seen c.args.known.now.plan.now) (audit_seen c.audit.result.now) c.loop-number.number c.in-Root.symbol c.args.recorder.now c.loop-number.recorder c.enter.new.recorder c.in_err-enter.field-0.0
    c.audit.ensures.seen root c.loop-number.invariant.leads (rw c.loop-number.invariant.stays.same_image at c.in_err-enter.ensures.means))

pub loop-number-preserved : goal.loop-number-preserved
loop-number-preserved g c =
    let root : root_of c.loop-number.number (audit_seen c.audit.result.now).start ≡ (c.loop-number.number, c.in-Root.symbol) ∷ [] = search rules in record {
      leads = root_goes g.R.Recorder.Means c.know_parts.ensures (g.S.Space.image c.args.space.now) (plan_seen c.args.known.now.plan.now) (audit_seen c.audit.result.now) c.loop-number.number c.in-Root.symbol c.args.recorder.now c.loop-number.recorder c.enter.new.recorder
          c.audit.ensures.seen root c.loop-number.invariant.leads (rw c.loop-number.invariant.stays.same_image at c.in_ok-enter.ensures.means);
      stays = stays_on _ _ _ _ c.args.space.now c.loop-number.space c.enter.new.space c.loop-number.invariant.stays c.in_ok-enter.ensures.stays;
      cause = c.in_ok-enter.ensures.cause ∙ c.loop-number.invariant.cause;
      ready = c.in_ok-enter.ensures.ready;
    }
