use Rattle.std.proofs.Common.{ℕ, List}
use Rattle.kc_outside.specs.declared.store.Slot.TheVariants.{Dump}
use Rattle.kc_outside.specs.Files.{content}
use Rattle.kc_plan.specs.Views.{plan_seen}
use Rattle.kc_app.specs.Held.{audited_of}
use Rattle.kc_app.proofs.Checked.{all_prints}
use Rattle.kc_app.proofs.verdict.judge_all.Goals as goal

pub returns-in-Ok-clause-output : goal.returns-in-Ok-clause-output
returns-in-Ok-clause-output g c =
    all_prints (content (g.S.Store.files c.args.store.now) Dump (g.S.Store.opened c.args.store.now Dump)) (λ (bytes : List ℕ). (audited_of c.args.held.now bytes).image) (plan_seen c.args.held.now.plan)
    c.args.names.now c.in-Ok.verdict c.answer.result c.requires.names (rw c.in-Ok.is at c.in_ok-found.ensures.says) c.answer.ensures.output
