use Rattle.std.proofs.Common.{ℕ, List, false}
use Rattle.kc_outside.specs.declared.store.Slot.TheVariants.{Dump}
use Rattle.kc_outside.specs.Files.{content}
use Rattle.kc_app.specs.Held.{audited_of}
use Rattle.kc_app.proofs.Checked.{by_version, not_two}
use Rattle.kc_app.proofs.verdict.judge.Goals as goal

pub returns-clause-output : goal.returns-clause-output
returns-clause-output g c =
    by_version (content (g.S.Store.files c.args.store.now) Dump (g.S.Store.opened c.args.store.now Dump)) (audited_of c.args.held.now) false c.judge_all.result
    (λ (bytes : List ℕ). not_two c.args.held.now.plan.version c.if-plan-eq2.false) c.judge_all.ensures.output
