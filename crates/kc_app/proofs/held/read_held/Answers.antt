use Rattle.std.proofs.Common.{◌≡◌, rules, Err}
use Rattle.kc_outside.specs.declared.store.Slot.TheVariants as slot
use Rattle.kc_outside.specs.Files.{content}
use Rattle.kc_plan.specs.declared.plan.Plan.{Plan}
use Rattle.kc_command.specs.declared.kernel.Kernel.{Kernel}
use Rattle.kc_app.specs.declared.held.HeldFiles.{HeldFiles}
use Rattle.kc_app.specs.Check.{files_view}
use Rattle.kc_app.proofs.Checked.{late_stays}
use Rattle.kc_app.proofs.Holding.{holds, three_stay}
use Rattle.kc_app.proofs.held.read_held.Goals as goal

pub returns-in_err-kernel-clause-unopened : goal.returns-in_err-kernel-clause-unopened
returns-in_err-kernel-clause-unopened g c =
    let is : c.from_residual.result ≡ Err c.in_err-kernel.field-0.0 = search rules in
    three_stay c.args.asks.now.most Kernel HeldFiles c.args.asks.now c.in_err-kernel.field-0.0 c.from_residual.result
    (g.S.Store.opened c.args.store.now) (g.S.Store.opened c.read_kernel.new.store) is c.read_kernel.ensures.plan_opened c.in_err-kernel.ensures.unopened

pub returns-in_err-plan-clause-unopened : goal.returns-in_err-plan-clause-unopened
returns-in_err-plan-clause-unopened g c =
    let is : c.from_residual-in_err-plan.result ≡ Err c.in_err-plan.field-0.0 = search rules in
    late_stays c.args.asks.now.most Plan HeldFiles (files_view c.args.asks.now) c.in_err-plan.field-0.0 c.from_residual-in_err-plan.result
    (g.S.Store.opened c.args.store.now) (g.S.Store.opened c.read_kernel.new.store) (g.S.Store.opened c.find_plan.new.store)
    is c.read_kernel.ensures.plan_opened c.in_err-plan.ensures.unopened

-- the plan is another file, so the dump stays open
pub returns-clause-told : goal.returns-clause-told
returns-clause-told g c =
    holds c.args.asks.now.most (g.S.Store.files c.args.store.now) c.args.asks.now c.in_ok-kernel.kernel c.in_ok-plan.plan
    (content (g.S.Store.files c.find_plan.new.store) slot.Dump (g.S.Store.opened c.find_plan.new.store slot.Dump))
    c.in_ok-kernel.ensures.told (rw (c.in_ok-kernel.ensures.files, c.deref.ensures.value) at c.in_ok-plan.ensures.told)
    (rw (c.in_ok-plan.ensures.reads.same, c.in_ok-plan.ensures.dump_opened) c.in_ok-kernel.ensures.content)

pub returns-clause-inside : goal.returns-clause-inside
returns-clause-inside g c = rw c.find_plan.ensures.dump_sizes c.in_ok-kernel.ensures.inside
