use Rattle.std.proofs.Common.{◌≡◌, ◌∙◌, refl, rules, Err}
use Rattle.kc_outside.specs.declared.store.Slot.TheVariants as slot
use Rattle.kc_outside.specs.Files.{content}
use Rattle.kc_plan.specs.declared.plan.Plan.{Plan}
use Rattle.kc_app.specs.declared.held.HeldFiles.{HeldFiles}
use Rattle.kc_app.specs.CheckModule.{five_view}
use Rattle.kc_app.proofs.CheckedModule.{late_stays, module_holds, reads_after}
use Rattle.kc_app.proofs.check_module.read_joined.Goals as goal

pub returns-in_err-plan-clause-unopened : goal.returns-in_err-plan-clause-unopened
returns-in_err-plan-clause-unopened g c =
    let is : c.from_residual-in_err-plan.result ≡ Err c.in_err-plan.field-0.0 = search rules in
    late_stays c.args.asks.now.files.most Plan HeldFiles (five_view c.args.asks.now) c.in_err-plan.field-0.0 c.from_residual-in_err-plan.result
    (g.S.Store.opened c.args.store.now) (g.S.Store.opened c.read_map.new.store) (g.S.Store.opened c.find_plan.new.store)
    is (c.read_map.ensures.others_opened slot.Plan refl ∙ c.read_module.ensures.others_opened slot.Plan refl ∙ c.read_types.ensures.others_opened slot.Plan refl ∙ c.in_ok-noted.ensures.others_opened slot.Plan refl)
    c.in_err-plan.ensures.unopened

pub returns-in_err-plan-clause-reads : goal.returns-in_err-plan-clause-reads
returns-in_err-plan-clause-reads g c =
    let is : c.from_residual-in_err-plan.result ≡ Err c.in_err-plan.field-0.0 = search rules in
    reads_after g.S.Store.files g.S.Store.faults c.in_err-plan.field-0.0 c.from_residual-in_err-plan.result c.args.store.now c.read_map.new.store c.find_plan.new.store
    is (c.in_ok-map.ensures.files ∙ c.in_ok-types.ensures.files ∙ c.in_ok-base.ensures.files ∙ c.in_ok-noted.ensures.files)
    (c.in_ok-map.ensures.quiet ∙ c.in_ok-types.ensures.quiet ∙ c.in_ok-base.ensures.quiet ∙ c.in_ok-noted.ensures.quiet) c.in_err-plan.ensures.reads

-- the calls between read other files, so the dump stays open
pub returns-clause-told : goal.returns-clause-told
returns-clause-told g c =
    module_holds c.args.asks.now.files.most (g.S.Store.files c.args.store.now) (five_view c.args.asks.now) c.in_ok-noted.noted c.in_ok-base.base c.in_ok-types.types _ c.in_ok-map.map c.in_ok-plan.plan
    (content (g.S.Store.files c.find_plan.new.store) slot.Dump (g.S.Store.opened c.find_plan.new.store slot.Dump))
    c.in_ok-noted.ensures.told (rw c.in_ok-noted.ensures.files at c.in_ok-base.ensures.told)
    (rw (c.in_ok-base.ensures.files, c.in_ok-noted.ensures.files) at c.in_ok-types.ensures.told)
    (rw (c.in_ok-types.ensures.files, c.in_ok-base.ensures.files, c.in_ok-noted.ensures.files) at c.in_ok-map.ensures.told)
    (rw (c.in_ok-map.ensures.files, c.in_ok-types.ensures.files, c.in_ok-base.ensures.files, c.in_ok-noted.ensures.files, c.deref.ensures.value) at c.in_ok-plan.ensures.told)
    (rw (c.in_ok-plan.ensures.reads.same, c.in_ok-map.ensures.files, c.in_ok-types.ensures.files, c.in_ok-base.ensures.files, c.in_ok-plan.ensures.dump_opened, c.in_ok-map.ensures.others_opened slot.Dump refl, c.in_ok-types.ensures.others_opened slot.Dump refl, c.in_ok-base.ensures.others_opened slot.Dump refl)
    c.in_ok-noted.ensures.content)

pub returns-clause-inside : goal.returns-clause-inside
returns-clause-inside g c =
    rw (c.find_plan.ensures.dump_sizes, c.read_map.ensures.others_sizes slot.Dump refl, c.read_module.ensures.others_sizes slot.Dump refl, c.read_types.ensures.others_sizes slot.Dump refl) c.in_ok-noted.ensures.inside
