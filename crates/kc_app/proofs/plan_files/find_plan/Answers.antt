use Rattle.kc_app.proofs.Planned.{planned_told}
use Rattle.kc_app.proofs.plan_files.find_plan.Goals as goal

pub returns-clause-told : goal.returns-clause-told
returns-clause-told g c =
    let rows = c.in_ok-symbols.ensures.made.0 in
    planned_told (g.S.Store.files c.args.store.now) c.args.map.now c.args.name.now c.args.types.now c.args.info.now _ c.in_ok-bytes.bytes
    rows c.read_audits.result c.in_ok-symbols.ensures.made.1 c.in_ok-bytes.ensures.told (rw c.deref.ensures.value at c.read_audits.ensures.made rows c.in_ok-symbols.ensures.made.2)
