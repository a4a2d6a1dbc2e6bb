use Rattle.kc_plan.specs.Views.{kernel_of}
use Rattle.toml.specs.View.{table_view}
use Rattle.kc_plan.proofs.PlanLaws.{KeepsAll, keeps_all}
use Rattle.kc_plan.proofs.read.read_plan.Goals as goal

pub invariant_of-result : goal.invariant_of-result
invariant_of-result c =
    let kept : KeepsAll c.in_ok-audits.audits = keeps_all (kernel_of c.args.btf.now c.args.syms.now c.args.info.now) (table_view c.in_ok-table.table) c.in_ok-written.written c.in_ok-audits.audits c.in_ok-written.ensures (rw c.deref.ensures.value at c.in_ok-audits.ensures.exact) in
    record { known = c.in_ok-written.written.known; few = kept.few; names = kept.names; later = kept.later; once = kept.once }
