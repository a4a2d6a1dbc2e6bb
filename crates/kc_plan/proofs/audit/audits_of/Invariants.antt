use Rattle.std.proofs.Common.{◌≡◌, [], drop, length}
use Rattle.kc_plan.specs.Audits.{audits_for}
use Rattle.kc_plan.specs.Views.{audit_texts, tables_in}
use Rattle.kc_plan.proofs.audit.audits_of.Given as goal

-- the audits so far, and then those that are left
abbrev pub invariant-loop-table : goal.invariant-loop-table
invariant-loop-table l =
    (audits_for (audit_texts l.audits) (tables_in (drop l.table-index l.tables)) ≡ audits_for [] (tables_in l.tables)) × (length l.audits.items ≡ l.table-index)
