use Rattle.std.proofs.Common.{sym, subst, List, ℕ, Result}
use Rattle.kc_report.specs.Reads.{AddsOne}
use Rattle.kc_report.specs.Roots.{RootLines}
use Rattle.kc_report.proofs.BackLemmas.{root_named, root_by_name}
use Rattle.kc_report.proofs.back.next_root.Goals as goal

pub next_result-requires : goal.next_result-requires
next_result-requires c = record { name = root_named c.args.bytes.now c.in-Ok.rest.now c.in-Ok.name.now c.in-Ok.ensures }

pub returns-in-Ok : goal.returns-in-Ok
returns-in-Ok c =
    let said = root_by_name c.args.more c.args.bytes.now c.in-Ok.rest.now c.in-Ok.name.now c.in-Ok.ensures in
    subst (λ (r : Result (RootLines × List ℕ) (List ℕ)). AddsOne r c.args.roots.now c.next_result.new.roots c.next_result.result) (sym said) c.next_result.ensures
