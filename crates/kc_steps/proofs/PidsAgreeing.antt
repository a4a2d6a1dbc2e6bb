-- The walk of process ids by a way to come by hash chains that walks them is their walk.
use Rattle.std.proofs.Common.{◌≡◌, [], refl, ◌∙◌, sym, ap}
use Rattle.std.specs.Prelude.{Result, Ok, Err, OnOk}
use Rattle.std.proofs.Common.{subst}
use Rattle.kc_memory.specs.declared.rule.Rule.TheVariants.{G1}
use Rattle.kc_memory.specs.Image.{Image}
use Rattle.kc_view.specs.declared.pids.PidShape.{PidShape}
use Rattle.kc_view.specs.Fields.{holds}
use Rattle.kc_view.specs.PidTables.{chain_of, pid_checked, task_names}
use Rattle.kc_view.specs.TaskLists.{all_pass}
use Rattle.kc_found.specs.declared.asked.Asked.{Asked}
use Rattle.kc_found.specs.declared.xarrays.XaItem.{XaItem}
use Rattle.kc_found.specs.Nodes.{at_offset}
use Rattle.kc_found.specs.Violations.{Violation}
use Rattle.kc_steps.specs.Chains.{HashBy, Lists, WalksHashes, hash_kept}
use Rattle.kc_steps.specs.Laws.{PidListsAreWalked, PidsAgree}
use Rattle.kc_steps.specs.PidsBy.{pid_by, pid_lists}
use Rattle.kc_steps.proofs.Agreeing.{all_agree, hashes_kept, kept_passing, passes, reads_passes, then_passes}

pid_agrees : (image : Image) (hash : HashBy) → WalksHashes image hash → (asked : Asked) (shape : PidShape) (item : XaItem) (lists : Lists) →
    passes (pid_by image hash asked shape item lists) ≡ pid_checked image asked shape item
pid_agrees image hash walks asked shape item lists =
    reads_passes (holds image asked G1 item.entry shape.nr item.index) _ _
    (λ _. then_passes (hash asked shape.chain (at_offset item.entry shape.tasks) lists) _ (chain_of image asked shape item.entry) _
    (walks asked shape.chain (at_offset item.entry shape.tasks) lists)
    (λ nodes more. kept_passing (all_pass (task_names image asked shape item.entry) nodes) more))

pub pids_agree : PidsAgree
pids_agree image hash shape asked items lists walks = all_agree (pid_by image hash asked shape) (pid_checked image asked shape) (pid_agrees image hash walks asked shape) items lists

no_err : {A E : Type 0} (e : E) (x : A) → ◌≡◌ {A = Result A E} (Err e) (Ok x) → ⊥
no_err {A} {E} e x is = subst (λ (r : Result A E). OnOk r ⊥) is tt

-- lists are there where a step passes
lists_there : (m : Result Lists Violation) → passes m ≡ Ok tt → (lists : Lists) × (m ≡ Ok lists)
lists_there (Ok lists) e = (lists, refl)
lists_there (Err v) e = absurd (no_err v tt e)

pub pid_lists_are_walked : PidListsAreWalked
pid_lists_are_walked image shape asked items =
    let same = pids_agree image (hash_kept image) shape asked items [] (hashes_kept image) in (
      (λ lists e. sym same ∙ ap passes e),
      (λ e. lists_there (pid_lists image shape asked items) (same ∙ e)),
    )
