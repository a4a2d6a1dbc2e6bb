-- The walk of process ids by lists that are taken is their walk by hash chains that are kept.
use Rattle.std.proofs.Common.{ℕ, List, [], ◌∙◌, sym, ap, append-nil}
use Rattle.std.specs.Prelude.{Ok}
use Rattle.kc_memory.specs.declared.rule.Rule.TheVariants.{G1}
use Rattle.kc_memory.specs.Image.{Image}
use Rattle.kc_view.specs.declared.pids.PidShape.{PidShape}
use Rattle.kc_view.specs.Fields.{holds}
use Rattle.kc_view.specs.PidTables.{task_names}
use Rattle.kc_view.specs.TaskLists.{all_pass}
use Rattle.kc_found.specs.declared.asked.Asked.{Asked}
use Rattle.kc_found.specs.declared.xarrays.XaItem.{XaItem}
use Rattle.kc_found.specs.Nodes.{at_offset}
use Rattle.kc_found.specs.Trials.{and_then}
use Rattle.kc_steps.specs.Chains.{HashBy, TakesHashes, hash_kept}
use Rattle.kc_steps.specs.Laws.{PidListsAreBehind, PidListsAreTaken}
use Rattle.kc_steps.specs.PidsBy.{pid_by, pids_by}
use Rattle.kc_steps.proofs.Taking.{Pass, PassSame, hash_same, pass_done, passed_same, reads_pass, then_pass}

-- G2 of the tasks on these nodes
abbrev tasks_pass : Image → Asked → PidShape → ℕ → List ℕ → Pass
tasks_pass image asked shape pid nodes s = and_then (all_pass (task_names image asked shape pid) nodes) (λ _. Ok s)

-- what follows G1
abbrev chain_pass : Image → HashBy → Asked → PidShape → ℕ → Pass
chain_pass image hash asked shape pid s = and_then (hash asked shape.chain (at_offset pid shape.tasks) s) (λ r. tasks_pass image asked shape pid r.0 r.1)

chain_same : (image : Image) (hash : HashBy) → TakesHashes image hash → (asked : Asked) (shape : PidShape) (pid : ℕ) →
    PassSame (chain_pass image hash asked shape pid) (chain_pass image (hash_kept image) asked shape pid)
chain_same image hash takes asked shape pid =
    then_pass (hash asked shape.chain (at_offset pid shape.tasks)) (hash_kept image asked shape.chain (at_offset pid shape.tasks))
    (tasks_pass image asked shape pid) (tasks_pass image asked shape pid)
    (hash_same image hash takes asked shape.chain (at_offset pid shape.tasks))
    (λ nodes. reads_pass (all_pass (task_names image asked shape pid) nodes) (λ _ s. Ok s) (λ _ s. Ok s) (λ _. pass_done))

pid_same : (image : Image) (hash : HashBy) → TakesHashes image hash → (asked : Asked) (shape : PidShape) (item : XaItem) →
    PassSame (pid_by image hash asked shape item) (pid_by image (hash_kept image) asked shape item)
pid_same image hash takes asked shape item =
    reads_pass (holds image asked G1 item.entry shape.nr item.index)
    (λ _. chain_pass image hash asked shape item.entry) (λ _. chain_pass image (hash_kept image) asked shape item.entry)
    (λ _. chain_same image hash takes asked shape item.entry)

pids_same : (image : Image) (hash : HashBy) → TakesHashes image hash → (shape : PidShape) (asked : Asked) (items : List XaItem) →
    PassSame (pids_by image hash shape asked items) (pids_by image (hash_kept image) shape asked items)
pids_same image hash takes shape asked items = passed_same (pid_by image hash asked shape) (pid_by image (hash_kept image) asked shape) (pid_same image hash takes asked shape) items

pub pid_lists_are_taken : PidListsAreTaken
pid_lists_are_taken image hash takes shape asked items lists =
    let same = pids_same image hash takes shape asked items in (
      (λ e. let t = same.0 lists [] e in t.2 [] ∙ ap Ok (sym (t.1 ∙ append-nil t.0))),
      (λ e. let t = same.1 [] lists e in ap (pids_by image hash shape asked items) (t.1 ∙ sym (append-nil t.0)) ∙ t.2 []),
    )

pub pid_lists_are_behind : PidListsAreBehind
pid_lists_are_behind image hash takes shape asked items before after e =
    let t = (pids_same image hash takes shape asked items).1 before after e in (t.0, t.1, ap (pids_by image hash shape asked items) (sym (append-nil t.0)) ∙ t.2 [])
