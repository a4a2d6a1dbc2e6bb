-- The walk of tasks by lists that are taken is their walk by rings that are kept.
use Rattle.std.proofs.Common.{ℕ, List, [], ◌∷◌, ◌++◌, ◌∙◌, sym}
use Rattle.std.specs.Prelude.{Ok, map}
use Rattle.kc_memory.specs.declared.rule.Rule.TheVariants.{T5}
use Rattle.kc_memory.specs.Image.{Image}
use Rattle.kc_view.specs.declared.tasks.TaskShape.{TaskShape}
use Rattle.kc_view.specs.declared.tasks.ThreadGroup.{ThreadGroup}
use Rattle.kc_view.specs.Fields.{holds}
use Rattle.kc_view.specs.TaskLists.{all_pass, among_checked, group_of, shared_checked, stack_checked, task_of, thread_head}
use Rattle.kc_found.specs.declared.asked.Asked.{Asked}
use Rattle.kc_found.specs.Nodes.{at_offset}
use Rattle.kc_found.specs.Trials.{and_then}
use Rattle.kc_steps.specs.Chains.{RingBy, TakesRings, ring_kept}
use Rattle.kc_steps.specs.Laws.{TaskListsAreTaken}
use Rattle.kc_steps.specs.TasksBy.{children_by, gathered_by, leader_by, passed_by, tasks_all_by, tasks_by, thread_by}
use Rattle.kc_steps.proofs.Agreeing.{rings_kept}
use Rattle.kc_steps.proofs.Taking.{By, PassSame, Same, done_same, made_up, pass_done, pass_pass, pass_with, passed_same, reads_pass, reads_same, ring_same, then_pass, then_same, used_up}
use Rattle.kc_steps.proofs.TasksAgreeing.{tasks_agree}

tasks_same_on : (image : Image) (ring : RingBy) → TakesRings image ring → (asked : Asked) (shape : TaskShape) (head offset : ℕ) →
    Same (tasks_by ring asked shape head offset) (tasks_by (ring_kept image) asked shape head offset)
tasks_same_on image ring rings asked shape head offset =
    then_same (ring asked shape.list head) (ring_kept image asked shape.list head) (λ ns s. Ok (map (task_of offset) ns, s)) (λ ns s. Ok (map (task_of offset) ns, s)) (ring_same image ring rings asked shape.list head)
    (λ ns. done_same (map (task_of offset) ns))

children_same : (image : Image) (ring : RingBy) → TakesRings image ring → (asked : Asked) (shape : TaskShape) (owner : ℕ) →
    PassSame (children_by image ring asked shape owner) (children_by image (ring_kept image) asked shape owner)
children_same image ring rings asked shape owner =
    then_pass (tasks_by ring asked shape (at_offset owner shape.children) shape.sibling) (tasks_by (ring_kept image) asked shape (at_offset owner shape.children) shape.sibling)
    (λ children s. and_then (all_pass (λ child. holds image asked T5 child shape.real_parent owner) children) (λ _. Ok s)) (λ children s. and_then (all_pass (λ child. holds image asked T5 child shape.real_parent owner) children) (λ _. Ok s))
    (tasks_same_on image ring rings asked shape (at_offset owner shape.children) shape.sibling)
    (λ children. reads_pass (all_pass (λ child. holds image asked T5 child shape.real_parent owner) children) (λ _ s. Ok s) (λ _ s. Ok s) (λ _. pass_done))

thread_same : (image : Image) (ring : RingBy) → TakesRings image ring → (asked : Asked) (shape : TaskShape) (g : ThreadGroup) (thread : ℕ) →
    PassSame (thread_by image ring asked shape g thread) (thread_by image (ring_kept image) asked shape g thread)
thread_same image ring rings asked shape g thread =
    reads_pass (shared_checked image asked shape g thread)
    (λ _ s. and_then (children_by image ring asked shape thread s) (λ more. and_then (stack_checked image asked shape thread) (λ _. Ok more)))
    (λ _ s. and_then (children_by image (ring_kept image) asked shape thread s) (λ more. and_then (stack_checked image asked shape thread) (λ _. Ok more)))
    (λ _. pass_pass (children_by image ring asked shape thread) (children_by image (ring_kept image) asked shape thread)
    (λ more. and_then (stack_checked image asked shape thread) (λ _. Ok more)) (λ more. and_then (stack_checked image asked shape thread) (λ _. Ok more))
    (children_same image ring rings asked shape thread)
    (reads_pass (stack_checked image asked shape thread) (λ _ s. Ok s) (λ _ s. Ok s) (λ _. pass_done)))

-- T7, and then each thread of a group
abbrev group_by : Image → RingBy → Asked → TaskShape → ThreadGroup → List ℕ → By (List ℕ)
group_by image ring asked shape g threads s =
    and_then (among_checked image asked shape g threads) (λ _. and_then (passed_by (thread_by image ring asked shape g) threads s) (λ more. Ok (threads, more)))

group_same : (image : Image) (ring : RingBy) → TakesRings image ring → (asked : Asked) (shape : TaskShape) (g : ThreadGroup) (threads : List ℕ) →
    Same (group_by image ring asked shape g threads) (group_by image (ring_kept image) asked shape g threads)
group_same image ring rings asked shape g threads =
    reads_same (among_checked image asked shape g threads)
    (λ _ s. and_then (passed_by (thread_by image ring asked shape g) threads s) (λ more. Ok (threads, more)))
    (λ _ s. and_then (passed_by (thread_by image (ring_kept image) asked shape g) threads s) (λ more. Ok (threads, more)))
    (λ _. pass_with (passed_by (thread_by image ring asked shape g) threads) (passed_by (thread_by image (ring_kept image) asked shape g) threads) threads
    (passed_same (thread_by image ring asked shape g) (thread_by image (ring_kept image) asked shape g) (thread_same image ring rings asked shape g) threads))

leader_same : (image : Image) (ring : RingBy) → TakesRings image ring → (asked : Asked) (shape : TaskShape) (leader : ℕ) →
    Same (leader_by image ring asked shape leader) (leader_by image (ring_kept image) asked shape leader)
leader_same image ring rings asked shape leader =
    reads_same (group_of image asked shape leader) _ _
    (λ g. then_same (tasks_by ring asked shape (thread_head shape g) shape.thread_node) (tasks_by (ring_kept image) asked shape (thread_head shape g) shape.thread_node)
    (group_by image ring asked shape g) (group_by image (ring_kept image) asked shape g)
    (tasks_same_on image ring rings asked shape (thread_head shape g) shape.thread_node)
    (group_same image ring rings asked shape g))

gathered_same : (go kept : ℕ → By (List ℕ)) → ((l : ℕ) → Same (go l) (kept l)) → (threads ls : List ℕ) → Same (λ s. gathered_by go threads s ls) (λ s. gathered_by kept threads s ls)
unfolding gathered_by
gathered_same go kept each threads [] = done_same threads
gathered_same go kept each threads (l ∷ ls) =
    then_same (go l) (kept l) (λ more s. gathered_by go (threads ++ more) s ls) (λ more s. gathered_by kept (threads ++ more) s ls) (each l)
    (λ more. gathered_same go kept each (threads ++ more) ls)

tasks_same : (image : Image) (ring : RingBy) → TakesRings image ring → (shape : TaskShape) (asked : Asked) → Same (tasks_all_by image ring shape asked) (tasks_all_by image (ring_kept image) shape asked)
tasks_same image ring rings shape asked =
    then_same (tasks_by ring asked shape (at_offset asked.start shape.tasks) shape.tasks) (tasks_by (ring_kept image) asked shape (at_offset asked.start shape.tasks) shape.tasks)
    (λ leaders s. gathered_by (leader_by image ring asked shape) [] s (asked.start ∷ leaders)) (λ leaders s. gathered_by (leader_by image (ring_kept image) asked shape) [] s (asked.start ∷ leaders))
    (tasks_same_on image ring rings asked shape (at_offset asked.start shape.tasks) shape.tasks)
    (λ leaders. gathered_same (leader_by image ring asked shape) (leader_by image (ring_kept image) asked shape) (leader_same image ring rings asked shape) [] (asked.start ∷ leaders))

pub task_lists_are_taken : TaskListsAreTaken
task_lists_are_taken image ring rings shape asked lists =
    let same = tasks_same image ring rings shape asked in
    let walked = tasks_agree image (ring_kept image) shape asked [] (rings_kept image) in (
      (λ tasks e. let u = used_up (tasks_all_by image ring shape asked) (tasks_all_by image (ring_kept image) shape asked) lists tasks same e in (u.0, sym walked ∙ u.1)),
      (λ e. let m = made_up (tasks_all_by image ring shape asked) (tasks_all_by image (ring_kept image) shape asked) lists same e in (m.0, m.1, sym walked ∙ m.2)),
    )
