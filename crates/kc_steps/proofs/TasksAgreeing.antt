-- The walk of tasks by a way to come by rings that walks them is their walk.
use Rattle.std.proofs.Common.{◌≡◌, ℕ, List, [], ◌∷◌, ◌++◌, refl, ◌∙◌, sym, ap, append_assoc, append-nil}
use Rattle.std.specs.Prelude.{Result, Ok, Err, map}
use Rattle.kc_memory.specs.declared.rule.Rule.TheVariants.{T5}
use Rattle.kc_memory.specs.Image.{Image}
use Rattle.kc_view.specs.declared.tasks.TaskShape.{TaskShape}
use Rattle.kc_view.specs.declared.tasks.ThreadGroup.{ThreadGroup}
use Rattle.kc_view.specs.Fields.{holds, started_at}
use Rattle.kc_view.specs.TaskLists.{all_pass, among_checked, children_checked, gathered, group_of, leader_checked, shared_checked, stack_checked, task_of, tasks_on, thread_checked, thread_head, threads_checked}
use Rattle.kc_found.specs.declared.asked.Asked.{Asked}
use Rattle.kc_found.specs.Nodes.{at_offset}
use Rattle.kc_found.specs.Rings.{ring_walk}
use Rattle.kc_found.specs.Trials.{and_then}
use Rattle.kc_found.specs.Violations.{Violation}
use Rattle.kc_steps.specs.Chains.{Came, Lists, RingBy, WalksRings, alone, ring_kept}
use Rattle.kc_steps.specs.Laws.{TaskListsAreWalked, TasksAgree}
use Rattle.kc_steps.specs.TasksBy.{children_by, gathered_by, leader_by, passed_by, tasks_all_by, tasks_by, thread_by, threads_by}
use Rattle.kc_steps.proofs.Agreeing.{all_agree, both_pass, kept_passing, lists_with, passes, passing_alone, reads_alone, reads_passes, rest_of, rings_kept, then_alone, then_passes}

tasks_agree_on : (image : Image) (ring : RingBy) → WalksRings image ring → (asked : Asked) (shape : TaskShape) (head offset : ℕ) (lists : Lists) →
    alone (tasks_by ring asked shape head offset lists) ≡ tasks_on image asked shape head offset
tasks_agree_on image ring rings asked shape head offset lists =
    then_alone (ring asked shape.list head lists) (λ r. Ok (map (task_of offset) r.0, r.1)) (started_at asked.start (ring_walk image shape.list asked.audit head)) (λ ns. Ok (map (task_of offset) ns)) (rings asked shape.list head lists) (λ ns more. refl)

children_agree : (image : Image) (ring : RingBy) → WalksRings image ring → (asked : Asked) (shape : TaskShape) (owner : ℕ) (lists : Lists) →
    passes (children_by image ring asked shape owner lists) ≡ children_checked image asked shape owner
children_agree image ring rings asked shape owner lists =
    then_passes (tasks_by ring asked shape (at_offset owner shape.children) shape.sibling lists) _ (tasks_on image asked shape (at_offset owner shape.children) shape.sibling) _
    (tasks_agree_on image ring rings asked shape (at_offset owner shape.children) shape.sibling lists)
    (λ children more. kept_passing (all_pass (λ child. holds image asked T5 child shape.real_parent owner) children) more)

thread_agrees : (image : Image) (ring : RingBy) → WalksRings image ring → (asked : Asked) (shape : TaskShape) (g : ThreadGroup) (thread : ℕ) (lists : Lists) →
    passes (thread_by image ring asked shape g thread lists) ≡ thread_checked image asked shape g thread
thread_agrees image ring rings asked shape g thread lists =
    reads_passes (shared_checked image asked shape g thread) _ _
    (λ _. both_pass (children_by image ring asked shape thread lists) _ (children_checked image asked shape thread) (stack_checked image asked shape thread) (children_agree image ring rings asked shape thread lists)
    (λ more. kept_passing (stack_checked image asked shape thread) more))

threads_agree : (image : Image) (ring : RingBy) → WalksRings image ring → (asked : Asked) (shape : TaskShape) (g : ThreadGroup) (lists : Lists) →
    alone (threads_by image ring asked shape g lists) ≡ threads_checked image asked shape g
threads_agree image ring rings asked shape g lists =
    then_alone (tasks_by ring asked shape (thread_head shape g) shape.thread_node lists) _ (tasks_on image asked shape (thread_head shape g) shape.thread_node) _
    (tasks_agree_on image ring rings asked shape (thread_head shape g) shape.thread_node lists)
    (λ threads more. reads_alone (among_checked image asked shape g threads) _ _
    (λ _. passing_alone (passed_by (thread_by image ring asked shape g) threads more) (all_pass (thread_checked image asked shape g) threads) threads
    (all_agree (thread_by image ring asked shape g) (thread_checked image asked shape g) (thread_agrees image ring rings asked shape g) threads more)))

leader_agrees : (image : Image) (ring : RingBy) → WalksRings image ring → (asked : Asked) (shape : TaskShape) (leader : ℕ) (lists : Lists) →
    alone (leader_by image ring asked shape leader lists) ≡ leader_checked image asked shape leader
leader_agrees image ring rings asked shape leader lists =
    reads_alone (group_of image asked shape leader) _ _ (λ g. threads_agree image ring rings asked shape g lists)

-- what is gathered behind what is there
abbrev behind : List ℕ → Result (List ℕ) Violation → Result (List ℕ) Violation
behind threads r = and_then r (λ more. Ok (threads ++ more))

behind_both : (r s : Result (List ℕ) Violation) (threads : List ℕ) →
    and_then r (λ more. behind (threads ++ more) s) ≡ behind threads (and_then r (λ more. behind more s))
behind_both (Ok more) (Ok rest) threads = ap Ok (append_assoc threads more rest)
behind_both (Ok more) (Err v) threads = refl
behind_both (Err v) s threads = refl

gathered_agree : (go : ℕ → Lists → Came (List ℕ)) (plain : ℕ → Result (List ℕ) Violation) → ((l : ℕ) (lists : Lists) → alone (go l lists) ≡ plain l) → (threads : List ℕ) (lists : Lists) (ls : List ℕ) →
    alone (gathered_by go threads lists ls) ≡ behind threads (gathered plain ls)
unfolding gathered_by gathered
gathered_agree go plain each threads lists [] = ap Ok (sym (append-nil threads))
gathered_agree go plain each threads lists (l ∷ ls) =
    then_alone (go l lists) _ (plain l) (λ more. behind (threads ++ more) (gathered plain ls)) (each l lists)
    (λ more rest. gathered_agree go plain each (threads ++ more) rest ls)
    ∙ behind_both (plain l) (gathered plain ls) threads

behind_none : (r : Result (List ℕ) Violation) → behind [] r ≡ r
behind_none (Ok more) = refl
behind_none (Err v) = refl

pub tasks_agree : TasksAgree
tasks_agree image ring shape asked lists rings =
    then_alone (tasks_by ring asked shape (at_offset asked.start shape.tasks) shape.tasks lists) _ (tasks_on image asked shape (at_offset asked.start shape.tasks) shape.tasks) _
    (tasks_agree_on image ring rings asked shape (at_offset asked.start shape.tasks) shape.tasks lists)
    (λ leaders more. gathered_agree (leader_by image ring asked shape) (leader_checked image asked shape) (leader_agrees image ring rings asked shape) [] more (asked.start ∷ leaders)
    ∙ behind_none (gathered (leader_checked image asked shape) (asked.start ∷ leaders)))

pub task_lists_are_walked : TaskListsAreWalked
task_lists_are_walked image shape asked =
    let same = tasks_agree image (ring_kept image) shape asked [] (rings_kept image) in (
      (λ lists e. let x = rest_of (tasks_all_by image (ring_kept image) shape asked []) lists e in (x.0, sym same ∙ x.1)),
      (λ tasks e. lists_with (tasks_all_by image (ring_kept image) shape asked []) tasks (same ∙ e)),
    )
