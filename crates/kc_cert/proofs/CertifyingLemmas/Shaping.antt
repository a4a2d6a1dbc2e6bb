-- The shape of a walk's list.
use Rattle.std.proofs.Common.{◌≡◌, ℕ, List, [], ◌∷◌, Option, Some, None, sym, ◌∙◌, ap, subst}
use Rattle.std.specs.Prelude.{Result, Ok, Err, IfSome}
use Rattle.kc_memory.specs.Image.{Image}
use Rattle.kc_found.specs.declared.found.WalkStop.{WalkStop}
use Rattle.kc_found.specs.declared.found.WalkStop.TheVariants as ends
use Rattle.kc_found.specs.declared.shapes.HShape.{HShape}
use Rattle.kc_found.specs.declared.shapes.ListShape.{ListShape}
use Rattle.kc_found.specs.declared.shapes.RbShape.{RbShape}
use Rattle.kc_found.specs.HashChains.{hash_walk}
use Rattle.kc_found.specs.RbFinite.{RbTree}
use Rattle.kc_found.specs.RbTrees.{reads_of, tree_walk}
use Rattle.kc_found.specs.Rings.{ring_walk}
use Rattle.kc_found.specs.Walks.{CountsWalkFaults, IsNamed, WalksAs}
use Rattle.kc_found.specs.Violations.{Violation}
use Rattle.kc_list.specs.Laws.{HashChainsAreWalked, RingsAreWalked}
use Rattle.kc_kinds.specs.declared.kind.Kind.{Kind}
use Rattle.kc_kinds.specs.declared.kind.Kind.TheVariants.{Ring, Hlist, Rbtree, Xarray, Slub, Tasks, Pids}
use Rattle.kc_kinds.specs.Structures.{nodes_of}
use Rattle.kc_found.specs.declared.test.TestStop.{TestStop}
use Rattle.kc_found.specs.declared.test.TestStop.TheVariants as halts
use Rattle.kc_rb.specs.Listed.Collected.{CollectsTree}
use Rattle.kc_list.specs.ListedLaws.{HashChainsAreTested, RingsAreTested}
use Rattle.kc_cert.specs.Certifying.Certified.{IsSingle, ShapesAs, alone}
use Rattle.kc_cert.specs.Fits.Shapes.{asked_by, is_shape}
use Rattle.kc_steps.specs.CachesBy.{cache_by}
use Rattle.kc_steps.specs.Chains.{Came, Lists, free_kept, ring_kept}
use Rattle.kc_steps.specs.Laws.{CachesAgree, ChainsAreKept, TasksAgree}
use Rattle.kc_steps.specs.TasksBy.{tasks_all_by}
use Rattle.kc_xa.specs.Listed.Answers.{ListsAs}
use Rattle.kc_xa.specs.Listed.Entries.{is_xarray}
use Rattle.kc_xa.specs.Listed.Laws.{WalksPass}
use Rattle.kc_found.specs.declared.xarrays.XaItem.{XaItem}
use Rattle.kc_found.specs.Trials.{and_then}
use Rattle.kc_found.specs.XaLayouts.{XaLayout}
use Rattle.kc_found.specs.XaSites.{entries_in, xa_judged}
use Rattle.kc_by_lists.specs.Laws.{CacheListsAreKept, TaskListsAreKept}
use Rattle.kc_by_lists.specs.Pids.Tests.{ListsPids}
use Rattle.kc_view.specs.declared.pids.PidShape.{PidShape}
use Rattle.kc_view.specs.declared.slub.SlubShape.{SlubShape}
use Rattle.kc_view.specs.declared.tasks.TaskShape.{TaskShape}

-- a single list has the clauses of its walk
pub single_shaped : (kind : Kind) (n start : ℕ) (image : Option Image) (w : Result (List ℕ) WalkStop) (r : Result (List (List ℕ)) WalkStop) → IsSingle w r → ShapesAs kind n start image (alone w) → ShapesAs kind n start image r
single_shaped kind n start None w r is e = tt
single_shaped kind n start (Some i) (Ok ns) (Ok lists) is e = ap (is_shape i kind n start) is ∙ e
single_shaped kind n start (Some i) (Ok ns) (Err stop) is e = rw is tt
single_shaped kind n start (Some i) (Err stop) r is e = rw is e

pub single_named : (w : Result (List ℕ) WalkStop) (r : Result (List (List ℕ)) WalkStop) (n start : ℕ) → IsSingle w r → IsNamed w n start → IsNamed r n start
single_named (Ok ns) (Ok lists) n start is e = tt
single_named (Ok ns) (Err stop) n start is e = rw is tt
single_named (Err stop) r n start is e = rw is e

pub single_counts : (w : Result (List ℕ) WalkStop) (r : Result (List (List ℕ)) WalkStop) (before after : ℕ) → IsSingle w r → CountsWalkFaults w before after → CountsWalkFaults r before after
single_counts (Ok ns) (Ok lists) before after is e = e
single_counts (Ok ns) (Err stop) before after is e = rw is e
single_counts (Err stop) r before after is e = rw is e

-- the list of a walk of a ring is its shape, and so is that of a hash chain
pub ring_shaped : RingsAreTested → RingsAreWalked → (image : Option Image) (shape : ListShape) (n start : ℕ) (w : Result (List ℕ) WalkStop) → WalksAs (λ (ns : List ℕ). ns) (λ i. ring_walk i shape n start) image w → ShapesAs (Ring shape) n start image (alone w)
unfolding is_shape nodes_of
ring_shaped test walks None shape n start w e = tt
ring_shaped test walks (Some i) shape n start (Ok ns) e = (test i shape start ns).0 ((walks i shape n start ns).1 e)
ring_shaped test walks (Some i) shape n start (Err (ends.Broken v)) e = e
ring_shaped test walks (Some i) shape n start (Err ends.Fault) e = tt
ring_shaped test walks (Some i) shape n start (Err ends.NoMemory) e = tt

pub chain_shaped : HashChainsAreTested → HashChainsAreWalked → (image : Option Image) (shape : HShape) (n start : ℕ) (w : Result (List ℕ) WalkStop) → WalksAs (λ (ns : List ℕ). ns) (λ i. hash_walk i shape n start) image w → ShapesAs (Hlist shape) n start image (alone w)
unfolding is_shape nodes_of
chain_shaped test walks None shape n start w e = tt
chain_shaped test walks (Some i) shape n start (Ok ns) e = (test i shape start ns).0 ((walks i shape n start ns).1 e)
chain_shaped test walks (Some i) shape n start (Err (ends.Broken v)) e = e
chain_shaped test walks (Some i) shape n start (Err ends.Fault) e = tt
chain_shaped test walks (Some i) shape n start (Err ends.NoMemory) e = tt

-- a tree's numbers, after it was walked
pub tree_stops : (image : Option Image) (shape : RbShape) (n start : ℕ) (stop : WalkStop) → WalksAs (λ (ns : List ℕ). ns) (λ i. tree_walk i shape n start) image (Err stop) → ShapesAs (Rbtree shape) n start image (Err stop)
unfolding nodes_of
tree_stops None shape n start stop e = tt
tree_stops (Some i) shape n start (ends.Broken v) e = e
tree_stops (Some i) shape n start ends.Fault e = tt
tree_stops (Some i) shape n start ends.NoMemory e = tt

pub tree_shaped : (image : Option Image) (shape : RbShape) (n start : ℕ) (nodes ns : List ℕ) → IfSome image (λ i. RbTree (reads_of i) shape start nodes) → CollectsTree shape start nodes image (Ok ns) → ShapesAs (Rbtree shape) n start image (Ok (ns ∷ []))
unfolding is_shape
tree_shaped None shape n start nodes ns t e = tt
tree_shaped (Some i) shape n start nodes ns t e = e t

gone_by : (image : Option Image) (shape : RbShape) (n start : ℕ) (nodes : List ℕ) (stop : WalkStop) → IfSome image (λ i. RbTree (reads_of i) shape start nodes) → CollectsTree shape start nodes image (Err halts.Unfit) → ShapesAs (Rbtree shape) n start image (Err stop)
gone_by None shape n start nodes stop t e = tt
gone_by (Some i) shape n start nodes stop t e = absurd (e t)

pub tree_gone : (image now : Option Image) (shape : RbShape) (n start : ℕ) (nodes : List ℕ) (halt : TestStop) (stop : WalkStop) → now ≡ image → halt ≡ halts.Unfit → IfSome image (λ i. RbTree (reads_of i) shape start nodes) → CollectsTree shape start nodes now (Err halt) →
    ShapesAs (Rbtree shape) n start image (Err stop)
tree_gone image now shape n start nodes halt stop same is t e =
    gone_by image shape n start nodes stop t (subst (λ m. CollectsTree shape start nodes m (Err halts.Unfit)) same (subst (λ h. CollectsTree shape start nodes now (Err h)) is e))

-- an xarray's entries
pub array_stops : (view : List XaItem → List XaItem) (image : Option Image) (shape : XaLayout) (n start : ℕ) (stop : WalkStop) → WalksAs view (λ i. xa_judged i shape n start) image (Err stop) → ShapesAs (Xarray shape) n start image (Err stop)
unfolding nodes_of
array_stops view None shape n start stop e = tt
array_stops view (Some i) shape n start (ends.Broken v) e = ap entries_in e
array_stops view (Some i) shape n start ends.Fault e = tt
array_stops view (Some i) shape n start ends.NoMemory e = tt

pub array_shaped : (image : Option Image) (shape : XaLayout) (n start : ℕ) (ns : List ℕ) → ListsAs (λ i ms. is_xarray i shape start ms) image (Ok ns) → ShapesAs (Xarray shape) n start image (Ok (ns ∷ []))
unfolding is_shape
array_shaped None shape n start ns e = tt
array_shaped (Some i) shape n start ns e = e

none_listed : WalksPass → (image : Option Image) (shape : XaLayout) (n start : ℕ) (items : List XaItem) (stop : WalkStop) → WalksAs (λ (is : List XaItem). is) (λ i. xa_judged i shape n start) image (Ok items) → ListsAs (λ i ms. is_xarray i shape start ms) image (Err halts.Unfit) → ShapesAs (Xarray shape) n start image (Err stop)
none_listed law None shape n start items stop w e = tt
none_listed law (Some i) shape n start items stop w e =
    let p = law i shape n start items w in
    let none : ⊥ = let no = e p.0 in let yes = p.1 in cc in absurd none

pub array_gone : WalksPass → (image now : Option Image) (shape : XaLayout) (n start : ℕ) (items : List XaItem) (halt : TestStop) (stop : WalkStop) → now ≡ image → halt ≡ halts.Unfit → ListsAs (λ i ms. is_xarray i shape start ms) image (Err halt) → WalksAs (λ (is : List XaItem). is) (λ i. xa_judged i shape n start) now (Ok items) →
    ShapesAs (Xarray shape) n start image (Err stop)
array_gone law image now shape n start items halt stop same is e w =
    none_listed law image shape n start items stop (subst (λ m. WalksAs (λ (is : List XaItem). is) (λ i. xa_judged i shape n start) m (Ok items)) same w) (subst (λ h. ListsAs (λ i ms. is_xarray i shape start ms) image (Err h)) is e)

-- the lists of a slab cache, and of tasks
alone_ends : {A : Type 0} (r : Came A) (v : Violation) → r ≡ Err v → and_then r (λ p. Ok p.0) ≡ Err v
alone_ends r v e = ap (λ x. and_then x (λ p. Ok p.0)) e

pub cache_shaped : CacheListsAreKept → (image : Option Image) (shape : SlubShape) (n start : ℕ) (slabs : List ℕ) (lists : Lists) → WalksAs (λ (w : List ℕ). (w, lists)) (λ i. cache_by i (ring_kept i) (free_kept i) shape (asked_by n start) []) image (Ok slabs) → ShapesAs (Slub shape) n start image (Ok lists)
unfolding is_shape
cache_shaped law None shape n start slabs lists e = tt
cache_shaped law (Some i) shape n start slabs lists e = (law i shape n n start slabs lists e).0

pub cache_stops : ChainsAreKept → CachesAgree → (image : Option Image) (shape : SlubShape) (n start : ℕ) (lists : Lists) (stop : WalkStop) → WalksAs (λ (w : List ℕ). (w, lists)) (λ i. cache_by i (ring_kept i) (free_kept i) shape (asked_by n start) []) image (Err stop) → ShapesAs (Slub shape) n start image (Err stop)
unfolding nodes_of
cache_stops kept agree None shape n start lists stop e = tt
cache_stops kept agree (Some i) shape n start lists (ends.Broken v) e = sym (agree i (ring_kept i) (free_kept i) shape (asked_by n start) [] (kept i).0 (kept i).1) ∙ alone_ends (cache_by i (ring_kept i) (free_kept i) shape (asked_by n start) []) v e
cache_stops kept agree (Some i) shape n start lists ends.Fault e = tt
cache_stops kept agree (Some i) shape n start lists ends.NoMemory e = tt

pub tasks_shaped : TaskListsAreKept → (image : Option Image) (shape : TaskShape) (n start : ℕ) (threads : List ℕ) (lists : Lists) → WalksAs (λ (w : List ℕ). (w, lists)) (λ i. tasks_all_by i (ring_kept i) shape (asked_by n start) []) image (Ok threads) → ShapesAs (Tasks shape) n start image (Ok lists)
unfolding is_shape
tasks_shaped law None shape n start threads lists e = tt
tasks_shaped law (Some i) shape n start threads lists e = (law i shape n n start threads lists e).0

pub tasks_stop : ChainsAreKept → TasksAgree → (image : Option Image) (shape : TaskShape) (n start : ℕ) (lists : Lists) (stop : WalkStop) → WalksAs (λ (w : List ℕ). (w, lists)) (λ i. tasks_all_by i (ring_kept i) shape (asked_by n start) []) image (Err stop) → ShapesAs (Tasks shape) n start image (Err stop)
unfolding nodes_of
tasks_stop kept agree None shape n start lists stop e = tt
tasks_stop kept agree (Some i) shape n start lists (ends.Broken v) e = sym (agree i (ring_kept i) shape (asked_by n start) [] (kept i).0) ∙ alone_ends (tasks_all_by i (ring_kept i) shape (asked_by n start) []) v e
tasks_stop kept agree (Some i) shape n start lists ends.Fault e = tt
tasks_stop kept agree (Some i) shape n start lists ends.NoMemory e = tt

-- the lists of a table of process ids
pub pids_shaped : (image : Option Image) (shape : PidShape) (n start : ℕ) (r : Result Lists WalkStop) → ListsPids shape (asked_by n start) image r → ShapesAs (Pids shape) n start image r
unfolding is_shape nodes_of
pids_shaped None shape n start r e = tt
pids_shaped (Some i) shape n start (Ok lists) e = e
pids_shaped (Some i) shape n start (Err (ends.Broken v)) e = e
pids_shaped (Some i) shape n start (Err ends.Fault) e = tt
pids_shaped (Some i) shape n start (Err ends.NoMemory) e = tt
