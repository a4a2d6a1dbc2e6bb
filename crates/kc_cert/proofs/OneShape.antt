-- No structure has two shapes.
use Rattle.std.proofs.Common.{◌≡◌, ℕ, Bool, true, List, [], ◌∷◌, refl, sym, ◌∙◌, ap}
use Rattle.std.specs.Prelude.{Result, Ok, Err}
use Rattle.kc_found.specs.declared.asked.Asked.{Asked}
use Rattle.kc_found.specs.Violations.{Violation}
use Rattle.kc_kinds.specs.declared.kind.Kind.TheVariants.{Ring, Hlist, Rbtree, Xarray, Slub, Tasks, Pids}
use Rattle.kc_kinds.specs.Structures.{nodes_of}
use Rattle.kc_xa.specs.Listed.Laws.{XarraysPassOnce}
use Rattle.kc_xa.specs.Listed.Entries.{is_xarray}
use Rattle.kc_by_lists.specs.Laws.{CacheListsAreTested, TaskListsAreTested}
use Rattle.kc_by_lists.specs.Pids.Laws.{PidListsAreOne}
use Rattle.kc_rb.specs.Listed.Laws.{TreesPassOnce}
use Rattle.kc_rb.specs.Listed.Trees.{is_tree}
use Rattle.kc_steps.specs.CachesBy.{cache_lists}
use Rattle.kc_steps.specs.TasksBy.{task_lists}
use Rattle.kc_cert.specs.Fits.Walked.{ShapesAreWalked}
use Rattle.kc_cert.specs.Fits.Shapes.{is_shape, one_list}
use Rattle.kc_cert.specs.Single.{ShapesAreOne}

-- what came, where something did
abbrev value_or : {A : Type 0} → A → Result A Violation → A
value_or x (Ok y) = y
value_or x (Err e) = x

ok_is : {A : Type 0} (r : Result A Violation) (x y : A) → r ≡ Ok x → r ≡ Ok y → x ≡ y
ok_is {A} r x y e f = ap (λ (s : Result A Violation). value_or x s) (sym e ∙ f)

-- a single list that passes
one_is : (test : List ℕ → Bool) (lists : List (List ℕ)) → one_list test lists ≡ true → (ns : List ℕ) × (lists ≡ ns ∷ []) × (test ns ≡ true)
one_is test [] e = absurd (cc)
one_is test (ns ∷ []) e = (ns, refl, e)
one_is test (ns ∷ more ∷ others) e = absurd (cc)

-- two of them, where no two lists pass
two_are : (test : List ℕ → Bool) (lists others : List (List ℕ)) → one_list test lists ≡ true → one_list test others ≡ true → ((ns ms : List ℕ) → test ns ≡ true → test ms ≡ true → ns ≡ ms) → lists ≡ others
two_are test lists others e f once =
    let a = one_is test lists e in
    let b = one_is test others f in
    a.1 ∙ ap (λ ns. ns ∷ []) (once a.0 b.0 a.2 b.2) ∙ sym b.1

pub shapes_once : ShapesAreWalked → TreesPassOnce → XarraysPassOnce → CacheListsAreTested → TaskListsAreTested → PidListsAreOne → ShapesAreOne
unfolding is_shape
shapes_once walked trees xarrays caches tasks pids i (Ring shape) n start lists others e f =
    two_are _ lists others e f (λ ns ms x y. ok_is (nodes_of i (Ring shape) n start) ns ms (walked i (Ring shape) n start (ns ∷ []) x) (walked i (Ring shape) n start (ms ∷ []) y))
shapes_once walked trees xarrays caches tasks pids i (Hlist shape) n start lists others e f =
    two_are _ lists others e f (λ ns ms x y. ok_is (nodes_of i (Hlist shape) n start) ns ms (walked i (Hlist shape) n start (ns ∷ []) x) (walked i (Hlist shape) n start (ms ∷ []) y))
shapes_once walked trees xarrays caches tasks pids i (Rbtree shape) n start lists others e f = two_are (is_tree i shape start) lists others e f (trees i shape start)
shapes_once walked trees xarrays caches tasks pids i (Xarray shape) n start lists others e f = two_are (is_xarray i shape start) lists others e f (xarrays i shape start)
shapes_once walked trees xarrays caches tasks pids i (Slub shape) n start lists others e f =
    let asked : Asked = record { audit = n; start = start } in
    ok_is (cache_lists i shape asked) lists others ((caches i shape asked lists).0 e) ((caches i shape asked others).0 f)
shapes_once walked trees xarrays caches tasks pids i (Tasks shape) n start lists others e f =
    let asked : Asked = record { audit = n; start = start } in
    ok_is (task_lists i shape asked) lists others ((tasks i shape asked lists).0 e) ((tasks i shape asked others).0 f)
shapes_once walked trees xarrays caches tasks pids i (Pids shape) n start lists others e f = pids i shape (record { audit = n; start = start }) lists others e f
