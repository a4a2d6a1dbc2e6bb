-- What the test of lists says of walks of process ids. The number of the audit that asks makes no difference.
use Rattle.std.specs.Prelude.{◌≡◌, ℕ, ◌≤◌, true, List, [], ◌∷◌, length, Ok}
use Rattle.kc_memory.specs.Image.{Image}
use Rattle.kc_memory.specs.Translation.{vword}
use Rattle.kc_view.specs.declared.pids.PidShape.{PidShape}
use Rattle.kc_view.specs.PidTables.{ids_in, pid_table}
use Rattle.kc_found.specs.declared.asked.Asked.{Asked}
use Rattle.kc_found.specs.declared.xarrays.XaItem.{XaItem}
use Rattle.kc_found.specs.Nodes.{at_offset}
use Rattle.kc_steps.specs.Chains.{Lists, hash_kept}
use Rattle.kc_steps.specs.Given.{hash_given}
use Rattle.kc_steps.specs.PidsBy.{pids_by}
use Rattle.kc_xa.specs.Listed.Entries.{is_xarray, items_in}
use Rattle.kc_by_lists.specs.Apart.{numbers}
use Rattle.kc_by_lists.specs.Laws.{asked_by}
use Rattle.kc_list.specs.Listed.{is_hash_chain}
use Rattle.kc_by_lists.specs.Pids.Tests.{are_pid_lists, pid_nodes}

-- where the first list is the entries of the table's xarray, a walk of its process ids that takes the others uses up just theirs
abbrev pub PidListsAreUsedUp : Type 0
PidListsAreUsedUp =
    (image : Image) (shape : PidShape) (asked : Asked) (ns : List ℕ) (rest : Lists)
    → is_xarray image shape.xa (at_offset asked.start shape.idr_rt) ns ≡ true
    → (pids_by image (hash_given (is_hash_chain (vword image))) shape asked (items_in image shape.xa (at_offset asked.start shape.idr_rt) ns) rest ≡ Ok [] → are_pid_lists image shape asked (ns ∷ rest) ≡ true)
    × (are_pid_lists image shape asked (ns ∷ rest) ≡ true → pids_by image (hash_given (is_hash_chain (vword image))) shape asked (items_in image shape.xa (at_offset asked.start shape.idr_rt) ns) rest ≡ Ok [])

-- the process ids of a table are what its lists give
abbrev pub PidListsGive : Type 0
PidListsGive =
    (image : Image) (shape : PidShape) (n m start : ℕ) (lists : Lists)
    → are_pid_lists image shape (asked_by n start) lists ≡ true → pid_table image shape (asked_by m start) ≡ Ok (pid_nodes lists)

-- and a table that is walked has such lists
abbrev pub PidsHaveLists : Type 0
PidsHaveLists =
    (image : Image) (shape : PidShape) (n m start : ℕ) (pids : List ℕ)
    → pid_table image shape (asked_by m start) ≡ Ok pids → (lists : Lists) × (are_pid_lists image shape (asked_by n start) lists ≡ true) × (pid_nodes lists ≡ pids)

-- which are the entries of its xarray, and those that a walk of its process ids keeps behind them
abbrev pub PidListsAreKept : Type 0
PidListsAreKept =
    (image : Image) (shape : PidShape) (n m start : ℕ) (items : List XaItem) (ns : List ℕ) (lists : Lists)
    → is_xarray image shape.xa (at_offset start shape.idr_rt) ns ≡ true → ids_in image (asked_by m start) shape ≡ Ok items
    → pids_by image (hash_kept image) shape (asked_by m start) items (ns ∷ []) ≡ Ok lists
    → are_pid_lists image shape (asked_by n start) lists ≡ true

-- no table has two such lists
abbrev pub PidListsAreOne : Type 0
PidListsAreOne =
    (image : Image) (shape : PidShape) (asked : Asked) (lists others : Lists)
    → are_pid_lists image shape asked lists ≡ true → are_pid_lists image shape asked others ≡ true → lists ≡ others

-- there are no more process ids than numbers in the lists
abbrev pub FewPidNodes : Type 0
FewPidNodes = (lists : Lists) → length (pid_nodes lists) ≤ numbers lists
