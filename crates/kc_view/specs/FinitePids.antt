-- What process ids have to meet, to be those of a table. Source: the kernel's include/linux/idr.h, include/linux/pid.h, and
-- kernel/pid.c.
use Rattle.std.specs.Prelude.{◌≡◌, ℕ, List}
use Rattle.std.specs.List.{AllByRecursion}
use Rattle.kc_memory.specs.Image.{Image}
use Rattle.kc_memory.specs.Translation.{vword}
use Rattle.kc_view.specs.declared.pids.PidShape.{PidShape}
use Rattle.kc_view.specs.Fields.{FieldIs}
use Rattle.kc_view.specs.TaskLists.{task_of}
use Rattle.kc_found.specs.declared.xarrays.XaItem.{XaItem}
use Rattle.kc_found.specs.FiniteLists.{HChain}
use Rattle.kc_found.specs.FiniteXarrays.{XArray}
use Rattle.kc_found.specs.Nodes.{at_offset}
use Rattle.kc_found.specs.XaSites.{entries, xa_course}

-- A process id: its number is its index in the table, these nodes are on its chain, and each task that has one of them
-- names it.
pub record IsPid (image : Image) (shape : PidShape) (item : XaItem) : Type 0 where
  pub number : FieldIs image item.entry shape.nr item.index
  pub nodes : List ℕ
  pub chain : HChain (vword image) shape.chain (at_offset item.entry shape.tasks) nodes
  pub tasks : AllByRecursion (λ node. FieldIs image (task_of shape.links node) shape.thread_pid item.entry) nodes

-- The table: the xarray in it has the process ids as its pointers, by rising index. Which audit asks doesn't bear on it.
pub record Pids (image : Image) (shape : PidShape) (start : ℕ) (pids : List ℕ) : Type 0 where
  pub items : List XaItem
  pub table : XArray (xa_course image shape.xa (record { audit = 0; start = at_offset start shape.idr_rt })) items
  pub are : entries items ≡ pids
  pub each : AllByRecursion (IsPid image shape) items

-- no process ids make it up
abbrev pub NoPids : Image → PidShape → ℕ → Type 0
NoPids image shape start = (pids : List ℕ) → Pids image shape start pids → ⊥
