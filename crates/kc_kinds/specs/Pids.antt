-- Where the fields of the table of process ids stand. Source: the kernel's include/linux/idr.h, `struct idr`,
-- include/linux/pid.h, `struct pid` and `struct upid`, and include/linux/sched.h, `struct task_struct`.
use Rattle.std.specs.Prelude.{ℕ, ◌+◌, ◌*◌, true, codes, is_some, Option, Some, option_map}
use Rattle.kc_btf.specs.Btf.{Types}
use Rattle.kc_layout.specs.declared.place.Field.{Field}
use Rattle.kc_layout.specs.Find.{find}
use Rattle.kc_view.specs.declared.pids.PidShape.{PidShape}
use Rattle.kc_kinds.specs.declared.pids.PidFields.{PidFields}
use Rattle.kc_kinds.specs.declared.pids.TaskFields.{TaskFields}
use Rattle.kc_kinds.specs.declared.row.Row.{Row}
use Rattle.kc_kinds.specs.Hlist.{hlist_words}
use Rattle.kc_kinds.specs.Members.{◌>>=◌, array_in, bits_from, inner_in, scalar_in, struct_named, wide_in}
use Rattle.kc_kinds.specs.Xarray.{xarray_words}

-- what the table of process ids needs of a kernel
abbrev pub pid_row : Types → Row
pid_row types = record {
  head = struct_named types (codes "idr");
  node = struct_named types (codes "xa_node");
  element = struct_named types (codes "pid");
  named = is_some (find types (codes "idr"));
  clear = true;
}

-- a field so many bytes on, where it stands before bit 2^36
abbrev pub moved : Field → ℕ → Option Field
moved field byte =
    option_map (λ bits. record { hops = field.hops; bits = bits; ty = field.ty })
    (bits_from (record { bit = field.bits.bit + 8 * byte; width = field.bits.width; signed = field.bits.signed }))

-- The fields of a process id: the first of its heads of tasks, and the number in the first of its namespaces, which needs no
-- array of more than none.
unfoldable pub pid_fields : Types → Option ℕ → Option ℕ → Option ℕ → Option PidFields
pid_fields types head upid pid = do
  tasks ← array_in types head pid (codes "tasks")
  numbers ← array_in types upid pid (codes "numbers")
  number ← scalar_in types upid (codes "nr")
  nr ← moved number numbers
  Some (record { nr = nr; tasks = tasks })

-- what a task says of its process id: the first of its nodes, and the address
unfoldable pub task_fields : Types → Option ℕ → Option ℕ → Option TaskFields
task_fields types node task = do
  links ← array_in types node task (codes "pid_links")
  thread_pid ← wide_in types task (codes "thread_pid")
  Some (record { links = links; thread_pid = thread_pid })

-- where the fields of the table of process ids stand, in a kernel that has them
unfoldable pub pid_words : Types → Row → Option PidShape
pid_words types needs = do
  xa ← xarray_words types (struct_named types (codes "xarray")) needs.node true
  idr_rt ← inner_in types (struct_named types (codes "xarray")) needs.head (codes "idr_rt")
  chain ← hlist_words types (struct_named types (codes "hlist_head")) (struct_named types (codes "hlist_node"))
  pid ← pid_fields types (struct_named types (codes "hlist_head")) (struct_named types (codes "upid")) needs.element
  task ← task_fields types (struct_named types (codes "hlist_node")) (struct_named types (codes "task_struct"))
  Some (record {
    xa = xa;
    idr_rt = idr_rt;
    nr = pid.nr;
    tasks = pid.tasks;
    chain = chain;
    links = task.links;
    thread_pid = task.thread_pid;
  })
