-- What an object says it is: a task, or a slab cache. Source: the kernel's include/linux/sched.h, `pid` and `comm` of `struct task_struct`, and
-- kernel/fork.c, fork_init, which names the cache of tasks "task_struct"; include/linux/slub_def.h (from 6.8 on mm/slab.h), `name` of
-- `struct kmem_cache`, and mm/slub.c, kmem_cache_init, which names the cache of caches "kmem_cache".
use Rattle.std.specs.Prelude.{ℕ, bytes_eq, if◌then◌else◌, List, [], ◌++◌, codes, decimal, map, Option, Some, None, Result, Ok, Err}
use Rattle.kc_memory.specs.declared.words.VWord.{VWord}
use Rattle.kc_memory.specs.Image.{Image}
use Rattle.kc_memory.specs.Stopped.{Stopped}
use Rattle.kc_memory.specs.Translation.{vword}
use Rattle.kc_text.specs.Text.{visible}
use Rattle.kc_found.specs.Nodes.{at_offset}
use Rattle.kc_owner.specs.declared.area.shape.StackShape.{StackShape}
use Rattle.kc_owner.specs.Known.{known}
use Rattle.kc_owner.specs.Texts.{text}
use Rattle.kc_sight.specs.Sights.{word_start}
use Rattle.kc_told.specs.declared.named.Named.{Named}
use Rattle.kc_told.specs.declared.named.Named.TheVariants.{Cache, Task}
use Rattle.kc_told.specs.declared.told.PageWords.{PageWords}
use Rattle.kc_told.specs.Inside.{InSlab, Kept, is_free}

-- the text at an address, of so many bytes at most, where its first word can be read
abbrev pub text_by : Image → ℕ → ℕ → Result VWord Stopped → Option (List ℕ)
text_by image most at (Ok w) = Some (text image most at)
text_by image most at (Err s) = None

abbrev pub text_at : Image → ℕ → ℕ → Option (List ℕ)
text_at image most at = text_by image most at (vword image (word_start at))

-- a task's number and its name
abbrev pub task_with : ℕ → Option (List ℕ) → Option Named
task_with pid None = None
task_with pid (Some comm) = Some (Task (record { pid = pid; comm = comm }))

abbrev pub task_by : Image → StackShape → ℕ → Option ℕ → Option Named
task_by image shape at None = None
task_by image shape at (Some pid) = task_with pid (text_at image shape.comm.count (at_offset at shape.comm.byte))

abbrev pub task_at : Image → Option StackShape → ℕ → Option Named
task_at image None at = None
task_at image (Some shape) at = task_by image shape at (known image at (Some shape.tasks.pid))

-- a slab cache's name, of 64 bytes at most
abbrev pub cache_with : Option (List ℕ) → Option Named
cache_with None = None
cache_with (Some name) = Some (Cache name)

abbrev pub cache_by : Image → Option ℕ → Option Named
cache_by image None = None
cache_by image (Some name) = cache_with (text_at image 64 name)

abbrev pub cache_at : Image → Option PageWords → ℕ → Option Named
cache_at image None at = None
cache_at image (Some words) at = cache_by image (known image at words.objects.name)

-- what an object at an address says, by its cache's name
abbrev pub named_by : Image → Option PageWords → Option StackShape → List ℕ → ℕ → Option Named
named_by image words stacks cache at =
    if bytes_eq cache (codes "task_struct") then task_at image stacks at
    else (if bytes_eq cache (codes "kmem_cache") then cache_at image words at else None)

-- one that is free says nothing
abbrev pub named_in : Image → Option PageWords → Option StackShape → Kept → Option InSlab → Option Named
named_in image words stacks kept None = None
named_in image words stacks kept (Some o) =
    if is_free o.slab.free kept then None else named_by image words stacks o.slab.cache.name o.object.first

abbrev pub named_line : Option Named → List ℕ
named_line None = []
named_line (Some (Task t)) = codes "task " ++ decimal t.pid ++ codes " " ++ map visible t.comm ++ codes "\n"
named_line (Some (Cache name)) = codes "names " ++ map visible name ++ codes "\n"
