-- The free list that a processor keeps of its slab of a cache. Source: the kernel's mm/slub.c, `struct kmem_cache_cpu`: of the slab that a processor
-- owns, objects that it frees go to its own list, `freelist`, and those that others free to the slab's; none is in both. The order is this project's.
use Rattle.std.specs.Prelude.{◌≡◌, ℕ, nat_eq, not, if◌then◌else◌, List, [], ◌∷◌, length, Option, Some, None, Result, Ok, Err}
use Rattle.kc_memory.specs.declared.rule.Rule.TheVariants.{A, U1, U4}
use Rattle.kc_memory.specs.declared.space.Stop.{Stop}
use Rattle.kc_memory.specs.declared.space.Stop.TheVariants as stops
use Rattle.kc_memory.specs.Image.{Image}
use Rattle.kc_view.specs.declared.fields.FieldNumber.{FieldNumber}
use Rattle.kc_view.specs.declared.slub.SlabObjects.{SlabObjects}
use Rattle.kc_view.specs.declared.slub.SlubBases.{SlubBases}
use Rattle.kc_view.specs.declared.slub.SlubShape.{SlubShape}
use Rattle.kc_view.specs.Caches.{grid_of, is_descriptor}
use Rattle.kc_view.specs.Fields.{field_of, holds, unless, value_of}
use Rattle.kc_found.specs.declared.asked.Asked.{Asked}
use Rattle.kc_found.specs.declared.found.WalkStop.{WalkStop}
use Rattle.kc_found.specs.declared.found.WalkStop.TheVariants as ends
use Rattle.kc_found.specs.declared.free.Grid.{Grid}
use Rattle.kc_found.specs.FreeLists.{free_list}
use Rattle.kc_found.specs.Nodes.{at_offset, readable}
use Rattle.kc_found.specs.Taken.{is_taken, with_word}
use Rattle.kc_found.specs.Trials.{and_then as ◌>>=◌}
use Rattle.kc_found.specs.Violations.{Violation, breaks_field}
use Rattle.kc_owner.specs.Looked.{looked_at}
use Rattle.kc_slab_page.specs.Slabs.{counted, own_list}
use Rattle.kc_slab_scan.specs.declared.cpus.Cpu.{Cpu}
use Rattle.kc_slab_scan.specs.declared.cpu_list.CpuSeen.{CpuSeen}
use Rattle.kc_slab_scan.specs.declared.cpu_list.CpuSeen.TheVariants.{Unread, Empty, Whole, Broken}
use Rattle.kc_slab_scan.specs.declared.cpu_words.CpuShape.{CpuShape}

-- addresses taken, and more of them
abbrev pub taken_with : List ℕ → ℕ → List ℕ
taken_with taken x = if is_taken taken x then taken else with_word taken x

unfoldable pub taken_all : List ℕ → List ℕ → List ℕ
taken_all taken [] = taken
taken_all taken (x ∷ xs) = taken_all (taken_with taken x) xs

-- the first of some addresses that was taken before
unfoldable pub again : List ℕ → List ℕ → Option ℕ
again taken [] = None
again taken (x ∷ xs) = if is_taken taken x then Some x else again (with_word taken x) xs

-- how many objects a processor's list has, or A of the first one that the slab's own list has too, which its pointer to the first one shows
abbrev pub apart_or : Asked → FieldNumber → ℕ → Option ℕ → Result ℕ Violation
apart_or asked first many None = Ok many
apart_or asked first many (Some object) = Err (breaks_field asked A object first.number None)

abbrev pub lists_apart : Asked → FieldNumber → List ℕ → List ℕ → Result ℕ Violation
lists_apart asked first own theirs = apart_or asked first (length theirs) (again (taken_all [] own) theirs)

-- the slab's own list, whose violations are told of the slab
abbrev pub or_none : Result (List ℕ) Violation → List ℕ
or_none (Ok os) = os
or_none (Err v) = []

abbrev pub own_or_none : Image → SlubShape → Grid → ℕ → List ℕ
own_or_none image shape grid slab = or_none (own_list image shape grid slab)

-- over where the slab's objects lie
abbrev pub apart : Image → SlubShape → Grid → ℕ → Asked → FieldNumber → Result ℕ Violation
apart image shape grid slab asked first = do
  theirs ← free_list image grid first.number asked
  own ← Ok (own_or_none image shape grid slab)
  lists_apart asked first own theirs

-- the list of a slab that a processor names: U1 and U4 of the slab, U3 of its counts, and then the list
abbrev pub cpu_list : Image → SlubShape → SlubBases → SlabObjects → ℕ → ℕ → FieldNumber → Asked → FieldNumber → Result ℕ Violation
cpu_list image shape b o cache slab led asked first = do
  _ ← holds image (looked_at slab) U1 slab shape.slab_cache cache
  unless (not (is_descriptor shape b slab)) (breaks_field asked U4 slab led.number None) do
    n ← counted image shape slab
    apart image shape (grid_of shape b o slab n.objects) slab asked first

-- what a processor has, by its first violation
abbrev pub seen_with : ℕ → Result ℕ Violation → CpuSeen
seen_with slab (Ok free) = Whole (record { slab = slab; free = free })
seen_with slab (Err v) = Broken (record { slab = slab; found = v })

-- by the slab and the list that it names
abbrev pub seen_by : Image → SlubShape → SlubBases → SlabObjects → ℕ → Asked → FieldNumber → FieldNumber → CpuSeen
seen_by image shape b o cache asked slab first =
    if nat_eq (value_of slab) 0 then Empty
    else seen_with (value_of slab) (cpu_list image shape b o cache (value_of slab) slab asked first)

-- where both can be read
abbrev pub seen_first : Image → SlubShape → SlubBases → SlabObjects → ℕ → ℕ → FieldNumber → Option FieldNumber → CpuSeen
seen_first image shape b o cache at slab None = Unread
seen_first image shape b o cache at slab (Some first) = seen_by image shape b o cache (looked_at at) slab first

abbrev pub seen_slab : Image → CpuShape → SlubShape → SlubBases → SlabObjects → ℕ → ℕ → Option FieldNumber → CpuSeen
seen_slab image c shape b o cache at None = Unread
seen_slab image c shape b o cache at (Some slab) = seen_first image shape b o cache at slab (readable (field_of image at c.freelist))

-- by the address of its words
abbrev pub seen_of : Image → CpuShape → SlubShape → SlubBases → SlabObjects → ℕ → ℕ → CpuSeen
seen_of image c shape b o cache at = seen_slab image c shape b o cache at (readable (field_of image at c.slab))

-- what a processor has of a cache
abbrev pub seen_at : Image → CpuShape → SlubShape → SlubBases → SlabObjects → ℕ → Cpu → Option FieldNumber → CpuSeen
seen_at image c shape b o cache cpu None = Unread
seen_at image c shape b o cache cpu (Some base) = seen_of image c shape b o cache (at_offset (value_of base) cpu.offset)

unfoldable pub cpu_seen : Image → CpuShape → SlubShape → SlubBases → SlabObjects → ℕ → Cpu → CpuSeen
cpu_seen image c shape b o cache cpu = seen_at image c shape b o cache cpu (readable (field_of image cache c.cpu_slab))

-- the answer at a stop
abbrev pub IsRead : Stop → Result (Option FieldNumber) WalkStop → Type 0
IsRead (stops.Miss s) r = r ≡ Ok None
IsRead stops.Fault r = r ≡ Err ends.Fault
