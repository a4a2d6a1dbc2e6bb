-- What is printed of a dump's slabs.
use Rattle.std.specs.Prelude.{ℕ, Bool, true, false, ◌&&◌, nat_eq, not, is_none, List, [], ◌∷◌, ◌++◌, length, codes, decimal, Option, Some, None, Result, Ok, Err}
use Rattle.std.specs.BTreeMap.{is_at}
use Rattle.std.specs.Map.{lookup}
use Rattle.std.specs.Ordering.{nat_cmp}
use Rattle.kc_found.specs.Violations.{Violation}
use Rattle.kc_report.specs.Lines.{place_lines, rule_code}
use Rattle.kc_guard.specs.declared.guards.GuardRule.{GuardRule}
use Rattle.kc_guard.specs.declared.guards.GuardRule.TheVariants.{Z1, Z2, Z3, Z4}
use Rattle.kc_guard.specs.declared.object.Spoiled.{Spoiled}
use Rattle.kc_slab_page.specs.declared.caches.CacheSeen.{CacheSeen}
use Rattle.kc_slab_page.specs.declared.guarding.SlabFault.{SlabFault}
use Rattle.kc_slab_page.specs.declared.guarding.SlabFault.TheVariants.{Words, Bytes}
use Rattle.kc_slab_page.specs.Caches.{Caches}
use Rattle.kc_slab_scan.specs.declared.cpu_scan.BrokenCpu.{BrokenCpu}
use Rattle.kc_slab_scan.specs.declared.cpu_scan.CpuScan.{CpuScan}
use Rattle.kc_slab_scan.specs.declared.totals.BrokenSlab.{BrokenSlab}
use Rattle.kc_slab_scan.specs.declared.totals.Totals.{Totals}
use Rattle.kc_slabs.specs.declared.looking.CpusSeen.{CpusSeen}
use Rattle.kc_slabs.specs.Looking.{Seen}
use Rattle.kc_text.specs.Compose.{texts}
use Rattle.kc_text.specs.Text.{hex, name_text}

-- the number that a rule asks for, where it names one
abbrev pub expected_text : Option ℕ → List ℕ
expected_text None = []
expected_text (Some n) = codes " expected " ++ hex n

-- the rule that is broken, and the words that show it
abbrev pub rule_text : Violation → List ℕ
rule_text v = rule_code v.rule ++ codes " at " ++ hex v.at ++ expected_text v.expected ++ codes "\n" ++ place_lines v.places

-- the name of a cache, by its address
abbrev pub name_of : Option CacheSeen → List ℕ
name_of None = []
name_of (Some seen) = seen.name

abbrev pub name_in : Caches → ℕ → List ℕ
name_in caches cache = name_of (lookup (is_at (nat_cmp cache)) caches.entries)

-- the byte that slub_debug keeps and that is another one, with its object, and the word where it stands
abbrev pub guard_code : GuardRule → List ℕ
guard_code Z1 = codes "Z1"
guard_code Z2 = codes "Z2"
guard_code Z3 = codes "Z3"
guard_code Z4 = codes "Z4"

abbrev pub byte_text : Spoiled → List ℕ
byte_text s = guard_code s.rule ++ codes " at " ++ hex s.at ++ codes " expected " ++ hex s.expected

abbrev pub spoiled_text : Spoiled → List ℕ
spoiled_text s = byte_text s ++ codes " object " ++ hex s.object ++ codes "\n" ++ place_lines (s.place ∷ [])

abbrev pub fault_text : SlabFault → List ℕ
fault_text (Words v) = rule_text v
fault_text (Bytes s) = spoiled_text s

-- the lines of a slab that breaks a rule
abbrev pub slab_text : Caches → BrokenSlab → List ℕ
slab_text caches b =
    codes "slab " ++ hex b.slab ++ codes " cache " ++ hex b.cache ++ codes " " ++ name_text (name_in caches b.cache) ++ codes " broken " ++ fault_text b.found

-- those of a processor's slab that breaks one
abbrev pub cpu_text : Caches → BrokenCpu → List ℕ
cpu_text caches b =
    codes "processor " ++ decimal b.cpu ++ codes " slab " ++ hex b.slab ++ codes " cache " ++ hex b.cache ++ codes " " ++ name_text (name_in caches b.cache)
    ++ codes " broken " ++ rule_text b.found

-- how many processors there may be, and what they have
abbrev pub count_text : ℕ → CpuScan → List ℕ
count_text count s = codes "processors " ++ decimal count ++ codes " slabs " ++ decimal s.slabs ++ codes " unread " ++ decimal s.unread

abbrev pub own_free_text : ℕ → ℕ → List ℕ
own_free_text broken free = codes " broken " ++ decimal broken ++ codes " free " ++ decimal free ++ codes "\n"

abbrev pub own_text : Caches → CpusSeen → List ℕ
own_text caches s = texts (cpu_text caches) s.scan.broken ++ count_text s.count s.scan ++ own_free_text (length s.scan.broken) s.scan.free

abbrev pub owned_text : Caches → Option (Result CpusSeen Violation) → List ℕ
owned_text caches None = []
owned_text caches (Some (Ok s)) = own_text caches s
owned_text caches (Some (Err v)) = codes "processors unknown " ++ rule_text v

-- no processor's slab breaks a rule
abbrev pub own_sound : Option (Result CpusSeen Violation) → Bool
own_sound None = true
own_sound (Some (Ok s)) = nat_eq (length s.scan.broken) 0
own_sound (Some (Err v)) = false

-- the counts, a line each of frames, slabs and objects
abbrev pub frames_line : Totals → List ℕ
frames_line t = codes "frames " ++ decimal t.frames ++ codes " absent " ++ decimal t.absent ++ codes " unmarked " ++ decimal t.unmarked ++ codes " kfence " ++ decimal t.fenced ++ codes "\n"

abbrev pub slabs_line : Totals → ℕ → List ℕ
slabs_line t broken =
    codes "slabs " ++ decimal t.slabs ++ codes " frozen " ++ decimal t.frozen ++ codes " untold " ++ decimal t.untold
    ++ codes " guarded " ++ decimal t.guarded ++ codes " broken " ++ decimal broken ++ codes "\n"

abbrev pub objects_line : Totals → List ℕ
objects_line t = codes "objects " ++ decimal t.objects ++ codes " free " ++ decimal t.free ++ codes "\n"

abbrev pub totals_lines : Totals → ℕ → List ℕ
totals_lines t broken = frames_line t ++ slabs_line t broken ++ objects_line t

-- what the ring of all caches breaks
abbrev pub broken_ring_text : Violation → List ℕ
broken_ring_text v = codes "caches broken " ++ rule_text v

abbrev pub ring_text : Option Violation → List ℕ
ring_text None = []
ring_text (Some v) = broken_ring_text v

-- the slabs that break a rule, what the ring of all caches breaks, how many caches there are, and the counts
abbrev pub caches_text : Caches → List ℕ
caches_text caches = ring_text caches.broken ++ codes "caches " ++ decimal (length caches.entries) ++ codes "\n"

abbrev pub seen_text : Seen → List ℕ
seen_text s =
    texts (slab_text s.caches) s.scan.broken ++ owned_text s.caches s.cpus ++ caches_text s.caches ++ totals_lines s.scan.totals (length s.scan.broken)

abbrev pub told_text : Result Seen Violation → List ℕ
told_text (Ok s) = seen_text s
told_text (Err v) = codes "caches unknown " ++ rule_text v

-- a cache was looked at, their ring is whole, and no slab breaks a rule or is left out
abbrev pub is_sound : Seen → Bool
is_sound s =
    nat_eq (length s.scan.broken) 0 && nat_eq s.scan.totals.untold 0 && not (nat_eq (length s.caches.entries) 0) && own_sound s.cpus && is_none s.caches.broken

abbrev pub are_sound : Result Seen Violation → Bool
are_sound (Ok s) = is_sound s
are_sound (Err v) = false
