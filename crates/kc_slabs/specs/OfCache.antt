-- What is printed in one line of the slabs of a cache.
use Rattle.std.specs.Prelude.{ℕ, List, [], ◌∷◌, ◌++◌, length, codes, decimal, Option, Some, None, option_map, Result, Ok, Err}
use Rattle.kc_memory.specs.Image.{Image}
use Rattle.kc_found.specs.Violations.{Violation}
use Rattle.kc_kinds.specs.Kernels.{Kernel}
use Rattle.kc_owner.specs.Known.{known}
use Rattle.kc_owner.specs.Object.Caches.{text_by}
use Rattle.kc_report.specs.Lines.{rule_code}
use Rattle.kc_slab_page.specs.declared.guarding.SlabFault.{SlabFault}
use Rattle.kc_slab_page.specs.declared.guarding.SlabFault.TheVariants.{Words, Bytes}
use Rattle.kc_slab_page.specs.Shapes.{page_shape}
use Rattle.kc_slab_scan.specs.CpuShapes.{cpu_shape}
use Rattle.kc_slab_scan.specs.declared.cpu_scan.BrokenCpu.{BrokenCpu}
use Rattle.kc_slab_scan.specs.declared.totals.BrokenSlab.{BrokenSlab}
use Rattle.kc_slabs.specs.declared.looking.CpusSeen.{CpusSeen}
use Rattle.kc_slabs.specs.declared.looking.SlabShapes.{SlabShapes}
use Rattle.kc_slabs.specs.Looking.{Seen, seen_in}
use Rattle.kc_slabs.specs.Text.{guard_code, name_in}
use Rattle.kc_text.specs.Text.{hex, name_text}

-- where a kernel has what tells of its slabs
abbrev pub slab_shapes : Kernel → List ℕ → Option SlabShapes
slab_shapes kernel note = option_map (λ pages. record { pages = pages; cpus = cpu_shape kernel }) (page_shape kernel note)

-- what is seen of the slabs of the caches that have the name of a cache
abbrev pub name_at : Image → SlabShapes → ℕ → List ℕ
name_at image shapes cache = text_by image (known image cache shapes.pages.objects.name)

abbrev pub of_cache : Image → SlabShapes → ℕ → List ℕ → Result Seen Violation
of_cache image shapes cache frames = seen_in image shapes (Some (name_at image shapes cache)) frames

-- a rule that is broken, and where
abbrev pub at_text : List ℕ → ℕ → List ℕ
at_text code at = codes " first " ++ code ++ codes " at " ++ hex at

abbrev pub fault_at : SlabFault → List ℕ
fault_at (Words v) = at_text (rule_code v.rule) v.at
fault_at (Bytes s) = at_text (guard_code s.rule) s.at

-- that of the first of these slabs
abbrev pub first_slab : List BrokenSlab → List ℕ
first_slab [] = []
first_slab (b ∷ others) = fault_at b.found

abbrev pub first_cpu : List BrokenCpu → List ℕ
first_cpu [] = []
first_cpu (b ∷ others) = at_text (rule_code b.found.rule) b.found.at

-- how many of the slabs that processors own break a rule
abbrev pub owned_count : CpusSeen → List ℕ
owned_count s = codes " processors " ++ decimal s.scan.slabs ++ codes " broken " ++ decimal (length s.scan.broken) ++ first_cpu s.scan.broken

abbrev pub owned_part : Option (Result CpusSeen Violation) → List ℕ
owned_part None = []
owned_part (Some (Ok s)) = owned_count s
owned_part (Some (Err v)) = codes " processors unknown " ++ rule_code v.rule

-- and of all slabs
abbrev pub slabs_part : Seen → List ℕ
slabs_part s = codes "slabs " ++ decimal s.scan.totals.slabs ++ codes " broken " ++ decimal (length s.scan.broken) ++ first_slab s.scan.broken

abbrev pub seen_line : ℕ → Seen → List ℕ
seen_line cache s = slabs_part s ++ owned_part s.cpus ++ codes " cache " ++ name_text (name_in s.caches cache) ++ codes "\n"

-- or why they can't be told
abbrev pub why_text : Violation → List ℕ
why_text v = rule_code v.rule ++ codes " " ++ hex v.at ++ codes "\n"

abbrev pub unknown_line : Violation → List ℕ
unknown_line v = codes "slabs unknown " ++ why_text v

abbrev pub cache_line : ℕ → Result Seen Violation → List ℕ
cache_line cache (Ok s) = seen_line cache s
cache_line cache (Err v) = unknown_line v
