-- What is seen of a dump's slabs.
use Rattle.std.specs.Prelude.{ℕ, List, length, Option, Some, None, Result, Ok, Err}
use Rattle.kc_memory.specs.Image.{Image}
use Rattle.kc_found.specs.Trials.{and_then as ◌>>=◌}
use Rattle.kc_found.specs.Violations.{Violation}
use Rattle.kc_slab_page.specs.declared.shape.PageShape.{PageShape}
use Rattle.kc_slab_page.specs.Caches.{Caches, caches_in, caches_view}
use Rattle.kc_slab_scan.specs.declared.cpu_words.CpuShape.{CpuShape}
use Rattle.kc_slab_scan.specs.Cpus.{cpus_in}
use Rattle.kc_slab_scan.specs.CpuScans.{cpus_scanned}
use Rattle.kc_slab_scan.specs.declared.totals.Scan.{Scan}
use Rattle.kc_slab_scan.specs.Scans.{scanned}
use Rattle.kc_slabs.specs.declared.looking.CpusSeen.{CpusSeen}
use Rattle.kc_slabs.specs.declared.looking.SlabShapes.{SlabShapes}
use Rattle.kc_slabs.specs.declared.looking.SlabsSeen.{SlabsSeen}

-- what processors have of some caches
abbrev pub owned_in : Image → PageShape → CpuShape → Caches → Result CpusSeen Violation
owned_in image shape c caches = do
  cpus ← cpus_in image c
  Ok (record { count = length cpus; scan = cpus_scanned image c shape.objects caches cpus })

-- where the kernel has the words that tell it
abbrev pub owned_by : Image → PageShape → Caches → Option CpuShape → Option (Result CpusSeen Violation)
owned_by image shape caches None = None
owned_by image shape caches (Some c) = Some (owned_in image shape c caches)

-- the caches that are wanted, what the page frames are, and what processors have
pub record Seen : Type 0 where
  pub caches : Caches
  pub scan : Scan
  pub cpus : Option (Result CpusSeen Violation)

abbrev pub seen_view : SlabsSeen → Seen
seen_view s = record { caches = caches_view s.caches; scan = s.scan; cpus = s.cpus }

abbrev pub told_view : Result SlabsSeen Violation → Result Seen Violation
told_view (Ok s) = Ok (seen_view s)
told_view (Err v) = Err v

-- of a memory and these page frames, or why the caches can't be told
abbrev pub seen_in : Image → SlabShapes → Option (List ℕ) → List ℕ → Result Seen Violation
seen_in image shapes wanted frames = do
  c ← caches_in image shapes.pages wanted
  Ok (record { caches = c; scan = scanned image shapes.pages c frames; cpus = owned_by image shapes.pages c shapes.cpus })
