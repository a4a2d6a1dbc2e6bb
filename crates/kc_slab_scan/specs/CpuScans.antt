-- What is seen of the processors' slabs of each cache.
use Rattle.std.specs.Prelude.{ℕ, if◌then◌else◌, List, [], ◌∷◌, ◌++◌, Option, Some, None, Result, Ok, Err}
use Rattle.std.specs.BTreeMap.{is_at}
use Rattle.std.specs.Map.{lookup}
use Rattle.std.specs.Ordering.{nat_cmp}
use Rattle.kc_memory.specs.Image.{Image}
use Rattle.kc_view.specs.declared.slub.SlabObjects.{SlabObjects}
use Rattle.kc_view.specs.declared.slub.SlubBases.{SlubBases}
use Rattle.kc_view.specs.declared.slub.SlubShape.{SlubShape}
use Rattle.kc_found.specs.Violations.{Violation}
use Rattle.kc_owner.specs.declared.object.shape.ObjectShape.{ObjectShape}
use Rattle.kc_owner.specs.Object.Keys.{cache_by}
use Rattle.kc_slab_page.specs.declared.caches.CacheSeen.{CacheSeen}
use Rattle.kc_slab_page.specs.Caches.{Caches}
use Rattle.kc_slab_page.specs.Slabs.{is_laid}
use Rattle.kc_slab_scan.specs.declared.cpus.Cpu.{Cpu}
use Rattle.kc_slab_scan.specs.declared.cpu_list.CpuSeen.{CpuSeen}
use Rattle.kc_slab_scan.specs.declared.cpu_list.CpuSeen.TheVariants.{Unread, Empty, Whole, Broken}
use Rattle.kc_slab_scan.specs.declared.cpu_scan.CpuScan.{CpuScan}
use Rattle.kc_slab_scan.specs.declared.cpu_words.CpuShape.{CpuShape}
use Rattle.kc_slab_scan.specs.CpuLists.{cpu_seen}
use Rattle.kc_slab_scan.specs.Scans.{added}

abbrev pub none_seen : CpuScan
none_seen = record { slabs = 0; free = 0; unread = 0; broken = [] }

-- with what a processor has of a cache
abbrev pub with_seen : CpuScan → ℕ → Cpu → CpuSeen → CpuScan
with_seen s cache cpu Unread = record s { unread = added s.unread 1 }
with_seen s cache cpu Empty = s
with_seen s cache cpu (Whole l) = record s { slabs = added s.slabs 1; free = added s.free l.free }
with_seen s cache cpu (Broken b) =
    record s { slabs = added s.slabs 1; broken = s.broken ++ record { cpu = cpu.number; cache = cache; slab = b.slab; found = b.found } ∷ [] }

-- with what each of some processors has of a cache
unfoldable pub cache_from : Image → CpuShape → SlubShape → SlubBases → SlabObjects → ℕ → CpuScan → List Cpu → CpuScan
cache_from image c shape b o cache s [] = s
cache_from image c shape b o cache s (cpu ∷ cpus) = cache_from image c shape b o cache (with_seen s cache cpu (cpu_seen image c shape b o cache cpu)) cpus

-- of a cache whose objects lie so; nothing is looked at where that can't be told
abbrev pub with_laid : Image → CpuShape → SlubShape → SlubBases → ℕ → List Cpu → CpuScan → Result SlabObjects Violation → CpuScan
with_laid image c shape b cache cpus s (Ok o) = if is_laid o then cache_from image c shape b o cache s cpus else s
with_laid image c shape b cache cpus s (Err v) = s

abbrev pub with_cache : Image → CpuShape → SlubShape → SlubBases → ℕ → List Cpu → CpuScan → Option CacheSeen → CpuScan
with_cache image c shape b cache cpus s None = s
with_cache image c shape b cache cpus s (Some seen) = with_laid image c shape b cache cpus s seen.objects

-- of the cache of a node of the ring of all caches, where it is one of these
abbrev pub with_node : Image → CpuShape → ObjectShape → Caches → List Cpu → CpuScan → ℕ → CpuScan
with_node image c shape caches cpus s node =
    with_cache image c shape.slub caches.bases (cache_by shape node) cpus s (lookup (is_at (nat_cmp (cache_by shape node))) caches.entries)

-- and of each node
unfoldable pub nodes_from : Image → CpuShape → ObjectShape → Caches → List Cpu → CpuScan → List ℕ → CpuScan
nodes_from image c shape caches cpus s [] = s
nodes_from image c shape caches cpus s (n ∷ ns) = nodes_from image c shape caches cpus (with_node image c shape caches cpus s n) ns

abbrev pub cpus_scanned : Image → CpuShape → ObjectShape → Caches → List Cpu → CpuScan
cpus_scanned image c shape caches cpus = nodes_from image c shape caches cpus none_seen caches.nodes
