-- What is seen of page frames, one after the other.
use Rattle.std.specs.Prelude.{ℕ, ◌+◌, ◌-◌, ◌^◌, min, if◌then◌else◌, List, [], ◌∷◌, ◌++◌}
use Rattle.kc_memory.specs.Image.{Image}
use Rattle.kc_slab_page.specs.declared.page.PageSeen.{PageSeen}
use Rattle.kc_slab_page.specs.declared.page.PageSeen.TheVariants.{Absent, Fenced, Other, Unmarked, Slab}
use Rattle.kc_slab_page.specs.declared.page.SlabSeen.{SlabSeen}
use Rattle.kc_slab_page.specs.declared.guarding.SlabState.{SlabState}
use Rattle.kc_slab_page.specs.declared.guarding.SlabState.TheVariants.{Whole, Broken, Untold}
use Rattle.kc_slab_page.specs.declared.shape.PageShape.{PageShape}
use Rattle.kc_slab_page.specs.declared.slab.SlabFree.{SlabFree}
use Rattle.kc_slab_page.specs.Caches.{Caches}
use Rattle.kc_slab_page.specs.Pages.{page_seen}
use Rattle.kc_slab_scan.specs.declared.totals.Scan.{Scan}
use Rattle.kc_slab_scan.specs.declared.totals.Totals.{Totals}

-- a count with so many more: its last value stays
abbrev pub added : ℕ → ℕ → ℕ
added count more = min (count + more) (2 ^ 64 - 1)

abbrev pub none_seen : Totals
none_seen = record { frames = 0; absent = 0; unmarked = 0; fenced = 0; slabs = 0; frozen = 0; objects = 0; free = 0; untold = 0; guarded = 0 }

-- the counts with one page more
abbrev pub with_absent : Totals → Totals
with_absent t = record t { frames = added t.frames 1; absent = added t.absent 1 }

abbrev pub with_other : Totals → Totals
with_other t = record t { frames = added t.frames 1 }

abbrev pub with_unmarked : Totals → Totals
with_unmarked t = record t { frames = added t.frames 1; unmarked = added t.unmarked 1 }

abbrev pub with_fenced : Totals → Totals
with_fenced t = record t { frames = added t.frames 1; fenced = added t.fenced 1 }

abbrev pub with_slab : Totals → Totals
with_slab t = record t { frames = added t.frames 1; slabs = added t.slabs 1 }

-- and with what a slab has
abbrev pub with_whole : Totals → SlabFree → Totals
with_whole t f = record t {
  frozen = added t.frozen (if f.frozen then 1 else 0);
  objects = added t.objects f.objects;
  free = added t.free f.free;
  guarded = added t.guarded (if f.guarded then 1 else 0);
}

abbrev pub with_untold : Totals → Totals
with_untold t = record t { untold = added t.untold 1 }

abbrev pub with_broken : Scan → SlabSeen → SlabState → Scan
with_broken s seen (Whole f) = record { totals = with_whole (with_slab s.totals) f; broken = s.broken }
with_broken s seen (Broken fault) = record { totals = with_slab s.totals; broken = s.broken ++ record { slab = seen.slab; cache = seen.cache; found = fault } ∷ [] }
with_broken s seen Untold = record { totals = with_untold (with_slab s.totals); broken = s.broken }

abbrev pub with_state : Scan → SlabSeen → Scan
with_state s seen = with_broken s seen seen.state

-- what is seen with one page more
abbrev pub with_page : Scan → PageSeen → Scan
with_page s Absent = record { totals = with_absent s.totals; broken = s.broken }
with_page s Other = record { totals = with_other s.totals; broken = s.broken }
with_page s Unmarked = record { totals = with_unmarked s.totals; broken = s.broken }
with_page s Fenced = record { totals = with_fenced s.totals; broken = s.broken }
with_page s (Slab seen) = with_state s seen

-- and with those of these numbers, each looked at once, in their order
unfoldable pub scan_from : Image → PageShape → Caches → Scan → List ℕ → Scan
scan_from image shape caches s [] = s
scan_from image shape caches s (n ∷ ns) = scan_from image shape caches (with_page s (page_seen image shape caches n)) ns

abbrev pub scanned : Image → PageShape → Caches → List ℕ → Scan
scanned image shape caches frames = scan_from image shape caches (record { totals = none_seen; broken = [] }) frames
