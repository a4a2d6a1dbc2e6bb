-- What a page of a dump is, by its descriptor. Source: the kernel's mm/slab.h, `struct slab` (`slab_folio`, `folio_slab`), whose `slab_cache` names
-- its cache.
use Rattle.std.specs.Prelude.{◌≡◌, ℕ, Bool, true, false, ◌&&◌, if◌then◌else◌, List, Option, Some, None, Result, Ok, Err}
use Rattle.std.specs.BTreeMap.{is_at}
use Rattle.std.specs.Ordering.{nat_cmp}
use Rattle.std.specs.Map.{lookup}
use Rattle.std.specs.Option.{unwrap_or}
use Rattle.kc_memory.specs.declared.rule.Rule.TheVariants.{U1}
use Rattle.kc_memory.specs.declared.space.Stop.{Stop}
use Rattle.kc_memory.specs.declared.space.Stop.TheVariants as stops
use Rattle.kc_memory.specs.Image.{Image}
use Rattle.kc_view.specs.declared.fields.FieldNumber.{FieldNumber}
use Rattle.kc_view.specs.declared.slub.SlabObjects.{SlabObjects}
use Rattle.kc_view.specs.declared.slub.SlubBases.{SlubBases}
use Rattle.kc_view.specs.declared.slub.SlubShape.{SlubShape}
use Rattle.kc_view.specs.Fields.{breaks_at, field_of, value_of}
use Rattle.kc_found.specs.declared.found.WalkStop.{WalkStop}
use Rattle.kc_found.specs.declared.found.WalkStop.TheVariants as ends
use Rattle.kc_found.specs.Nodes.{readable}
use Rattle.kc_found.specs.Violations.{Violation}
use Rattle.kc_owner.specs.Looked.{looked_at}
use Rattle.kc_owner.specs.Object.Pages.{descriptor_of}
use Rattle.kc_guard.specs.declared.guards.GuardRun.{GuardRun}
use Rattle.kc_slab_page.specs.declared.caches.CacheSeen.{CacheSeen}
use Rattle.kc_slab_page.specs.declared.page.PageSeen.{PageSeen}
use Rattle.kc_slab_page.specs.declared.page.PageSeen.TheVariants.{Absent, Fenced, Other, Unmarked, Slab}
use Rattle.kc_slab_page.specs.declared.guarding.SlabFault.TheVariants.{Words}
use Rattle.kc_slab_page.specs.declared.guarding.SlabState.{SlabState}
use Rattle.kc_slab_page.specs.declared.guarding.SlabState.TheVariants.{Broken, Untold}
use Rattle.kc_slab_page.specs.declared.shape.PageShape.{PageShape}
use Rattle.kc_slab_page.specs.declared.slab.SlabFree.{SlabFree}
use Rattle.kc_slab_page.specs.Caches.{Caches}
use Rattle.kc_slab_page.specs.Fences.{is_named}
use Rattle.kc_slab_page.specs.Guarding.{with_guards}
use Rattle.kc_slab_page.specs.Marks.{marked}
use Rattle.kc_slab_page.specs.Slabs.{is_laid, slab_free}

-- what a slab is, by its first violation: where its list is whole, by the bytes that its cache keeps at its objects
abbrev pub state_of : Image → SlubShape → SlubBases → ℕ → SlabObjects → List GuardRun → Result SlabFree Violation → SlabState
state_of image shape b slab o runs (Ok free) = with_guards image shape b slab o runs free
state_of image shape b slab o runs (Err v) = Broken (Words v)

-- where its cache's objects lie so, and where that can't be told
abbrev pub state_with : Image → SlubShape → SlubBases → ℕ → FieldNumber → List GuardRun → SlabObjects → SlabState
state_with image shape b slab cache runs o = if is_laid o then state_of image shape b slab o runs (slab_free image shape b o slab cache) else Untold

abbrev pub state_by : Image → SlubShape → SlubBases → ℕ → FieldNumber → List GuardRun → Result SlabObjects Violation → SlabState
state_by image shape b slab cache runs (Ok o) = state_with image shape b slab cache runs o
state_by image shape b slab cache runs (Err v) = Untold

-- a page whose descriptor names a cache, by its mark: a slab's first page has it
abbrev pub with_mark : SlabState → ℕ → ℕ → Option Bool → PageSeen
with_mark state page cache None = Absent
with_mark state page cache (Some false) = Unmarked
with_mark state page cache (Some true) = Slab (record { slab = page; cache = cache; state = state })

abbrev pub by_mark : Image → PageShape → SlubBases → ℕ → FieldNumber → CacheSeen → PageSeen
by_mark image shape b page cache seen =
    with_mark (state_by image shape.objects.slub b page cache seen.runs seen.objects) page (value_of cache) (marked image shape.mark page)

-- one whose descriptor names none of the kernel's caches: a slab's first page breaks U1 then
abbrev pub stray : ℕ → FieldNumber → Option Bool → PageSeen
stray page cache None = Absent
stray page cache (Some false) = Other
stray page cache (Some true) = Slab (record { slab = page; cache = value_of cache; state = Broken (Words (breaks_at (looked_at page) U1 cache None)) })

-- where those are known
abbrev pub unnamed : Image → PageShape → Bool → ℕ → FieldNumber → PageSeen
unnamed image shape all page cache = if all then stray page cache (marked image shape.mark page) else Other

-- a page, by what its descriptor has as its cache
abbrev pub by_seen : Image → PageShape → Caches → ℕ → FieldNumber → Option CacheSeen → PageSeen
by_seen image shape caches page cache None = unnamed image shape caches.all page cache
by_seen image shape caches page cache (Some seen) = by_mark image shape caches.bases page cache seen

abbrev pub by_cache : Image → PageShape → Caches → ℕ → FieldNumber → PageSeen
by_cache image shape caches page cache =
    by_seen image shape caches page cache (lookup (is_at (nat_cmp (value_of cache))) caches.entries)

-- and where that can't be read
abbrev pub by_read : Image → PageShape → Caches → ℕ → Option FieldNumber → PageSeen
by_read image shape caches page None = Absent
by_read image shape caches page (Some cache) = by_cache image shape caches page cache

-- a page with the mark of a slab that KFENCE's metadata name: one of its pool, and no slab
abbrev pub is_fenced : Image → PageShape → Caches → ℕ → Bool
is_fenced image shape caches number =
    is_named image caches.bases caches.pool number
    && unwrap_or (marked image shape.mark (descriptor_of shape.objects.slub caches.bases number)) false

-- any other
abbrev pub by_number : Image → PageShape → Caches → ℕ → PageSeen
by_number image shape caches number =
    let page = descriptor_of shape.objects.slub caches.bases number in
    by_read image shape caches page (readable (field_of image page shape.objects.slub.slab_cache))

-- what the page with a number is
unfoldable pub page_seen : Image → PageShape → Caches → ℕ → PageSeen
page_seen image shape caches number = if is_fenced image shape caches number then Fenced else by_number image shape caches number

-- the answer at a stop
abbrev pub IsAbsent : Stop → Result PageSeen WalkStop → Type 0
IsAbsent (stops.Miss s) r = r ≡ Ok Absent
IsAbsent stops.Fault r = r ≡ Err ends.Fault
