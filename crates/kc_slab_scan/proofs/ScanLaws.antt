-- What shows what slabs break stands in the dump, and each frame is counted.
use Rattle.std.proofs.Common.{◌≡◌, ℕ, ◌+◌, ◌-◌, ◌^◌, ◌≤◌, ◌∷◌, ◌++◌, [], List, length, refl, arith}
use Rattle.std.specs.Prelude.{min}
use Rattle.std.specs.List.{AllByRecursion}
use Rattle.kc_memory.specs.Image.{Image}
use Rattle.kc_memory.specs.Places.{AllStandIn}
use Rattle.kc_slab_page.specs.declared.page.PageSeen.{PageSeen}
use Rattle.kc_slab_page.specs.declared.page.PageSeen.TheVariants.{Absent, Fenced, Other, Unmarked, Slab}
use Rattle.kc_slab_page.specs.declared.page.SlabSeen.{SlabSeen}
use Rattle.kc_slab_page.specs.declared.guarding.SlabState.{SlabState}
use Rattle.kc_slab_page.specs.declared.guarding.SlabState.TheVariants.{Whole, Broken, Untold}
use Rattle.kc_slab_page.specs.declared.shape.PageShape.{PageShape}
use Rattle.kc_slab_page.specs.Caches.{Caches}
use Rattle.kc_slab_page.specs.Laws.{SlabsStand, page_places, state_places}
use Rattle.kc_slab_page.specs.Pages.{page_seen}
use Rattle.kc_slab_scan.specs.declared.totals.BrokenSlab.{BrokenSlab}
use Rattle.kc_slab_scan.specs.declared.totals.Scan.{Scan}
use Rattle.kc_slab_scan.specs.Laws.{BrokenStand, FramesAreCounted, IsSound, IsSoundState, SoundIsOfAll, Stands}
use Rattle.kc_slab_scan.specs.Scans.{added, none_seen, scan_from, with_broken, with_page}

stand_more : (image : Image) (bs : List BrokenSlab) (b : BrokenSlab) → AllByRecursion (Stands image) bs → Stands image b → AllByRecursion (Stands image) (bs ++ b ∷ [])
stand_more image [] b all here = (here, tt)
stand_more image (x ∷ xs) b all here = (all.0, stand_more image xs b all.1 here)

state_stands : (image : Image) (s : Scan) (seen : SlabSeen) (state : SlabState) → AllByRecursion (Stands image) s.broken → AllStandIn image (state_places state)
    → AllByRecursion (Stands image) (with_broken s seen state).broken
state_stands image s seen (Whole f) all here = all
state_stands image s seen (Broken v) all here = stand_more image s.broken (record { slab = seen.slab; cache = seen.cache; found = v }) all here
state_stands image s seen Untold all here = all

page_stands : (image : Image) (s : Scan) (page : PageSeen) → AllByRecursion (Stands image) s.broken → AllStandIn image (page_places page)
    → AllByRecursion (Stands image) (with_page s page).broken
page_stands image s Absent all here = all
page_stands image s Other all here = all
page_stands image s Unmarked all here = all
page_stands image s Fenced all here = all
page_stands image s (Slab seen) all here = state_stands image s seen seen.state all here

from_stands : SlabsStand → (image : Image) (shape : PageShape) (caches : Caches) (s : Scan) (ns : List ℕ) → AllByRecursion (Stands image) s.broken
    → AllByRecursion (Stands image) (scan_from image shape caches s ns).broken
unfolding scan_from
from_stands known image shape caches s [] all = all
from_stands known image shape caches s (n ∷ ns) all =
    from_stands known image shape caches (with_page s (page_seen image shape caches n)) ns (page_stands image s (page_seen image shape caches n) all (known image shape caches n))

pub broken_stand : SlabsStand → BrokenStand
broken_stand known image shape caches frames = from_stands known image shape caches (record { totals = none_seen; broken = [] }) frames tt

-- each page is counted
counts_state : (s : Scan) (seen : SlabSeen) (state : SlabState) → (with_broken s seen state).totals.frames ≡ added s.totals.frames 1
counts_state s seen (Whole f) = refl
counts_state s seen (Broken v) = refl
counts_state s seen Untold = refl

counts_page : (s : Scan) (page : PageSeen) → (with_page s page).totals.frames ≡ added s.totals.frames 1
counts_page s Absent = refl
counts_page s Other = refl
counts_page s Unmarked = refl
counts_page s Fenced = refl
counts_page s (Slab seen) = counts_state s seen seen.state

from_counts : (image : Image) (shape : PageShape) (caches : Caches) (s : Scan) (ns : List ℕ) → (start : ℕ) → s.totals.frames ≡ min start (2 ^ 64 - 1)
    → (scan_from image shape caches s ns).totals.frames ≡ min (start + length ns) (2 ^ 64 - 1)
unfolding scan_from
from_counts image shape caches s [] start is = omega (arith, is)
from_counts image shape caches s (n ∷ ns) start is =
    let one : (with_page s (page_seen image shape caches n)).totals.frames ≡ min (start + 1) (2 ^ 64 - 1) = omega (arith, is, counts_page s (page_seen image shape caches n)) in
    let more = from_counts image shape caches (with_page s (page_seen image shape caches n)) ns (start + 1) one in
    omega (arith, more)

pub frames_are_counted : FramesAreCounted
frames_are_counted image shape caches frames =
    let all = from_counts image shape caches (record { totals = none_seen; broken = [] }) frames 0 (omega arith) in
    omega (arith, all)

-- a slab that was told stays told
more_broken : (bs : List BrokenSlab) (b : BrokenSlab) → 1 ≤ length (bs ++ b ∷ [])
more_broken [] b = omega arith
more_broken (x ∷ xs) b = omega (arith, more_broken xs b)

broken_state : (s : Scan) (seen : SlabSeen) (state : SlabState) → 1 ≤ length s.broken → 1 ≤ length (with_broken s seen state).broken
broken_state s seen (Whole f) some = some
broken_state s seen (Broken v) some = more_broken s.broken (record { slab = seen.slab; cache = seen.cache; found = v })
broken_state s seen Untold some = some

broken_page : (s : Scan) (page : PageSeen) → 1 ≤ length s.broken → 1 ≤ length (with_page s page).broken
broken_page s Absent some = some
broken_page s Other some = some
broken_page s Unmarked some = some
broken_page s Fenced some = some
broken_page s (Slab seen) some = broken_state s seen seen.state some

from_broken : (image : Image) (shape : PageShape) (caches : Caches) (s : Scan) (ns : List ℕ) → 1 ≤ length s.broken → 1 ≤ length (scan_from image shape caches s ns).broken
unfolding scan_from
from_broken image shape caches s [] some = some
from_broken image shape caches s (n ∷ ns) some =
    from_broken image shape caches (with_page s (page_seen image shape caches n)) ns (broken_page s (page_seen image shape caches n) some)

one_added : (n : ℕ) → 1 ≤ added n 1
one_added n = omega arith

untold_state : (s : Scan) (seen : SlabSeen) (state : SlabState) → 1 ≤ s.totals.untold → 1 ≤ (with_broken s seen state).totals.untold
untold_state s seen (Whole f) some = some
untold_state s seen (Broken v) some = some
untold_state s seen Untold some = one_added s.totals.untold

untold_page : (s : Scan) (page : PageSeen) → 1 ≤ s.totals.untold → 1 ≤ (with_page s page).totals.untold
untold_page s Absent some = some
untold_page s Other some = some
untold_page s Unmarked some = some
untold_page s Fenced some = some
untold_page s (Slab seen) some = untold_state s seen seen.state some

from_untold : (image : Image) (shape : PageShape) (caches : Caches) (s : Scan) (ns : List ℕ) → 1 ≤ s.totals.untold → 1 ≤ (scan_from image shape caches s ns).totals.untold
unfolding scan_from
from_untold image shape caches s [] some = some
from_untold image shape caches s (n ∷ ns) some =
    from_untold image shape caches (with_page s (page_seen image shape caches n)) ns (untold_page s (page_seen image shape caches n) some)

-- so each page is sound where none is told
no_broken : (bs : List BrokenSlab) → bs ≡ [] → 1 ≤ length bs → ⊥
no_broken bs none some = let zero : length bs ≡ 0 = rw none refl in omega (arith, zero, some)

state_sound : (image : Image) (shape : PageShape) (caches : Caches) (s : Scan) (seen : SlabSeen) (state : SlabState) (ns : List ℕ)
    → (scan_from image shape caches (with_broken s seen state) ns).broken ≡ [] → (scan_from image shape caches (with_broken s seen state) ns).totals.untold ≡ 0 → IsSoundState state
state_sound image shape caches s seen (Whole f) ns none all = tt
state_sound image shape caches s seen (Broken v) ns none all =
    no_broken (scan_from image shape caches (with_broken s seen (Broken v)) ns).broken none
    (from_broken image shape caches (with_broken s seen (Broken v)) ns (more_broken s.broken (record { slab = seen.slab; cache = seen.cache; found = v })))
state_sound image shape caches s seen Untold ns none all =
    let some = from_untold image shape caches (with_broken s seen Untold) ns (one_added s.totals.untold) in
    omega (arith, all, some)

page_sound : (image : Image) (shape : PageShape) (caches : Caches) (s : Scan) (page : PageSeen) (ns : List ℕ)
    → (scan_from image shape caches (with_page s page) ns).broken ≡ [] → (scan_from image shape caches (with_page s page) ns).totals.untold ≡ 0 → IsSound page
page_sound image shape caches s Absent ns none all = tt
page_sound image shape caches s Other ns none all = tt
page_sound image shape caches s Unmarked ns none all = tt
page_sound image shape caches s Fenced ns none all = tt
page_sound image shape caches s (Slab seen) ns none all = state_sound image shape caches s seen seen.state ns none all

from_sound : (image : Image) (shape : PageShape) (caches : Caches) (s : Scan) (ns : List ℕ)
    → (scan_from image shape caches s ns).broken ≡ [] → (scan_from image shape caches s ns).totals.untold ≡ 0 → AllByRecursion (λ n. IsSound (page_seen image shape caches n)) ns
unfolding scan_from
from_sound image shape caches s [] none all = tt
from_sound image shape caches s (n ∷ ns) none all =
    (page_sound image shape caches s (page_seen image shape caches n) ns none all, from_sound image shape caches (with_page s (page_seen image shape caches n)) ns none all)

pub sound_is_of_all : SoundIsOfAll
sound_is_of_all image shape caches frames none all = from_sound image shape caches (record { totals = none_seen; broken = [] }) frames none all
