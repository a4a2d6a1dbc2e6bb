-- What is told of a slab is true of the dump.
use Rattle.std.specs.Prelude.{◌≡◌, ℕ, ◌-◌, ◌<◌, IsTrue, List, [], ◌∷◌, length, Ok}
use Rattle.std.specs.List.{AllByRecursion}
use Rattle.kc_memory.specs.declared.words.Place.{Place}
use Rattle.kc_memory.specs.Image.{Image}
use Rattle.kc_memory.specs.Places.{AllStandIn}
use Rattle.kc_view.specs.declared.fields.FieldNumber.{FieldNumber}
use Rattle.kc_view.specs.declared.slub.SlabObjects.{SlabObjects}
use Rattle.kc_view.specs.declared.slub.SlubBases.{SlubBases}
use Rattle.kc_view.specs.declared.slub.SlubShape.{SlubShape}
use Rattle.kc_view.specs.Caches.{grid_of}
use Rattle.kc_view.specs.Fields.{FieldIs}
use Rattle.kc_found.specs.FiniteLists.{FreeChain}
use Rattle.kc_found.specs.FreeLists.{number_in}
use Rattle.kc_guard.specs.declared.guards.GuardRun.{GuardRun}
use Rattle.kc_guard.specs.Laws.{RunHolds}
use Rattle.kc_guard.specs.Objects.{is_free, object_at}
use Rattle.kc_slab_page.specs.declared.page.PageSeen.{PageSeen}
use Rattle.kc_slab_page.specs.declared.page.PageSeen.TheVariants.{Absent, Fenced, Other, Unmarked, Slab}
use Rattle.kc_slab_page.specs.declared.guarding.SlabFault.{SlabFault}
use Rattle.kc_slab_page.specs.declared.guarding.SlabFault.TheVariants.{Words, Bytes}
use Rattle.kc_slab_page.specs.declared.guarding.SlabState.{SlabState}
use Rattle.kc_slab_page.specs.declared.guarding.SlabState.TheVariants.{Whole, Broken, Untold}
use Rattle.kc_slab_page.specs.declared.shape.PageShape.{PageShape}
use Rattle.kc_slab_page.specs.declared.slab.SlabFree.{SlabFree}
use Rattle.kc_slab_page.specs.Caches.{Caches}
use Rattle.kc_slab_page.specs.Pages.{page_seen, state_with}
use Rattle.kc_slab_page.specs.Slabs.{is_laid, own_list, slab_free}

-- A slab is whole: its descriptor's fields hold these numbers, and the pointers from its own one on lead through a finite list of its objects
-- to 0, each once, as many as aren't in use.
pub record IsWhole (image : Image) (shape : SlubShape) (b : SlubBases) (o : SlabObjects) (slab : ℕ) (f : SlabFree) : Type 0 where
  pub inuse : ℕ
  pub first : ℕ
  pub free : List ℕ
  pub counted : FieldIs image slab shape.objects f.objects
  pub used : FieldIs image slab shape.inuse inuse
  pub leads : FieldIs image slab shape.freelist first
  pub chain : FreeChain (number_in image) (grid_of shape b o slab f.objects) first free
  pub many : f.free ≡ length free
  pub rest : f.free ≡ f.objects - inuse

abbrev pub WholeSlabs : Type 0
WholeSlabs =
    (image : Image) (shape : SlubShape) (b : SlubBases) (o : SlabObjects) (slab : ℕ) (cache : FieldNumber) (f : SlabFree)
    → IsTrue (is_laid o) → slab_free image shape b o slab cache ≡ Ok f → IsWhole image shape b o slab f

-- The bytes that a cache keeps at the objects of a slab of so many are what they have to be: at those of the slab's own list as at free ones, and
-- at the others as at those in use.
pub record AreKept (image : Image) (shape : SlubShape) (b : SlubBases) (o : SlabObjects) (slab : ℕ) (runs : List GuardRun) (objects : ℕ) : Type 0 where
  pub free : List ℕ
  pub listed : own_list image shape (grid_of shape b o slab objects) slab ≡ Ok free
  pub kept : (number : ℕ) → number < objects
      → AllByRecursion (RunHolds image (is_free free (object_at (grid_of shape b o slab objects) number)) (object_at (grid_of shape b o slab objects) number)) runs

abbrev pub GuardsAreKept : Type 0
GuardsAreKept =
    (image : Image) (shape : SlubShape) (b : SlubBases) (o : SlabObjects) (slab : ℕ) (cache : FieldNumber) (runs : List GuardRun) (f : SlabFree)
    → state_with image shape b slab cache runs o ≡ Whole f → IsTrue f.guarded → AreKept image shape b o slab runs f.objects

-- the words that show what a slab breaks
abbrev pub fault_places : SlabFault → List Place
fault_places (Words v) = v.places
fault_places (Bytes s) = s.place ∷ []

abbrev pub state_places : SlabState → List Place
state_places (Whole free) = []
state_places (Broken f) = fault_places f
state_places Untold = []

abbrev pub page_places : PageSeen → List Place
page_places Absent = []
page_places Other = []
page_places Unmarked = []
page_places Fenced = []
page_places (Slab s) = state_places s.state

-- each of them stands in the dump, at the place that is shown
abbrev pub SlabsStand : Type 0
SlabsStand = (image : Image) (shape : PageShape) (caches : Caches) (number : ℕ) → AllStandIn image (page_places (page_seen image shape caches number))
