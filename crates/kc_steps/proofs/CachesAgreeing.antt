-- The walk of a cache by a way to come by chains that walks them is its walk.
use Rattle.std.proofs.Common.{◌≡◌, ℕ, zero, suc, ◌-◌, nat_eq, Bool, true, false, List, [], ◌∷◌, ◌++◌, length, refl, ◌∙◌, sym, ap}
use Rattle.std.specs.Prelude.{Result, Ok, Err, Some, None, not, nat_lt, ◌||◌, if◌then◌else◌}
use Rattle.kc_memory.specs.declared.rule.Rule.TheVariants.{U1, U2, U3, U4, U6, U7}
use Rattle.kc_memory.specs.Bits.{Number}
use Rattle.kc_memory.specs.Image.{Image}
use Rattle.kc_view.specs.declared.fields.FieldNumber.{FieldNumber}
use Rattle.kc_view.specs.declared.slub.SlubShape.{SlubShape}
use Rattle.kc_view.specs.declared.slub.SlubBases.{SlubBases}
use Rattle.kc_view.specs.declared.slub.SlabObjects.{SlabObjects}
use Rattle.kc_view.specs.Caches.{bases_of, cache_slabs, counts_checked, free_checked, grid_of, is_descriptor, knode_checked, list_checked, node_at, node_checked, nodes_checked, objects_of, partial_of, slab_checked, slab_of, slabs_checked}
use Rattle.kc_view.specs.Fields.{breaks_at, holds, or_missed, read_field, unless, value_of}
use Rattle.kc_found.specs.declared.asked.Asked.{Asked}
use Rattle.kc_found.specs.declared.free.Grid.{Grid}
use Rattle.kc_found.specs.FreeLists.{free_list, low_word, number_in}
use Rattle.kc_found.specs.Nodes.{at_offset}
use Rattle.kc_found.specs.Violations.{Violation, breaks_field}
use Rattle.kc_steps.specs.CachesBy.{cache_by, cache_lists, counts_by, free_by, knode_by, list_by, node_by, nodes_by, slab_by, slabs_by}
use Rattle.kc_steps.specs.Chains.{Came, FreeBy, Lists, RingBy, WalksFree, WalksRings, alone, free_kept, ring_kept}
use Rattle.kc_steps.specs.Laws.{CacheListsAreWalked, CachesAgree}
use Rattle.kc_steps.proofs.Agreeing.{free_is_kept, lists_with, reads_alone, rest_of, rings_kept, then_alone, unless_alone}

list_agrees : (image : Image) (free : FreeBy) → WalksFree image free → (asked : Asked) (grid : Grid) (slab wanted : ℕ) (inuse : FieldNumber) (first : Number) (lists : Lists) →
    alone (list_by free asked grid slab wanted inuse first lists) ≡ list_checked image asked grid slab wanted inuse first
unfolding list_by list_checked
list_agrees image free walks asked grid slab wanted inuse first lists =
    then_alone (free asked grid first lists) _ (free_list image grid first asked) _ (walks asked grid first lists)
    (λ os more. unless_alone (not (nat_eq (length os) wanted)) (breaks_at asked U6 inuse (Some wanted)) (Ok (slab, more)) (Ok slab) refl)

free_agrees : (image : Image) (free : FreeBy) → WalksFree image free → (asked : Asked) (shape : SlubShape) (b : SlubBases) (o : SlabObjects) (slab objects : ℕ) (inuse : FieldNumber) (lists : Lists) →
    alone (free_by image free asked shape b o slab objects inuse lists) ≡ free_checked image asked shape b o slab objects inuse
free_agrees image free walks asked shape b o slab objects inuse lists =
    reads_alone (read_field image asked slab shape.freelist) _ _
    (λ f. unless_alone (not (is_descriptor shape b slab)) (breaks_field asked U4 slab f.number None) _ _
    (list_agrees image free walks asked (grid_of shape b o slab objects) slab (objects - value_of inuse) inuse f.number lists))

slab_agrees : (image : Image) (free : FreeBy) → WalksFree image free → (asked : Asked) (shape : SlubShape) (b : SlubBases) (o : SlabObjects) (slab : ℕ) (lists : Lists) →
    alone (slab_by image free asked shape b o slab lists) ≡ slab_checked image asked shape b o slab
slab_agrees image free walks asked shape b o slab lists =
    reads_alone (holds image asked U1 slab shape.slab_cache asked.start) _ _
    (λ _. reads_alone (holds image asked U2 slab shape.frozen 0) _ _
    (λ _. reads_alone (read_field image asked slab shape.objects) _ _
    (λ n. reads_alone (read_field image asked slab shape.inuse) _ _
    (λ u. unless_alone (nat_eq (value_of n) 0 || nat_lt (value_of n) (value_of u)) (breaks_at asked U3 n None) _ _
    (free_agrees image free walks asked shape b o slab (value_of n) u lists)))))

slabs_agree : (image : Image) (free : FreeBy) → WalksFree image free → (asked : Asked) (shape : SlubShape) (b : SlubBases) (o : SlabObjects) (slabs : List ℕ) (lists : Lists) (ns : List ℕ) →
    alone (slabs_by image free asked shape b o slabs lists ns) ≡ slabs_checked image asked shape b o slabs ns
unfolding slabs_by slabs_checked
slabs_agree image free walks asked shape b o slabs lists [] = refl
slabs_agree image free walks asked shape b o slabs lists (n ∷ ns) =
    then_alone (slab_by image free asked shape b o (slab_of shape n) lists) _ (slab_checked image asked shape b o (slab_of shape n)) _ (slab_agrees image free walks asked shape b o (slab_of shape n) lists)
    (λ s more. slabs_agree image free walks asked shape b o (slabs ++ s ∷ []) more ns)

knode_agrees : (image : Image) (ring : RingBy) (free : FreeBy) → WalksRings image ring → WalksFree image free → (asked : Asked) (shape : SlubShape) (b : SlubBases) (o : SlabObjects) (slabs : List ℕ) (knode : ℕ) (lists : Lists) →
    alone (knode_by image ring free asked shape b o slabs knode lists) ≡ knode_checked image asked shape b o slabs knode
knode_agrees image ring free rings walks asked shape b o slabs knode lists =
    reads_alone (read_field image asked knode shape.nr_partial) _ _
    (λ p. then_alone (ring asked shape.list (at_offset knode shape.partial) lists) _ (partial_of image asked shape knode) _ (rings asked shape.list (at_offset knode shape.partial) lists)
    (λ ns more. then_alone (slabs_by image free asked shape b o slabs more ns) _ (slabs_checked image asked shape b o slabs ns) _ (slabs_agree image free walks asked shape b o slabs more ns)
    (λ all rest. unless_alone (not (nat_eq (value_of p) (length ns))) (breaks_at asked U7 p (Some (length ns))) (Ok (all, rest)) (Ok all) refl)))

either_alone : {A : Type 0} (b : Bool) (m n : Came A) (r s : Result A Violation) → alone m ≡ r → alone n ≡ s → alone (if b then m else n) ≡ (if b then r else s)
either_alone true m n r s e is = e
either_alone false m n r s e is = is

node_agrees : (image : Image) (ring : RingBy) (free : FreeBy) → WalksRings image ring → WalksFree image free → (asked : Asked) (shape : SlubShape) (b : SlubBases) (o : SlabObjects) (slabs : List ℕ) (i : ℕ) (lists : Lists) →
    alone (node_by image ring free asked shape b o slabs i lists) ≡ node_checked image asked shape b o slabs i
node_agrees image ring free rings walks asked shape b o slabs i lists =
    reads_alone (or_missed asked (number_in image (node_at asked shape i))) _ _
    (λ p. either_alone (nat_eq (low_word p.value) 0) (Ok (slabs, lists)) _ (Ok slabs) _ refl
    (knode_agrees image ring free rings walks asked shape b o slabs (low_word p.value) lists))

nodes_agree : (image : Image) (ring : RingBy) (free : FreeBy) → WalksRings image ring → WalksFree image free → (asked : Asked) (shape : SlubShape) (b : SlubBases) (o : SlabObjects) (left i : ℕ) (slabs : List ℕ) (lists : Lists) →
    alone (nodes_by image ring free asked shape b o left i slabs lists) ≡ nodes_checked image asked shape b o left i slabs
unfolding nodes_by nodes_checked
nodes_agree image ring free rings walks asked shape b o zero i slabs lists = refl
nodes_agree image ring free rings walks asked shape b o (suc left) i slabs lists =
    then_alone (node_by image ring free asked shape b o slabs i lists) _ (node_checked image asked shape b o slabs i) _ (node_agrees image ring free rings walks asked shape b o slabs i lists)
    (λ more rest. nodes_agree image ring free rings walks asked shape b o left (suc i) more rest)

pub caches_agree : CachesAgree
caches_agree image ring free shape asked lists rings walks =
    reads_alone (bases_of image asked shape) _ _
    (λ b. reads_alone (objects_of image asked shape) _ _
    (λ o. nodes_agree image ring free rings walks asked shape b o b.nodes 0 [] lists))

pub cache_lists_are_walked : CacheListsAreWalked
cache_lists_are_walked image shape asked =
    let same = caches_agree image (ring_kept image) (free_kept image) shape asked [] (rings_kept image) (free_is_kept image) in (
      (λ lists e. let x = rest_of (cache_by image (ring_kept image) (free_kept image) shape asked []) lists e in (x.0, sym same ∙ x.1)),
      (λ slabs e. lists_with (cache_by image (ring_kept image) (free_kept image) shape asked []) slabs (same ∙ e)),
    )
