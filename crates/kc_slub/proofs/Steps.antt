-- One step of a walk after another.
use Rattle.std.proofs.Common.{◌≡◌, ℕ, suc, ◌-◌, Bool, true, false, List, [], ◌∷◌, ◌++◌, drop, length, Option, None, Some, refl, sym, ◌∙◌, ap, arith}
use Rattle.std.specs.Prelude.{Result, Ok, Err, IfSome, nat_eq, not, slice_get, ◌≤◌, ◌<◌}
use Rattle.std.proofs.lemmas.Option.{slice_get_within, get_or_from_slice_get}
use Rattle.std.proofs.Math.Seq.{drop-cons}
use Rattle.std.proofs.Math.ListN.{drop_of_length-le}
use Rattle.kc_memory.specs.Bits.{Number}
use Rattle.kc_memory.specs.Image.{Image}
use Rattle.kc_found.specs.declared.asked.Asked.{Asked}
use Rattle.kc_found.specs.declared.found.WalkStop.{WalkStop}
use Rattle.kc_found.specs.declared.found.WalkStop.TheVariants as ends
use Rattle.kc_found.specs.declared.free.Grid.{Grid}
use Rattle.kc_found.specs.Trials.{and_then}
use Rattle.kc_found.specs.Violations.{Violation}
use Rattle.kc_found.specs.Walks.{IsBroken, WalksAs}
use Rattle.kc_view.specs.declared.fields.FieldNumber.{FieldNumber}
use Rattle.kc_view.specs.declared.slub.SlubShape.{SlubShape}
use Rattle.kc_view.specs.Fields.{breaks_at, unless}
use Rattle.kc_view.specs.declared.slub.SlubBases.{SlubBases}
use Rattle.kc_view.specs.declared.slub.SlabObjects.{SlabObjects}
use Rattle.kc_view.specs.Caches.{slab_of}
use Rattle.kc_steps.specs.CachesBy.{list_by, node_by, nodes_by, slab_by, slabs_by}
use Rattle.kc_steps.specs.Chains.{Came, FreeBy, Lists, RingBy, alone}
use Rattle.kc_memory.specs.declared.rule.Rule.TheVariants.{U6}

-- the first of two steps stops
stops : {A B U V : Type 0} (u : U → A) (v : V → B) (image : Option Image) (first : Image → Result A Violation) (go : Image → A → Result B Violation) (stop : WalkStop) →
    WalksAs u first image (Err stop) → WalksAs v (λ i. and_then (first i) (go i)) image (Err stop)
stops u v None first go stop e = tt
stops u v (Some i) first go (ends.Broken f) e = ap (λ r. and_then r (go i)) e
stops u v (Some i) first go ends.Fault e = tt
stops u v (Some i) first go ends.NoMemory e = tt

pub list_stops : (u : List ℕ → List ℕ × Lists) (v : ℕ → ℕ × Lists) (image : Option Image) (free : Image → FreeBy) (asked : Asked) (grid : Grid) (slab wanted : ℕ) (inuse : FieldNumber) (first : Number) (lists : Lists) (stop : WalkStop) →
    WalksAs u (λ i. free i asked grid first lists) image (Err stop) → WalksAs v (λ i. list_by (free i) asked grid slab wanted inuse first lists) image (Err stop)
unfolding list_by
list_stops u v image free asked grid slab wanted inuse first lists stop e =
    stops u v image (λ i. free i asked grid first lists) (λ i r. unless (not (nat_eq (length r.0) wanted)) (breaks_at asked U6 inuse (Some wanted)) (Ok (slab, r.1))) stop e

list_told : (free : FreeBy) (asked : Asked) (grid : Grid) (slab wanted : ℕ) (inuse : FieldNumber) (first : Number) (lists more : Lists) (os : List ℕ) (b : Bool) → free asked grid first lists ≡ Ok (os, more) → nat_eq (length os) wanted ≡ b →
    list_by free asked grid slab wanted inuse first lists ≡ unless (not b) (breaks_at asked U6 inuse (Some wanted)) (Ok (slab, more))
unfolding list_by
list_told free asked grid slab wanted inuse first lists more os b e is =
    ap (λ r. and_then r (λ p. unless (not (nat_eq (length p.0) wanted)) (breaks_at asked U6 inuse (Some wanted)) (Ok (slab, p.1)))) e ∙ ap (λ c. unless (not c) (breaks_at asked U6 inuse (Some wanted)) (Ok (slab, more))) is

pub list_short : (v : ℕ → ℕ × Lists) (image : Option Image) (free : Image → FreeBy) (asked : Asked) (grid : Grid) (slab wanted : ℕ) (inuse : FieldNumber) (first : Number) (lists more : Lists) (os : List ℕ) (stop : WalkStop) →
    WalksAs (λ (w : List ℕ). (w, more)) (λ i. free i asked grid first lists) image (Ok os) → nat_eq (length os) wanted ≡ false → IsBroken stop (breaks_at asked U6 inuse (Some wanted)) →
    WalksAs v (λ i. list_by (free i) asked grid slab wanted inuse first lists) image (Err stop)
list_short v None free asked grid slab wanted inuse first lists more os stop e is broken = tt
list_short v (Some i) free asked grid slab wanted inuse first lists more os (ends.Broken f) e is broken = list_told (free i) asked grid slab wanted inuse first lists more os false e is ∙ ap Err (sym broken)
list_short v (Some i) free asked grid slab wanted inuse first lists more os ends.Fault e is broken = tt
list_short v (Some i) free asked grid slab wanted inuse first lists more os ends.NoMemory e is broken = tt

pub list_good : (image : Option Image) (free : Image → FreeBy) (asked : Asked) (grid : Grid) (slab wanted : ℕ) (inuse : FieldNumber) (first : Number) (lists more : Lists) (os : List ℕ) →
    WalksAs (λ (w : List ℕ). (w, more)) (λ i. free i asked grid first lists) image (Ok os) → nat_eq (length os) wanted ≡ true → WalksAs (λ (s : ℕ). (s, more)) (λ i. list_by (free i) asked grid slab wanted inuse first lists) image (Ok slab)
list_good None free asked grid slab wanted inuse first lists more os e is = tt
list_good (Some i) free asked grid slab wanted inuse first lists more os e is = list_told (free i) asked grid slab wanted inuse first lists more os true e is

-- the slabs of a ring's nodes, one by one
slabs_at : (i : Image) (free : FreeBy) (asked : Asked) (shape : SlubShape) (b : SlubBases) (o : SlabObjects) (slabs : List ℕ) (lists : Lists) (ns : List ℕ) (k n : ℕ) → drop k ns ≡ n ∷ drop (suc k) ns →
    slabs_by i free asked shape b o slabs lists (drop k ns) ≡ and_then (slab_by i free asked shape b o (slab_of shape n) lists) (λ r. slabs_by i free asked shape b o (slabs ++ r.0 ∷ []) r.1 (drop (suc k) ns))
unfolding slabs_by
slabs_at i free asked shape b o slabs lists ns k n e = ap (slabs_by i free asked shape b o slabs lists) e

slabs_none : (i : Image) (free : FreeBy) (asked : Asked) (shape : SlubShape) (b : SlubBases) (o : SlabObjects) (slabs : List ℕ) (lists : Lists) → slabs_by i free asked shape b o slabs lists [] ≡ Ok (slabs, lists)
unfolding slabs_by
slabs_none i free asked shape b o slabs lists = refl

here : (ns : List ℕ) (k n : ℕ) → slice_get ns k ≡ Some n → drop k ns ≡ n ∷ drop (suc k) ns
here ns k n e = drop-cons ns k 0 (slice_get_within ns k n e) ∙ ap (λ m. m ∷ drop (suc k) ns) (get_or_from_slice_get ns k n 0 e)

-- what is left to look at, of all: the slabs and the lists before, and those now
abbrev pub SlabsLeft : Option Image → (Image → FreeBy) → Asked → SlubShape → SlubBases → SlabObjects → List ℕ → Lists → List ℕ → List ℕ → Lists → ℕ → Type 0
SlabsLeft image free asked shape b o old before ns slabs lists k =
    IfSome image (λ i. slabs_by i (free i) asked shape b o old before ns ≡ slabs_by i (free i) asked shape b o slabs lists (drop k ns))

pub slabs_stop : {V : Type 0} (u : ℕ → ℕ × Lists) (v : V → List ℕ × Lists) (image : Option Image) (free : Image → FreeBy) (asked : Asked) (shape : SlubShape) (b : SlubBases) (o : SlabObjects) (old : List ℕ) (before : Lists) (ns slabs : List ℕ) (lists : Lists) (k n : ℕ) (stop : WalkStop) →
    SlabsLeft image free asked shape b o old before ns slabs lists k → slice_get ns k ≡ Some n → WalksAs u (λ i. slab_by i (free i) asked shape b o (slab_of shape n) lists) image (Err stop) →
    WalksAs v (λ i. slabs_by i (free i) asked shape b o old before ns) image (Err stop)
slabs_stop u v None free asked shape b o old before ns slabs lists k n stop left is e = tt
slabs_stop u v (Some i) free asked shape b o old before ns slabs lists k n (ends.Broken f) left is e =
    left ∙ slabs_at i (free i) asked shape b o slabs lists ns k n (here ns k n is) ∙ ap (λ r. and_then r (λ p. slabs_by i (free i) asked shape b o (slabs ++ p.0 ∷ []) p.1 (drop (suc k) ns))) e
slabs_stop u v (Some i) free asked shape b o old before ns slabs lists k n ends.Fault left is e = tt
slabs_stop u v (Some i) free asked shape b o old before ns slabs lists k n ends.NoMemory left is e = tt

pub slabs_go : (image : Option Image) (free : Image → FreeBy) (asked : Asked) (shape : SlubShape) (b : SlubBases) (o : SlabObjects) (old : List ℕ) (before : Lists) (ns slabs : List ℕ) (lists more : Lists) (k next n s : ℕ) → suc k ≡ next →
    SlabsLeft image free asked shape b o old before ns slabs lists k → slice_get ns k ≡ Some n → WalksAs (λ (s : ℕ). (s, more)) (λ i. slab_by i (free i) asked shape b o (slab_of shape n) lists) image (Ok s) →
    SlabsLeft image free asked shape b o old before ns (slabs ++ s ∷ []) more next
slabs_go None free asked shape b o old before ns slabs lists more k next n s on left is e = tt
slabs_go (Some i) free asked shape b o old before ns slabs lists more k next n s on left is e =
    rw (← on) (left ∙ slabs_at i (free i) asked shape b o slabs lists ns k n (here ns k n is) ∙ ap (λ r. and_then r (λ p. slabs_by i (free i) asked shape b o (slabs ++ p.0 ∷ []) p.1 (drop (suc k) ns))) e)

pub slabs_end : {V : Type 0} (v : V → List ℕ × Lists) (image : Option Image) (free : Image → FreeBy) (asked : Asked) (shape : SlubShape) (b : SlubBases) (o : SlabObjects) (old : List ℕ) (before : Lists) (ns : List ℕ) (k : ℕ) (x : V) →
    SlabsLeft image free asked shape b o old before ns (v x).0 (v x).1 k → length ns ≤ k → WalksAs v (λ i. slabs_by i (free i) asked shape b o old before ns) image (Ok x)
slabs_end v None free asked shape b o old before ns k x left all = tt
slabs_end v (Some i) free asked shape b o old before ns k x left all =
    left ∙ ap (slabs_by i (free i) asked shape b o (v x).0 (v x).1) (drop_of_length-le ns all) ∙ slabs_none i (free i) asked shape b o (v x).0 (v x).1

-- the nodes of a cache, one by one
nodes_at : (i : Image) (ring : RingBy) (free : FreeBy) (asked : Asked) (shape : SlubShape) (b : SlubBases) (o : SlabObjects) (left k : ℕ) (slabs : List ℕ) (lists : Lists) →
    nodes_by i ring free asked shape b o (suc left) k slabs lists ≡ and_then (node_by i ring free asked shape b o slabs k lists) (λ r. nodes_by i ring free asked shape b o left (suc k) r.0 r.1)
unfolding nodes_by
nodes_at i ring free asked shape b o left k slabs lists = refl

nodes_none : (i : Image) (ring : RingBy) (free : FreeBy) (asked : Asked) (shape : SlubShape) (b : SlubBases) (o : SlabObjects) (k : ℕ) (slabs : List ℕ) (lists : Lists) → nodes_by i ring free asked shape b o 0 k slabs lists ≡ Ok (slabs, lists)
unfolding nodes_by
nodes_none i ring free asked shape b o k slabs lists = refl

nodes_more : (n k : ℕ) → k < n → n - k ≡ suc (n - suc k)
nodes_more n k lt = omega (arith, lt)

nodes_all : (n k : ℕ) → n ≤ k → n - k ≡ 0
nodes_all n k le = omega (arith, le)

abbrev pub NodesLeft : Option Image → (Image → RingBy) → (Image → FreeBy) → Asked → SlubShape → SlubBases → SlabObjects → ℕ → Lists → List ℕ → Lists → ℕ → Type 0
NodesLeft image ring free asked shape b o n before slabs lists k =
    IfSome image (λ i. nodes_by i (ring i) (free i) asked shape b o n 0 [] before ≡ nodes_by i (ring i) (free i) asked shape b o (n - k) k slabs lists)

nodes_here : (i : Image) (ring : RingBy) (free : FreeBy) (asked : Asked) (shape : SlubShape) (b : SlubBases) (o : SlabObjects) (n k : ℕ) (slabs : List ℕ) (lists : Lists) → k < n →
    nodes_by i ring free asked shape b o (n - k) k slabs lists ≡ and_then (node_by i ring free asked shape b o slabs k lists) (λ r. nodes_by i ring free asked shape b o (n - suc k) (suc k) r.0 r.1)
nodes_here i ring free asked shape b o n k slabs lists lt = ap (λ m. nodes_by i ring free asked shape b o m k slabs lists) (nodes_more n k lt) ∙ nodes_at i ring free asked shape b o (n - suc k) k slabs lists

pub nodes_stop : {U V : Type 0} (u : U → List ℕ × Lists) (v : V → List ℕ × Lists) (image : Option Image) (ring : Image → RingBy) (free : Image → FreeBy) (asked : Asked) (shape : SlubShape) (b : SlubBases) (o : SlabObjects) (n : ℕ) (before : Lists) (slabs : List ℕ) (lists : Lists) (k : ℕ) (stop : WalkStop) →
    NodesLeft image ring free asked shape b o n before slabs lists k → k < n → WalksAs u (λ i. node_by i (ring i) (free i) asked shape b o slabs k lists) image (Err stop) →
    WalksAs v (λ i. nodes_by i (ring i) (free i) asked shape b o n 0 [] before) image (Err stop)
nodes_stop u v None ring free asked shape b o n before slabs lists k stop left lt e = tt
nodes_stop u v (Some i) ring free asked shape b o n before slabs lists k (ends.Broken f) left lt e =
    left ∙ nodes_here i (ring i) (free i) asked shape b o n k slabs lists lt ∙ ap (λ r. and_then r (λ p. nodes_by i (ring i) (free i) asked shape b o (n - suc k) (suc k) p.0 p.1)) e
nodes_stop u v (Some i) ring free asked shape b o n before slabs lists k ends.Fault left lt e = tt
nodes_stop u v (Some i) ring free asked shape b o n before slabs lists k ends.NoMemory left lt e = tt

pub nodes_go : {U : Type 0} (u : U → List ℕ × Lists) (image : Option Image) (ring : Image → RingBy) (free : Image → FreeBy) (asked : Asked) (shape : SlubShape) (b : SlubBases) (o : SlabObjects) (n : ℕ) (before : Lists) (slabs : List ℕ) (lists : Lists) (k next : ℕ) (x : U) → suc k ≡ next →
    NodesLeft image ring free asked shape b o n before slabs lists k → k < n → WalksAs u (λ i. node_by i (ring i) (free i) asked shape b o slabs k lists) image (Ok x) →
    NodesLeft image ring free asked shape b o n before (u x).0 (u x).1 next
nodes_go u None ring free asked shape b o n before slabs lists k next x on left lt e = tt
nodes_go u (Some i) ring free asked shape b o n before slabs lists k next x on left lt e =
    rw (← on) (left ∙ nodes_here i (ring i) (free i) asked shape b o n k slabs lists lt ∙ ap (λ r. and_then r (λ p. nodes_by i (ring i) (free i) asked shape b o (n - suc k) (suc k) p.0 p.1)) e)

pub nodes_end : {V : Type 0} (v : V → List ℕ × Lists) (image : Option Image) (ring : Image → RingBy) (free : Image → FreeBy) (asked : Asked) (shape : SlubShape) (b : SlubBases) (o : SlabObjects) (n : ℕ) (before : Lists) (k : ℕ) (x : V) →
    NodesLeft image ring free asked shape b o n before (v x).0 (v x).1 k → n ≤ k → WalksAs v (λ i. nodes_by i (ring i) (free i) asked shape b o n 0 [] before) image (Ok x)
nodes_end v None ring free asked shape b o n before k x left all = tt
nodes_end v (Some i) ring free asked shape b o n before k x left all =
    left ∙ ap (λ m. nodes_by i (ring i) (free i) asked shape b o m k (v x).0 (v x).1) (nodes_all n k all) ∙ nodes_none i (ring i) (free i) asked shape b o k (v x).0 (v x).1

-- what comes alone of a walk whose chains are walked
pub comes_alone : (w : List ℕ → List ℕ × Lists) (image : Option Image) (m : Image → Came (List ℕ)) (truth : Image → Result (List ℕ) Violation) (r : Result (List ℕ) WalkStop) →
    ((i : Image) → alone (m i) ≡ truth i) → ((xs : List ℕ) → (w xs).0 ≡ xs) → WalksAs w m image r → WalksAs (λ (xs : List ℕ). xs) truth image r
comes_alone w None m truth r same first e = tt
comes_alone w (Some i) m truth (Ok xs) same first e = sym (same i) ∙ ap alone e ∙ ap Ok (first xs)
comes_alone w (Some i) m truth (Err (ends.Broken f)) same first e = sym (same i) ∙ ap alone e
comes_alone w (Some i) m truth (Err ends.Fault) same first e = tt
comes_alone w (Some i) m truth (Err ends.NoMemory) same first e = tt
