-- The loops over processors, caches and objects: what is done so far, and the next step.
use Rattle.std.proofs.Common.{◌≡◌, ℕ, zero, suc, ◌+◌, ◌-◌, ◌<◌, ◌≤◌, Bool, true, false, not, ◌∷◌, [], List, drop, length, slice_get, if◌then◌else◌, Option, Some, None, refl, sym, ap, ◌∙◌, add-one, arith}
use Rattle.std.specs.Prelude.{IfSome, Result, Ok, Err}
use Rattle.kc_memory.specs.Image.{Image}
use Rattle.kc_found.specs.declared.found.WalkStop.{WalkStop}
use Rattle.kc_found.specs.declared.found.WalkStop.TheVariants as ends
use Rattle.kc_found.specs.Taken.{is_taken, with_word}
use Rattle.kc_found.specs.Trials.{and_then}
use Rattle.kc_found.specs.Violations.{Violation}
use Rattle.kc_found.specs.Walks.{WalksAs}
use Rattle.kc_owner.specs.declared.object.shape.ObjectShape.{ObjectShape}
use Rattle.kc_view.specs.declared.slub.SlabObjects.{SlabObjects}
use Rattle.kc_view.specs.declared.slub.SlubBases.{SlubBases}
use Rattle.kc_view.specs.declared.slub.SlubShape.{SlubShape}
use Rattle.kc_slab_page.specs.Caches.{Caches}
use Rattle.kc_slab_scan.specs.declared.cpus.Cpu.{Cpu}
use Rattle.kc_slab_scan.specs.declared.cpu_scan.CpuScan.{CpuScan}
use Rattle.kc_slab_scan.specs.declared.cpu_words.CpuShape.{CpuShape}
use Rattle.kc_slab_scan.specs.Cpus.{cpus_from, with_cpu}
use Rattle.kc_slab_scan.specs.CpuLists.{again, cpu_seen, taken_all, taken_with}
use Rattle.kc_slab_scan.specs.CpuScans.{cache_from, nodes_from, with_node, with_seen}

pub drop_next : {X : Type 0} (xs : List X) (n : ℕ) (x : X) → slice_get xs n ≡ Some x → drop n xs ≡ x ∷ drop (suc n) xs
drop_next [] n x is = absurd (let none : ⊥ = cc in none)
drop_next (y ∷ ys) zero x is = let same : y ≡ x = cc in ap (λ z. z ∷ ys) same
drop_next (y ∷ ys) (suc n) x is = drop_next ys n x is

pub dropped : {X : Type 0} (xs : List X) (n : ℕ) → length xs ≤ n → drop n xs ≡ []
dropped [] zero all = refl
dropped [] (suc n) all = refl
dropped (x ∷ xs) zero all = absurd (omega (arith, all))
dropped (x ∷ xs) (suc n) all = dropped xs n (omega (arith, all))

-- processors
abbrev pub Numbered : Option Image → CpuShape → ℕ → ℕ → List Cpu → Type 0
Numbered image c count number cpus = IfSome image (λ i. cpus_from i c (count - number) number cpus ≡ cpus_from i c count 0 [])

pub numbers_begin : (image : Option Image) (c : CpuShape) (count : ℕ) → Numbered image c count 0 []
numbers_begin None c count = tt
numbers_begin (Some i) c count = let e : count - 0 ≡ count = omega arith in ap (λ (n : ℕ). cpus_from i c n 0 []) e

from_next : (i : Image) (c : CpuShape) (left number : ℕ) (cpus : List Cpu) → cpus_from i c (suc left) number cpus ≡ and_then (with_cpu i c cpus number) (λ more. cpus_from i c left (suc number) more)
unfolding cpus_from
from_next i c left number cpus = refl

from_none : (i : Image) (c : CpuShape) (number : ℕ) (cpus : List Cpu) → cpus_from i c 0 number cpus ≡ Ok cpus
unfolding cpus_from
from_none i c number cpus = refl

left_next : (i : Image) (c : CpuShape) (count number : ℕ) (cpus : List Cpu) → number < count
    → cpus_from i c (count - number) number cpus ≡ and_then (with_cpu i c cpus number) (λ more. cpus_from i c (count - (number + 1)) (number + 1) more)
left_next i c count number cpus more =
    let e : count - number ≡ suc (count - (number + 1)) = omega (arith, more) in
    ap (λ (n : ℕ). cpus_from i c n number cpus) e ∙ from_next i c (count - (number + 1)) number cpus
    ∙ ap (λ (n : ℕ). and_then (with_cpu i c cpus number) (λ more. cpus_from i c (count - (number + 1)) n more)) (sym (add-one number))

pub numbers_next : (image : Option Image) (c : CpuShape) (count number : ℕ) (old new : List Cpu) → number < count
    → WalksAs {A = Unit {0}} {B = List Cpu} (λ _. new) (λ i. with_cpu i c old number) image (Ok tt) → Numbered image c count number old → Numbered image c count (number + 1) new
numbers_next None c count number old new more added far = tt
numbers_next (Some i) c count number old new more added far =
    sym (left_next i c count number old more ∙ ap (λ (r : Result (List Cpu) Violation). and_then r (λ more. cpus_from i c (count - (number + 1)) (number + 1) more)) added) ∙ far

pub numbers_stop : (image : Option Image) (c : CpuShape) (count number : ℕ) (old new : List Cpu) (stop : WalkStop) → number < count
    → WalksAs {A = Unit {0}} {B = List Cpu} (λ _. new) (λ i. with_cpu i c old number) image (Err stop) → Numbered image c count number old
    → WalksAs {A = List Cpu} {B = List Cpu} (λ cs. cs) (λ i. cpus_from i c count 0 []) image (Err stop)
numbers_stop None c count number old new stop more broken far = tt
numbers_stop (Some i) c count number old new (ends.Broken v) more broken far =
    sym far ∙ left_next i c count number old more ∙ ap (λ (r : Result (List Cpu) Violation). and_then r (λ more. cpus_from i c (count - (number + 1)) (number + 1) more)) broken
numbers_stop (Some i) c count number old new ends.Fault more broken far = tt
numbers_stop (Some i) c count number old new ends.NoMemory more broken far = tt

pub numbers_done : (image : Option Image) (c : CpuShape) (count number : ℕ) (cpus : List Cpu) → count ≤ number → Numbered image c count number cpus
    → WalksAs {A = List Cpu} {B = List Cpu} (λ cs. cs) (λ i. cpus_from i c count 0 []) image (Ok cpus)
numbers_done None c count number cpus all far = tt
numbers_done (Some i) c count number cpus all far =
    let e : count - number ≡ 0 = omega (arith, all) in
    sym far ∙ ap (λ (n : ℕ). cpus_from i c n number cpus) e ∙ from_none i c number cpus

-- objects of two lists
all_next : (taken : List ℕ) (x : ℕ) (xs : List ℕ) → taken_all taken (x ∷ xs) ≡ taken_all (taken_with taken x) xs
unfolding taken_all
all_next taken x xs = refl

all_none : (taken : List ℕ) → taken_all taken [] ≡ taken
unfolding taken_all
all_none taken = refl

again_next : (taken : List ℕ) (x : ℕ) (xs : List ℕ) → again taken (x ∷ xs) ≡ (if is_taken taken x then Some x else again (with_word taken x) xs)
unfolding again
again_next taken x xs = refl

again_none : (taken : List ℕ) → again taken [] ≡ None
unfolding again
again_none taken = refl

abbrev pub Taking : List ℕ → List ℕ → ℕ → List ℕ → Type 0
Taking start objects n claims = taken_all claims (drop n objects) ≡ taken_all start objects

other_way : (taken : Bool) (new : Bool) (more old : List ℕ) → new ≡ not taken → (if new then more else old) ≡ (if taken then old else more)
other_way true new more old is = rw is refl
other_way false new more old is = rw is refl

pub taking_next : (start objects : List ℕ) (n x : ℕ) (old new : List ℕ) (fresh : Bool) → slice_get objects n ≡ Some x → fresh ≡ not (is_taken old x) → new ≡ (if fresh then with_word old x else old)
    → Taking start objects n old → Taking start objects (n + 1) new
taking_next start objects n x old new fresh at is taken far =
    ap (λ (k : ℕ). taken_all new (drop k objects)) (add-one n)
    ∙ ap (λ (c : List ℕ). taken_all c (drop (suc n) objects)) (taken ∙ other_way (is_taken old x) fresh (with_word old x) old is)
    ∙ sym (all_next old x (drop (suc n) objects)) ∙ ap (taken_all old) (sym (drop_next objects n x at)) ∙ far

pub taking_done : (start objects : List ℕ) (n : ℕ) (claims : List ℕ) → length objects ≤ n → Taking start objects n claims → claims ≡ taken_all start objects
taking_done start objects n claims all far = sym (all_none claims) ∙ ap (taken_all claims) (sym (dropped objects n all)) ∙ far

abbrev pub Seeking : List ℕ → List ℕ → ℕ → List ℕ → Type 0
Seeking start objects n claims = again claims (drop n objects) ≡ again start objects

not_taken : (taken : Bool) → true ≡ not taken → taken ≡ false
not_taken true is = absurd (let none : ⊥ = cc in none)
not_taken false is = refl

was_taken : (taken : Bool) → false ≡ not taken → taken ≡ true
was_taken true is = refl
was_taken false is = absurd (let none : ⊥ = cc in none)

pub seeking_next : (start objects : List ℕ) (n x : ℕ) (old new : List ℕ) (fresh : Bool) → slice_get objects n ≡ Some x → fresh ≡ true → fresh ≡ not (is_taken old x)
    → new ≡ (if fresh then with_word old x else old) → Seeking start objects n old → Seeking start objects (n + 1) new
seeking_next start objects n x old new fresh at first is taken far =
    ap (λ (k : ℕ). again new (drop k objects)) (add-one n)
    ∙ ap (λ (c : List ℕ). again c (drop (suc n) objects)) (taken ∙ ap (λ (b : Bool). if b then with_word old x else old) first)
    ∙ sym (again_next old x (drop (suc n) objects) ∙ ap (λ (b : Bool). if b then Some x else again (with_word old x) (drop (suc n) objects)) (not_taken (is_taken old x) (sym first ∙ is)))
    ∙ ap (again old) (sym (drop_next objects n x at)) ∙ far

pub seeking_found : (start objects : List ℕ) (n x : ℕ) (old : List ℕ) (fresh : Bool) → slice_get objects n ≡ Some x → fresh ≡ false → fresh ≡ not (is_taken old x)
    → Seeking start objects n old → Some x ≡ again start objects
seeking_found start objects n x old fresh at second is far =
    sym (ap (again old) (drop_next objects n x at) ∙ again_next old x (drop (suc n) objects)
    ∙ ap (λ (b : Bool). if b then Some x else again (with_word old x) (drop (suc n) objects)) (was_taken (is_taken old x) (sym second ∙ is)))
    ∙ far

pub seeking_done : (start objects : List ℕ) (n : ℕ) (claims : List ℕ) → length objects ≤ n → Seeking start objects n claims → None ≡ again start objects
seeking_done start objects n claims all far = sym (again_none claims) ∙ ap (again claims) (sym (dropped objects n all)) ∙ far

-- a cache's processors
module _ (c : CpuShape) (shape : SlubShape) (b : SlubBases) (o : SlabObjects) (cache : ℕ) where
  cache_next : (i : Image) (s : CpuScan) (cpu : Cpu) (cpus : List Cpu)
      → cache_from i c shape b o cache s (cpu ∷ cpus) ≡ cache_from i c shape b o cache (with_seen s cache cpu (cpu_seen i c shape b o cache cpu)) cpus
  unfolding cache_from
  cache_next i s cpu cpus = refl

  cache_none : (i : Image) (s : CpuScan) → cache_from i c shape b o cache s [] ≡ s
  unfolding cache_from
  cache_none i s = refl

  abbrev pub OfCpus : Option Image → CpuScan → List Cpu → ℕ → CpuScan → Type 0
  OfCpus image start cpus n s = IfSome image (λ i. cache_from i c shape b o cache s (drop n cpus) ≡ cache_from i c shape b o cache start cpus)

  pub cpus_begin : (image : Option Image) (start : CpuScan) (cpus : List Cpu) → OfCpus image start cpus 0 start
  cpus_begin None start cpus = tt
  cpus_begin (Some i) start cpus = refl

  pub cpus_next : (image : Option Image) (start : CpuScan) (cpus : List Cpu) (n : ℕ) (cpu : Cpu) (old new : CpuScan) → slice_get cpus n ≡ Some cpu
      → WalksAs {A = Unit {0}} {B = CpuScan} (λ _. new) (λ i. Ok (with_seen old cache cpu (cpu_seen i c shape b o cache cpu))) image (Ok tt) → OfCpus image start cpus n old → OfCpus image start cpus (n + 1) new
  cpus_next None start cpus n cpu old new at added far = tt
  cpus_next (Some i) start cpus n cpu old new at added far =
      let same : with_seen old cache cpu (cpu_seen i c shape b o cache cpu) ≡ new = cc in
      ap (λ (k : ℕ). cache_from i c shape b o cache new (drop k cpus)) (add-one n)
      ∙ ap (λ (s : CpuScan). cache_from i c shape b o cache s (drop (suc n) cpus)) (sym same)
      ∙ sym (cache_next i old cpu (drop (suc n) cpus)) ∙ ap (cache_from i c shape b o cache old) (sym (drop_next cpus n cpu at)) ∙ far

  pub cpus_done : (image : Option Image) (start : CpuScan) (cpus : List Cpu) (n : ℕ) (s : CpuScan) → length cpus ≤ n → OfCpus image start cpus n s
      → WalksAs {A = Unit {0}} {B = CpuScan} (λ _. s) (λ i. Ok (cache_from i c shape b o cache start cpus)) image (Ok tt)
  cpus_done None start cpus n s all far = tt
  cpus_done (Some i) start cpus n s all far =
      ap (λ (t : CpuScan). Ok t) (sym far ∙ ap (cache_from i c shape b o cache s) (dropped cpus n all) ∙ cache_none i s)

-- the caches
module _ (c : CpuShape) (shape : ObjectShape) (caches : Caches) (cpus : List Cpu) where
  node_next : (i : Image) (s : CpuScan) (n : ℕ) (ns : List ℕ) → nodes_from i c shape caches cpus s (n ∷ ns) ≡ nodes_from i c shape caches cpus (with_node i c shape caches cpus s n) ns
  unfolding nodes_from
  node_next i s n ns = refl

  node_none : (i : Image) (s : CpuScan) → nodes_from i c shape caches cpus s [] ≡ s
  unfolding nodes_from
  node_none i s = refl

  abbrev pub OfNodes : Option Image → CpuScan → List ℕ → ℕ → CpuScan → Type 0
  OfNodes image start nodes n s = IfSome image (λ i. nodes_from i c shape caches cpus s (drop n nodes) ≡ nodes_from i c shape caches cpus start nodes)

  pub nodes_begin : (image : Option Image) (start : CpuScan) (nodes : List ℕ) → OfNodes image start nodes 0 start
  nodes_begin None start nodes = tt
  nodes_begin (Some i) start nodes = refl

  pub nodes_next : (image : Option Image) (start : CpuScan) (nodes : List ℕ) (n node : ℕ) (old new : CpuScan) → slice_get nodes n ≡ Some node
      → WalksAs {A = Unit {0}} {B = CpuScan} (λ _. new) (λ i. Ok (with_node i c shape caches cpus old node)) image (Ok tt) → OfNodes image start nodes n old → OfNodes image start nodes (n + 1) new
  nodes_next None start nodes n node old new at added far = tt
  nodes_next (Some i) start nodes n node old new at added far =
      let same : with_node i c shape caches cpus old node ≡ new = cc in
      ap (λ (k : ℕ). nodes_from i c shape caches cpus new (drop k nodes)) (add-one n)
      ∙ ap (λ (s : CpuScan). nodes_from i c shape caches cpus s (drop (suc n) nodes)) (sym same)
      ∙ sym (node_next i old node (drop (suc n) nodes)) ∙ ap (nodes_from i c shape caches cpus old) (sym (drop_next nodes n node at)) ∙ far

  pub nodes_done : (image : Option Image) (start : CpuScan) (nodes : List ℕ) (n : ℕ) (s : CpuScan) → length nodes ≤ n → OfNodes image start nodes n s
      → WalksAs {A = CpuScan} {B = CpuScan} (λ t. t) (λ i. Ok (nodes_from i c shape caches cpus start nodes)) image (Ok s)
  nodes_done None start nodes n s all far = tt
  nodes_done (Some i) start nodes n s all far =
      ap (λ (t : CpuScan). Ok t) (sym far ∙ ap (nodes_from i c shape caches cpus s) (dropped nodes n all) ∙ node_none i s)
