-- How the walk of a free list goes on, where the dump is told or not.
use Rattle.std.proofs.Common.{◌≡◌, ℕ, ◌≤◌, nat_eq, true, false, List, [], ◌∷◌, ◌++◌, Option, None, Some, refl}
use Rattle.std.specs.Prelude.{Ok, Err, IfSome}
use Rattle.kc_memory.specs.Bits.{Number}
use Rattle.kc_memory.specs.Image.{Image}
use Rattle.kc_found.specs.declared.asked.Asked.{Asked}
use Rattle.kc_found.specs.declared.found.WalkStop.{WalkStop}
use Rattle.kc_found.specs.declared.found.WalkStop.TheVariants as ends
use Rattle.kc_found.specs.declared.free.FreeLed.{FreeLed}
use Rattle.kc_found.specs.declared.free.Grid.{Grid}
use Rattle.kc_found.specs.Chains.{ChainOf, chain_walk}
use Rattle.kc_found.specs.FiniteLists.{FreeChain, NoFreeChain, pointer_words}
use Rattle.kc_found.specs.FreeLists.{free_chain, free_first, free_next, free_site, number_in, pointer_at}
use Rattle.kc_found.specs.Trials.{passed}
use Rattle.kc_found.specs.Violations.{Violation}
use Rattle.kc_found.specs.Walks.{OnBroken, WalksAs}
use Rattle.kc_found.specs.Going.{AreChains, Reaches, IsWalkOf}
use Rattle.kc_laws.specs.Chains.{told_begins, told_goes, told_goes_broken, told_ends, whole_of_walk, walk_of_whole}
use Rattle.kc_laws.specs.Trials.{if_some}
use Rattle.kc_slub.specs.Laws.{FreeListsAreWalked}
use Rattle.kc_slub.proofs.FreeLaw.{free_words, free_of_whole, whole_of_free}
use Rattle.kc_slub.proofs.FreeSites.{free_is_chain, leads_on}

-- who asks for a walk
abbrev pub asked_at : ℕ → ℕ → Asked
asked_at audit start = record { audit = audit; start = start }

-- the free list of each dump
abbrev pub frees : Grid → Asked → FreeLed → Image → ChainOf FreeLed
frees grid asked first image = free_chain (number_in image) grid asked first

frees_are : (grid : Grid) (asked : Asked) (first : FreeLed) → AreChains (frees grid asked first)
frees_are grid asked first image = free_is_chain image grid asked first

pub free_begins : (image : Option Image) (grid : Grid) (asked : Asked) (first : FreeLed) → Reaches (frees grid asked first) image [] [] first
free_begins None grid asked first = tt
free_begins (Some i) grid asked first = told_begins (λ (x : List ℕ). x) (frees grid asked first) (Some i) [] first (frees_are grid asked first) refl refl

pub free_goes : {A : Type 0} (v : A → List ℕ) (image : Option Image) (grid : Grid) (asked : Asked) (first : FreeLed) (taken walked : List ℕ) (s : FreeLed) (x : A) (n : Number) →
    Reaches (frees grid asked first) image taken walked s → nat_eq s.to 0 ≡ false → IfSome image (λ i. number_in i (pointer_at grid s.to) ≡ Ok n) →
    WalksAs v (λ i. passed taken (free_site asked grid (number_in i (pointer_at grid s.to)) s)) image (Ok x) →
    Reaches (frees grid asked first) image (v x) (walked ++ s.to ∷ []) (free_next grid s n)
free_goes v image grid asked first taken walked s x n r inner there e =
    told_goes v (frees grid asked first) image taken walked s (free_next grid s n) s.to x (frees_are grid asked first) r (λ i. inner) (λ i. refl)
    (if_some (λ (i : Image). number_in i (pointer_at grid s.to) ≡ Ok n) (λ (i : Image). (frees grid asked first i).next s ≡ Some (free_next grid s n)) image
    (λ i h. leads_on grid s (number_in i (pointer_at grid s.to)) n h) there) e

pub free_goes_broken : {A B : Type 0} (v : A → List ℕ) (u : B → List ℕ) (image : Option Image) (grid : Grid) (asked : Asked) (first : FreeLed) (taken walked : List ℕ) (s : FreeLed) (stop : WalkStop) →
    Reaches (frees grid asked first) image taken walked s → nat_eq s.to 0 ≡ false →
    WalksAs v (λ i. passed taken (free_site asked grid (number_in i (pointer_at grid s.to)) s)) image (Err stop) → IsWalkOf u (frees grid asked first) image (Err stop)
free_goes_broken v u image grid asked first taken walked s stop r inner e = told_goes_broken v u (frees grid asked first) image taken walked s stop r (λ i. inner) e

pub free_ends : {B : Type 0} (u : B → List ℕ) (image : Option Image) (grid : Grid) (asked : Asked) (first : FreeLed) (taken : List ℕ) (x : B) (s : FreeLed) →
    Reaches (frees grid asked first) image taken (u x) s → nat_eq s.to 0 ≡ true → IsWalkOf u (frees grid asked first) image (Ok x)
free_ends u image grid asked first taken x s r null = told_ends u (frees grid asked first) image taken x s (frees_are grid asked first) r (λ i. null) (λ i. refl)

-- what a walk without a violation says, and one with a violation
pub free_finite : {B : Type 0} (u : B → List ℕ) (image : Option Image) (grid : Grid) (asked : Asked) (first : FreeLed) (x : B) → IsWalkOf u (frees grid asked first) image (Ok x) →
    IfSome image (λ i. FreeChain (number_in i) grid first.to (u x))
free_finite u None grid asked first x e = tt
free_finite u (Some i) grid asked first x e =
    free_of_whole (number_in i) grid asked first (u x)
    (whole_of_walk i.physical (frees grid asked first i) (pointer_words (number_in i) grid) (u x) (frees_are grid asked first i) (free_words (number_in i) grid asked first) e)

pub free_walked : (i : Image) (grid : Grid) (asked : Asked) (first : FreeLed) (os : List ℕ) → 1 ≤ grid.size → FreeChain (number_in i) grid first.to os → chain_walk i.physical (frees grid asked first i) ≡ Ok os
free_walked i grid asked first os some f =
    walk_of_whole i.physical (frees grid asked first i) (pointer_words (number_in i) grid) os (frees_are grid asked first i) (free_words (number_in i) grid asked first)
    (whole_of_free (number_in i) grid asked first os some f)

pub free_lists_are_walked : FreeListsAreWalked
free_lists_are_walked image grid first asked os is =
    (free_walked image grid asked (free_first first) os is.some, λ e. free_finite (λ (xs : List ℕ). xs) (Some image) grid asked (free_first first) os e)

unwalked : (i : Image) (grid : Grid) (asked : Asked) (first : FreeLed) (v : Violation) → 1 ≤ grid.size → chain_walk i.physical (frees grid asked first i) ≡ Err v → NoFreeChain (number_in i) grid first.to
unwalked i grid asked first v some e os f = let ok = free_walked i grid asked first os some f in cc

pub free_none : {B : Type 0} (u : B → List ℕ) (image : Option Image) (grid : Grid) (asked : Asked) (first : FreeLed) (stop : WalkStop) → 1 ≤ grid.size → IsWalkOf u (frees grid asked first) image (Err stop) →
    OnBroken {A = B} (Err stop) (IfSome image (λ i. NoFreeChain (number_in i) grid first.to))
free_none u None grid asked first (ends.Broken v) some e = tt
free_none u (Some i) grid asked first (ends.Broken v) some e = unwalked i grid asked first v some e
free_none u image grid asked first ends.Fault some e = tt
free_none u image grid asked first ends.NoMemory some e = tt
