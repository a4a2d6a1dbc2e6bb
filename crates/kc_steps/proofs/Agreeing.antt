-- Steps by a way to come by chains, beside the same steps without lists.
use Rattle.std.proofs.Common.{◌≡◌, Bool, true, false, List, ◌∷◌, ◌++◌, [], refl, ◌∙◌, ap, subst}
use Rattle.std.specs.Prelude.{Result, Ok, Err, OnOk, ⊤}
use Rattle.kc_memory.specs.Image.{Image}
use Rattle.kc_view.specs.Fields.{started_at, unless}
use Rattle.kc_view.specs.TaskLists.{all_pass}
use Rattle.kc_found.specs.FreeLists.{free_list}
use Rattle.kc_found.specs.HashChains.{hash_walk}
use Rattle.kc_found.specs.Rings.{ring_walk}
use Rattle.kc_found.specs.Trials.{and_then}
use Rattle.kc_found.specs.Violations.{Violation}
use Rattle.kc_steps.specs.Chains.{Came, Lists, WalksFree, WalksHashes, WalksRings, alone, free_kept, free_walked, hash_kept, hash_walked, lists_of, ring_kept, ring_walked}
use Rattle.kc_steps.specs.TasksBy.{passed_by}

-- a step that comes with lists, and then another
pub then_alone : {A B : Type 0} (m : Came A) (f : A × Lists → Came B) (r : Result A Violation) (g : A → Result B Violation) →
    alone m ≡ r → ((x : A) (lists : Lists) → alone (f (x, lists)) ≡ g x) → alone (and_then m f) ≡ and_then r g
then_alone (Ok p) f r g e each = each p.0 p.1 ∙ ap (λ q. and_then q g) e
then_alone (Err v) f r g e each = ap (λ q. and_then q g) e

-- a step that needs no chain, and then another
pub reads_alone : {X A : Type 0} (r : Result X Violation) (f : X → Came A) (g : X → Result A Violation) → ((x : X) → alone (f x) ≡ g x) → alone (and_then r f) ≡ and_then r g
reads_alone (Ok x) f g each = each x
reads_alone (Err v) f g each = refl

-- a rule, and then a step
pub unless_alone : {A : Type 0} (b : Bool) (v : Violation) (m : Came A) (r : Result A Violation) → alone m ≡ r → alone (unless b v m) ≡ unless b v r
unless_alone true v m r e = refl
unless_alone false v m r e = e

-- lists come with what comes alone
came_alone : {A : Type 0} (r : Result A Violation) (f : A → Lists) → alone (and_then r (λ x. Ok (x, f x))) ≡ r
came_alone (Ok x) f = refl
came_alone (Err v) f = refl

pub rings_walked : (image : Image) → WalksRings image (ring_walked image)
rings_walked image asked shape head lists = came_alone (started_at asked.start (ring_walk image shape asked.audit head)) (λ ns. lists)

pub rings_kept : (image : Image) → WalksRings image (ring_kept image)
rings_kept image asked shape head lists = came_alone (started_at asked.start (ring_walk image shape asked.audit head)) (λ ns. lists ++ ns ∷ [])

pub free_is_walked : (image : Image) → WalksFree image (free_walked image)
free_is_walked image asked grid first lists = came_alone (free_list image grid first asked) (λ os. lists)

pub free_is_kept : (image : Image) → WalksFree image (free_kept image)
free_is_kept image asked grid first lists = came_alone (free_list image grid first asked) (λ os. lists ++ os ∷ [])

pub hashes_walked : (image : Image) → WalksHashes image (hash_walked image)
hashes_walked image asked shape head lists = came_alone (started_at asked.start (hash_walk image shape asked.audit head)) (λ ns. lists)

pub hashes_kept : (image : Image) → WalksHashes image (hash_kept image)
hashes_kept image asked shape head lists = came_alone (started_at asked.start (hash_walk image shape asked.audit head)) (λ ns. lists ++ ns ∷ [])

no_err : {A E : Type 0} (e : E) (x : A) → ◌≡◌ {A = Result A E} (Err e) (Ok x) → ⊥
no_err {A} {E} e x is = subst (λ (r : Result A E). OnOk r ⊥) is tt

-- the lists are there where the rest is, and the other way round
pub rest_of : {A : Type 0} (m : Came A) (lists : Lists) → lists_of m ≡ Ok lists → (x : A) × (alone m ≡ Ok x)
rest_of (Ok p) lists e = (p.0, refl)
rest_of (Err v) lists e = absurd (no_err v lists e)

pub lists_with : {A : Type 0} (m : Came A) (x : A) → alone m ≡ Ok x → (lists : Lists) × (lists_of m ≡ Ok lists)
lists_with (Ok p) x e = (p.1, refl)
lists_with (Err v) x e = absurd (no_err v x e)

-- without the lists, of a step that comes to nothing else
abbrev pub passes : Result Lists Violation → Result ⊤ Violation
passes r = and_then r (λ _. Ok tt)

-- a step that comes with lists, and then one that comes to nothing else
pub then_passes : {A : Type 0} (m : Came A) (f : A × Lists → Result Lists Violation) (r : Result A Violation) (g : A → Result ⊤ Violation) →
    alone m ≡ r → ((x : A) (lists : Lists) → passes (f (x, lists)) ≡ g x) → passes (and_then m f) ≡ and_then r g
then_passes (Ok p) f r g e each = each p.0 p.1 ∙ ap (λ q. and_then q g) e
then_passes (Err v) f r g e each = ap (λ q. and_then q g) e

-- a step that needs no ring, and then another
pub reads_passes : {X : Type 0} (r : Result X Violation) (f : X → Result Lists Violation) (g : X → Result ⊤ Violation) → ((x : X) → passes (f x) ≡ g x) → passes (and_then r f) ≡ and_then r g
reads_passes (Ok x) f g each = each x
reads_passes (Err v) f g each = refl

-- two steps that come to nothing else
pub both_pass : (m : Result Lists Violation) (f : Lists → Result Lists Violation) (r : Result ⊤ Violation) (g : Result ⊤ Violation) →
    passes m ≡ r → ((lists : Lists) → passes (f lists) ≡ g) → passes (and_then m f) ≡ and_then r (λ _. g)
both_pass (Ok lists) f r g e each = each lists ∙ ap (λ q. and_then q (λ _. g)) e
both_pass (Err v) f r g e each = ap (λ q. and_then q (λ _. g)) e

-- a step that comes to nothing at all, and lists that are there
pub kept_passing : (r : Result ⊤ Violation) (lists : Lists) → passes (and_then r (λ _. Ok lists)) ≡ r
kept_passing (Ok x) lists = refl
kept_passing (Err v) lists = refl

-- the lists of a step are there, and what came before comes with them
pub passing_alone : {A : Type 0} (m : Result Lists Violation) (r : Result ⊤ Violation) (x : A) → passes m ≡ r → alone (and_then m (λ more. Ok (x, more))) ≡ and_then r (λ _. Ok x)
passing_alone (Ok lists) r x e = ap (λ q. and_then q (λ _. Ok x)) e
passing_alone (Err v) r x e = ap (λ q. and_then q (λ _. Ok x)) e

-- each of some things
pub all_agree : {A : Type 0} (go : A → Lists → Result Lists Violation) (plain : A → Result ⊤ Violation) → ((t : A) (lists : Lists) → passes (go t lists) ≡ plain t) → (ts : List A) (lists : Lists) →
    passes (passed_by go ts lists) ≡ all_pass plain ts
unfolding passed_by all_pass
all_agree go plain each [] lists = refl
all_agree go plain each (t ∷ ts) lists = both_pass (go t lists) _ (plain t) (all_pass plain ts) (each t lists) (λ more. all_agree go plain each ts more)
