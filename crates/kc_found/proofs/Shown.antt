-- Trials whose violations show words of the dump alone.
use Rattle.std.proofs.Common.{◌≡◌, ℕ, Bool, true, false, List, [], ◌∷◌, ◌++◌, ap, subst}
use Rattle.std.specs.Prelude.{Result, Ok, Err, if◌then◌else◌}
use Rattle.kc_memory.specs.declared.words.Place.{Place}
use Rattle.kc_memory.specs.Image.{Image}
use Rattle.kc_memory.specs.Places.{AllStandIn}
use Rattle.kc_found.specs.Taken.{is_taken, with_word}
use Rattle.kc_found.specs.Trials.{Trial, Claim, Break, Meet, and_then, broken_if, judged, met, passed}
use Rattle.kc_found.specs.Violations.{Violation}
use Rattle.kc_found.specs.Showing.{AllShow}

pub all_whole : (image : Image) (ps qs : List Place) → AllStandIn image ps → AllStandIn image qs → AllStandIn image (ps ++ qs)
all_whole image [] qs a b = b
all_whole image (p ∷ ps) qs a b = (a.0, all_whole image ps qs a.1 b)

pub show_whole : {X : Type 0} (image : Image) (ts us : List (Trial X)) → AllShow image ts → AllShow image us → AllShow image (ts ++ us)
show_whole image [] us a b = b
show_whole image (Claim pa v ∷ ts) us a b = (a.0, show_whole image ts us a.1 b)
show_whole image (Break v ∷ ts) us a b = (a.0, show_whole image ts us a.1 b)
show_whole image (Meet x ∷ ts) us a b = show_whole image ts us a b

claim_shows : (image : Image) (b : Bool) (more : List ℕ) (v w : Violation) (go : List ℕ → Result (List ℕ) Violation) → AllStandIn image v.places →
    (go more ≡ Err w → AllStandIn image w.places) → and_then (if b then Err v else Ok more) go ≡ Err w → AllStandIn image w.places
claim_shows image true more v w go here next is = let same : v ≡ w = cc in subst (λ (u : Violation). AllStandIn image u.places) same here
claim_shows image false more v w go here next is = next is

passed_shows : {X : Type 0} (image : Image) (taken : List ℕ) (ts : List (Trial X)) (v : Violation) → AllShow image ts → passed taken ts ≡ Err v → AllStandIn image v.places
passed_shows image taken [] v a is = let none : ⊥ = cc in absurd none
passed_shows image taken (Claim pa u ∷ ts) v a is =
    claim_shows image (is_taken taken pa) (with_word taken pa) u v (λ more. passed more ts) a.0 (passed_shows image (with_word taken pa) ts v a.1) is
passed_shows image taken (Break u ∷ ts) v a is = let same : u ≡ v = cc in subst (λ (w : Violation). AllStandIn image w.places) same a.0
passed_shows image taken (Meet x ∷ ts) v a is = passed_shows image taken ts v a is

judged_by : {X : Type 0} (image : Image) (r : Result (List ℕ) Violation) (xs : List X) (v : Violation) → (r ≡ Err v → AllStandIn image v.places) → and_then r (λ taken. Ok xs) ≡ Err v → AllStandIn image v.places
judged_by image (Ok taken) xs v next is = let none : ⊥ = cc in absurd none
judged_by image (Err u) xs v next is = let same : u ≡ v = cc in next (ap Err same)

-- and so does the first violation of all
pub judged_shows : {X : Type 0} (image : Image) (ts : List (Trial X)) (v : Violation) → AllShow image ts → judged ts ≡ Err v → AllStandIn image v.places
judged_shows image ts v a is = judged_by image (passed [] ts) (met ts) v (passed_shows image [] ts v a) is

pub broken_shows : (image : Image) (b : Bool) (v : Violation) → AllStandIn image v.places → AllShow {X = ℕ} image (broken_if b v)
broken_shows image true v here = (here, tt)
broken_shows image false v here = tt

pub either_shows : {X : Type 0} (image : Image) (b : Bool) (ts us : List (Trial X)) → AllShow image ts → AllShow image us → AllShow image (if b then ts else us)
either_shows image true ts us a b = a
either_shows image false ts us a b = b
