-- What is found of a value is what is written of it.
use Rattle.std.proofs.Common.{◌≡◌, ℕ, zero, suc, ◌+◌, ◌-◌, ◌/◌, ◌<◌, ◌≤◌, inl, inr, List, [], ◌∷◌, ◌++◌, drop, Option, Some, None, option_map, refl, subst, ap, ◌∙◌, arith}
use Rattle.std.specs.List.{AllByRecursion, Contains, filter_map}
use Rattle.std.proofs.lemmas.List.Elements.{Contains-append_left, Contains-append_right}
use Rattle.byteorder.specs.Endian.{little_number}
use Rattle.kc_word.specs.declared.plain.Segment.{Segment}
use Rattle.kc_sight.specs.declared.refs.place.FoundWord.{FoundWord}
use Rattle.kc_sight.specs.declared.refs.place.WordPlace.{WordPlace}
use Rattle.kc_sight.specs.declared.refs.sought.Writing.{Writing}
use Rattle.kc_sight.specs.Refs.Holding.{found_at, in_segment, in_segments, place, places, skipped, word_count}
use Rattle.kc_sight.specs.Refs.Writings.{Sought, writing}
use Rattle.kc_why.specs.Laws.{IsWritten, IsWrittenIn}

all_both : {X : Type 0} (P : X → Type 0) (xs ys : List X) → AllByRecursion P xs → AllByRecursion P ys → AllByRecursion P (xs ++ ys)
all_both P [] ys first rest = rest
all_both P (x ∷ xs) ys first rest = (first.0, all_both P xs ys first.1 rest)

all_then : {X : Type 0} (P Q : X → Type 0) → ((x : X) → P x → Q x) → (xs : List X) → AllByRecursion P xs → AllByRecursion Q xs
all_then P Q follows [] all = tt
all_then P Q follows (x ∷ xs) all = (follows x all.0, all_then P Q follows xs all.1)

-- word k of a segment, as it is found
abbrev found_word : List ℕ → Segment → ℕ → Writing → FoundWord
found_word bytes s k w = record { place = place s k; value = little_number 8 (drop (place s k).off bytes); writing = w }

written : (bytes : List ℕ) (sought : Sought) (s : Segment) (k : ℕ) (w : Writing) → k < word_count s
    → writing sought (little_number 8 (drop (place s k).off bytes)) (place s k).pa ≡ Some w → IsWritten bytes sought (found_word bytes s k w) s
written bytes sought s k w below is = record {
  aligned = omega arith;
  after = omega arith;
  whole = omega arith;
  at = omega arith;
  value = refl;
  holds = is;
}

-- what is said of a word that is found is said of each that is kept, where it is of the rest
kept : {X Y : Type 0} (P : Y → Type 0) (h : X → Option Y) (o : Option Y) (x : X) (xs : List X) → h x ≡ o → ((y : Y) → o ≡ Some y → P y)
    → AllByRecursion P (filter_map h xs) → AllByRecursion P (filter_map h (x ∷ xs))
kept P h None x xs is first rest = rw is rest
kept P h (Some y) x xs is first rest = rw is (first y refl, rest)

-- of one of a segment's words
stand_one : (bytes : List ℕ) (sought : Sought) (s : Segment) (k : ℕ) (o : Option Writing) → k < word_count s
    → writing sought (little_number 8 (drop (place s k).off bytes)) (place s k).pa ≡ o
    → (f : FoundWord) → option_map (found_word bytes s k) o ≡ Some f → IsWritten bytes sought f s
stand_one bytes sought s k None below holds f is = absurd (let none : ⊥ = cc in none)
stand_one bytes sought s k (Some w) below holds f is =
    let same : found_word bytes s k w ≡ f = cc in
    subst (λ g. IsWritten bytes sought g s) same (written bytes sought s k w below holds)

-- of some of a segment's words, those that are found
stand_some : (bytes : List ℕ) (sought : Sought) (s : Segment) (first count : ℕ) → first + count ≤ word_count s
    → AllByRecursion (λ f. IsWritten bytes sought f s) (filter_map (found_at sought bytes) (places s first count))
stand_some bytes sought s first zero fit = tt
stand_some bytes sought s first (suc count) fit =
    kept (λ f. IsWritten bytes sought f s) (found_at sought bytes) (found_at sought bytes (place s first)) (place s first) (places s (first + 1) count) refl
    (stand_one bytes sought s first (writing sought (little_number 8 (drop (place s first).off bytes)) (place s first).pa) (omega (arith, fit)) refl)
    (stand_some bytes sought s (first + 1) count (omega (arith, fit)))

-- those that are found of all segments
pub stand_all : (bytes : List ℕ) (sought : Sought) (segments : List Segment) → AllByRecursion (IsWrittenIn bytes sought segments) (in_segments sought bytes segments)
unfolding in_segments
stand_all bytes sought [] = tt
stand_all bytes sought (s ∷ others) =
    all_both (IsWrittenIn bytes sought (s ∷ others)) (in_segment sought bytes s) (in_segments sought bytes others)
    (all_then (λ f. IsWritten bytes sought f s) (IsWrittenIn bytes sought (s ∷ others)) (λ f is. inl is) (in_segment sought bytes s) (stand_some bytes sought s 0 (word_count s) (omega arith)))
    (all_then (IsWrittenIn bytes sought others) (IsWrittenIn bytes sought (s ∷ others)) (λ f is. inr is) (in_segments sought bytes others) (stand_all bytes sought others))

-- what the rest contains is contained, whether the first one is found or not
contained : {X Y : Type 0} (h : X → Option Y) (o : Option Y) (x : X) (xs : List X) (y : Y) → h x ≡ o → Contains (filter_map h xs) y → Contains (filter_map h (x ∷ xs)) y
contained h None x xs y is rest = rw is rest
contained h (Some z) x xs y is rest = rw is (Contains-append_right (z ∷ []) (filter_map h xs) y rest)

first_contained : {X Y : Type 0} (h : X → Option Y) (x : X) (xs : List X) (y : Y) → h x ≡ Some y → Contains (filter_map h (x ∷ xs)) y
first_contained h x xs y is = rw is (0, omega arith, refl)

-- a word among some of a segment's words that holds what is looked for is found
found_some : (bytes : List ℕ) (sought : Sought) (s : Segment) (first count k last : ℕ) (f : FoundWord) → first + k ≡ last → k < count → found_at sought bytes (place s last) ≡ Some f
    → Contains (filter_map (found_at sought bytes) (places s first count)) f
found_some bytes sought s first zero k last f at lt is = absurd (omega (arith, lt))
found_some bytes sought s first (suc count) zero last f at lt is =
    let same : first ≡ last = omega (arith, at) in
    first_contained (found_at sought bytes) (place s first) (places s (first + 1) count) f (ap (λ (n : ℕ). found_at sought bytes (place s n)) same ∙ is)
found_some bytes sought s first (suc count) (suc k) last f at lt is =
    contained (found_at sought bytes) (found_at sought bytes (place s first)) (place s first) (places s (first + 1) count) f refl
    (found_some bytes sought s (first + 1) count k last f (omega (arith, at)) (omega (arith, lt)) is)

same_place : (p q : WordPlace) → p.pa ≡ q.pa → p.off ≡ q.off → p ≡ q
same_place p q pa off = ap (λ (n : ℕ). record { pa = n; off = p.off }) pa ∙ ap (λ (n : ℕ). record { pa = q.pa; off = n }) off

-- a word of a segment is one of its words, by its number
numbered : (bytes : List ℕ) (sought : Sought) (f : FoundWord) (s : Segment) → IsWritten bytes sought f s → (k : ℕ) × (k < word_count s) × (place s k ≡ f.place)
numbered bytes sought f s is =
    let aligned = is.aligned in
    let after = is.after in
    let whole = is.whole in
    let at = is.at in
    let k = (f.place.pa - s.paddr - skipped s) / 8 in
    (k, omega arith, same_place (place s k) f.place (omega arith) (omega arith))

-- what is found at its place is it
found_there : (bytes : List ℕ) (sought : Sought) (f : FoundWord) (s : Segment) → IsWritten bytes sought f s → found_at sought bytes f.place ≡ Some f
found_there bytes sought f s is =
    ap (λ (v : ℕ). option_map (λ w. record { place = f.place; value = v; writing = w }) (writing sought v f.place.pa)) is.value
    ∙ ap (option_map (λ w. record { place = f.place; value = f.value; writing = w })) is.holds

found_one : (bytes : List ℕ) (sought : Sought) (f : FoundWord) (s : Segment) → IsWritten bytes sought f s → Contains (in_segment sought bytes s) f
found_one bytes sought f s is =
    let n = numbered bytes sought f s is in
    found_some bytes sought s 0 (word_count s) n.0 n.0 f (omega arith) n.1 (ap (found_at sought bytes) n.2 ∙ found_there bytes sought f s is)

-- and so is one of the segments
pub found_all : (bytes : List ℕ) (sought : Sought) (segments : List Segment) (f : FoundWord) → IsWrittenIn bytes sought segments f → Contains (in_segments sought bytes segments) f
unfolding in_segments
found_all bytes sought [] f is = absurd is
found_all bytes sought (s ∷ others) f (inl is) = Contains-append_left (in_segment sought bytes s) (in_segments sought bytes others) f (found_one bytes sought f s is)
found_all bytes sought (s ∷ others) f (inr is) = Contains-append_right (in_segment sought bytes s) (in_segments sought bytes others) f (found_all bytes sought others f is)
