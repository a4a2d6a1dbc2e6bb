-- What comes of a number that several types may tell.
use Rattle.std.proofs.Common.{◌≡◌, ℕ, zero, suc, ◌+◌, ◌<◌, Bool, true, false, cond, if◌then◌else◌, List, [], ◌∷◌, ◌++◌, length, map, slice_get, Option, Some, None, option_map, option_and_then, inl, inr, refl, sym, ap, ◌∙◌, arith}
use Rattle.std.specs.Prelude.{◌⊎◌, IsTrue, ℤ}
use Rattle.std.specs.List.{filter, range_with_len}
use Rattle.std.specs.Option.{option_map_or}
use Rattle.std.proofs.lemmas.List.FromFn.{map-range_with_len_more}
use Rattle.std.proofs.lemmas.Option.{slice_get_within}
use Rattle.kc_btf.specs.declared.types.TypeRef.{TypeRef}
use Rattle.kc_btf.specs.Btf.{Types}
use Rattle.kc_btf.specs.Readers.{type_numbered, type_ref}
use Rattle.kc_btf.specs.Records.{Record}
use Rattle.kc_layout.specs.Find.{find}
use Rattle.kc_match.specs.declared.outcome.Outcome.{Outcome}
use Rattle.kc_match.specs.declared.outcome.Outcome.TheVariants.{Same, Differs, Unknown}
use Rattle.kc_match.specs.Named.{is_of, is_of_first, is_type_of, types_named}
use Rattle.kc_match.specs.Outcomes.{either, fits, fits_named, together}

-- outcomes one after the other, and one more
either-unknown : (o : Outcome) → either o Unknown ≡ o
either-unknown Same = refl
either-unknown (Differs told) = refl
either-unknown Unknown = refl

either-either : (a b c : Outcome) → either a (either b c) ≡ either (either a b) c
either-either Same b c = refl
either-either (Differs told) Same c = refl
either-either (Differs told) (Differs other) Same = refl
either-either (Differs told) (Differs other) (Differs third) = refl
either-either (Differs told) (Differs other) Unknown = refl
either-either (Differs told) Unknown c = refl
either-either Unknown b c = refl

together-more : (os : List Outcome) (o : Outcome) → together (os ++ o ∷ []) ≡ either (together os) o
together-more [] o = either-unknown o
together-more (x ∷ xs) o = ap (either x) (together-more xs o) ∙ either-either x (together xs) o

-- what comes of it beside one type, if that is of the name
abbrev pub at_type : Types → List ℕ → TypeRef → (ℕ → Option ℕ) → ℤ → ℕ → Outcome
at_type types name first tell stated id = if is_of_first types name id first then fits stated (tell id) else Unknown

-- and beside the types so far, and one more
abbrev pub so_far : Types → List ℕ → TypeRef → (ℕ → Option ℕ) → ℤ → ℕ → Outcome
so_far types name first tell stated count = together (map (at_type types name first tell stated) (range_with_len 1 count))

pub so_far-more : (types : Types) (name : List ℕ) (first : TypeRef) (tell : ℕ → Option ℕ) (stated : ℤ) (count : ℕ)
    → so_far types name first tell stated (count + 1) ≡ either (so_far types name first tell stated count) (at_type types name first tell stated (count + 1))
so_far-more types name first tell stated count =
    let more = map-range_with_len_more (at_type types name first tell stated) 1 count (count + 1) (omega arith) in
    ap together more ∙ together-more (map (at_type types name first tell stated) (range_with_len 1 count)) (at_type types name first tell stated (count + 1))

-- what isn't of the name says nothing
picked : (b : Bool) (o rest : Outcome) (f : ℕ → Outcome) (x : ℕ) (xs : List ℕ) → o ≡ f x → rest ≡ together (map f xs)
    → either (if b then o else Unknown) rest ≡ together (map f (cond b (x ∷ xs) xs))
picked true o rest f x xs is so = rw (is, so) refl
picked false o rest f x xs is so = so

together-filter : (test : ℕ → Bool) (f : ℕ → Outcome) (xs : List ℕ) → together (map (λ id. if test id then f id else Unknown) xs) ≡ together (map f (filter test xs))
together-filter test f [] = refl
together-filter test f (x ∷ xs) =
    picked (test x) (f x) (together (map (λ id. if test id then f id else Unknown) xs)) f x (filter test xs) refl (together-filter test f xs)

-- what comes of it beside all types, by the first one of the name
abbrev by_first : Types → List ℕ → (ℕ → Option ℕ) → ℤ → Option TypeRef → Outcome
by_first types name tell stated first =
    together (map (λ id. fits stated (tell id)) (filter (λ id. option_map_or (is_of_first types name id) first false) (range_with_len 1 (length types.records))))

pub all_types : (types : Types) (name : List ℕ) (first : TypeRef) (tell : ℕ → Option ℕ) (stated : ℤ) → option_and_then (type_numbered types) (find types name) ≡ Some first
    → so_far types name first tell stated (length types.records) ≡ fits_named types name tell stated
all_types types name first tell stated found =
    together-filter (λ id. is_of_first types name id first) (λ id. fits stated (tell id)) (range_with_len 1 (length types.records))
    ∙ sym (ap (by_first types name tell stated) found)

none_passes : (xs : List ℕ) → filter (λ id. false) xs ≡ []
none_passes [] = refl
none_passes (x ∷ xs) = none_passes xs

-- a name that no type has
pub no_types : (types : Types) (name : List ℕ) (tell : ℕ → Option ℕ) (stated : ℤ) → find types name ≡ None → fits_named types name tell stated ≡ Unknown
no_types types name tell stated none =
    ap (λ o. by_first types name tell stated (option_and_then (type_numbered types) o)) none
    ∙ ap (λ ids. together (map (λ id. fits stated (tell id)) ids)) (none_passes (range_with_len 1 (length types.records)))

-- a number is among some
abbrev pub Among : List ℕ → ℕ → Type 0
Among [] id = ⊥
Among (x ∷ xs) id = (x ≡ id) ⊎ Among xs id

from_filter : (test : ℕ → Bool) (b : Bool) (x : ℕ) (xs : List ℕ) (id : ℕ) → test x ≡ b → (Among xs id → IsTrue (test id)) → Among (cond b (x ∷ xs) xs) id → IsTrue (test id)
from_filter test true x xs id passes rest (inl same) = cc
from_filter test true x xs id passes rest (inr inside) = rest inside
from_filter test false x xs id passes rest inside = rest inside

among_passes : (test : ℕ → Bool) (xs : List ℕ) (id : ℕ) → Among (filter test xs) id → IsTrue (test id)
among_passes test [] id among = absurd among
among_passes test (x ∷ xs) id among = from_filter test (test x) x (filter test xs) id refl (among_passes test xs id) among

to_filter : (test : ℕ → Bool) (b : Bool) (x : ℕ) (xs : List ℕ) (id : ℕ) → test x ≡ b → IsTrue (test id) → (x ≡ id) ⊎ Among xs id → Among (cond b (x ∷ xs) xs) id
to_filter test true x xs id is passes among = among
to_filter test false x xs id is passes (inl same) = absurd (let none : ⊥ = cc in none)
to_filter test false x xs id is passes (inr inside) = inside

further : (x : ℕ) (xs us : List ℕ) (id : ℕ) → (Among xs id → Among us id) → (x ≡ id) ⊎ Among xs id → (x ≡ id) ⊎ Among us id
further x xs us id rest (inl same) = inl same
further x xs us id rest (inr inside) = inr (rest inside)

passes_among : (test : ℕ → Bool) (xs : List ℕ) (id : ℕ) → IsTrue (test id) → Among xs id → Among (filter test xs) id
passes_among test [] id passes among = absurd among
passes_among test (x ∷ xs) id passes among =
    to_filter test (test x) x (filter test xs) id refl passes (further x xs (filter test xs) id (passes_among test xs id passes) among)

in_range : (a n k : ℕ) → k < n → Among (range_with_len a n) (a + k)
in_range a zero k less = absurd (omega arith)
in_range a (suc n) zero less = inl (omega arith)
in_range a (suc n) (suc k) less =
    let same : a + suc k ≡ a + 1 + k = omega arith in
    inr (rw same (in_range (a + 1) n k (omega arith)))

recorded : (types : Types) (name : List ℕ) (first : TypeRef) (k : ℕ) (r : Option Record) → slice_get types.records k ≡ r
    → option_map_or (is_of types name first) (option_map (type_ref (suc k)) r) false ≡ true → k < length types.records
recorded types name first k None is passes = absurd (let none : ⊥ = cc in none)
recorded types name first k (Some r) is passes = slice_get_within types.records k r is

numbered : (types : Types) (name : List ℕ) (first : TypeRef) (id : ℕ) → is_of_first types name id first ≡ true → Among (range_with_len 1 (length types.records)) id
numbered types name first zero passes = absurd (let none : ⊥ = cc in none)
numbered types name first (suc k) passes =
    let same : suc k ≡ 1 + k = omega arith in
    rw same (in_range 1 (length types.records) k (recorded types name first k (slice_get types.records k) refl passes))

there : (types : Types) (name : List ℕ) (first : Option TypeRef) (id : ℕ) → option_map_or (is_of_first types name id) first false ≡ true → Among (range_with_len 1 (length types.records)) id
there types name None id passes = absurd (let none : ⊥ = cc in none)
there types name (Some first) id passes = numbered types name first id passes

-- the types of a name are those that pass
pub is_among : (types : Types) (name : List ℕ) (id : ℕ) → IsTrue (is_type_of types name id) → Among (types_named types name) id
is_among types name id passes =
    passes_among (is_type_of types name) (range_with_len 1 (length types.records)) id passes
    (there types name (option_and_then (type_numbered types) (find types name)) id passes)

pub among_is : (types : Types) (name : List ℕ) (id : ℕ) → Among (types_named types name) id → IsTrue (is_type_of types name id)
among_is types name id among = among_passes (is_type_of types name) (range_with_len 1 (length types.records)) id among
