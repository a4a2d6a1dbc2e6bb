-- The least type with a name.
use Rattle.std.proofs.Common.{◌≡◌, ℕ, zero, suc, ◌+◌, ◌<◌, ◌&&◌, Bool, true, false, List, [], ◌∷◌, length, get_or, Some, None, option_map, ◌∙◌, refl, arith, slice_get, below_more}
use Rattle.std.specs.Prelude.{position, bytes_eq}
use Rattle.std.proofs.lemmas.Bool.Decides.{nat_tests}
use Rattle.std.proofs.lemmas.List.Sums.{position_or_len_is}
use Rattle.kc_btf.specs.declared.kind.Kind.TheVariants.{Int}
use Rattle.kc_btf.specs.declared.types.TypeRef.{TypeRef}
use Rattle.kc_btf.specs.Btf.{Types}
use Rattle.kc_btf.specs.Records.{Record}
use Rattle.kc_btf.specs.Readers.{name_at, type_numbered, type_ref}
use Rattle.kc_layout.specs.declared.find.Wanted.{Wanted}
use Rattle.kc_layout.specs.Find.{is_named, is_wanted, least}

-- the first index at which a test passes
pub position-at : {X : Type 0} (p : X → Bool) (xs : List X) (i : ℕ) (d : X) → i < length xs → ((k : ℕ) → k < i → p (get_or xs k d) ≡ false) → p (get_or xs i d) ≡ true → position p xs ≡ Some i
position-at p xs i d within before here =
    let is = position_or_len_is p xs i d (omega arith) before (λ more. here) in
    rw is grind (arith, nat_tests)

pub position-none : {X : Type 0} (p : X → Bool) (xs : List X) (i : ℕ) (d : X) → i ≡ length xs → ((k : ℕ) → k < i → p (get_or xs k d) ≡ false) → position p xs ≡ None
position-none p xs i d end before =
    let is = position_or_len_is p xs i d (omega arith) before (λ more. absurd (omega arith)) in
    rw is grind (arith, nat_tests)

-- a record that stands nowhere
pub nothing : Record
nothing = record { name = 0; kind = Int; flag = false; vlen = 0; rest = 0; words = []; low_spare = 0; high_spare = 0 }

-- the record of a type
read : (id : ℕ) (i : ℕ) (xs : List Record) (t : TypeRef) (d : Record) → option_map (type_ref id) (slice_get xs i) ≡ Some t → t ≡ type_ref id (get_or xs i d)
read id i [] t d is = let none : ⊥ = cc in absurd none
read id zero (x ∷ xs) t d is = cc
read id (suc i) (x ∷ xs) t d is = read id i xs t d is

-- the test of a record, by its type
pub named-at : (types : Types) (name : List ℕ) (wanted : Wanted) (i : ℕ) (t : TypeRef) (d : Record) → type_numbered types (suc i) ≡ Some t →
    is_named types name wanted (get_or types.records i d) ≡ (bytes_eq (name_at types.strings t.name) name && is_wanted types wanted t.kind t.rest)
named-at types name wanted i t d is = rw (read (suc i) i types.records t d is) refl

pub least-at : (types : Types) (name : List ℕ) (wanted : Wanted) (i : ℕ) (t : TypeRef) (d : Record) → i < length types.records →
    ((k : ℕ) (e : Record) → k < i → is_named types name wanted (get_or types.records k e) ≡ false) →
    type_numbered types (i + 1) ≡ Some t → (bytes_eq (name_at types.strings t.name) name && is_wanted types wanted t.kind t.rest) ≡ true → least types name wanted ≡ Some (i + 1)
least-at types name wanted i t d within before is named =
    let next : i + 1 ≡ suc i = omega arith in
    let here : is_named types name wanted (get_or types.records i d) ≡ true = named-at types name wanted i t d (rw next at is) ∙ named in
    rw (next, position-at (is_named types name wanted) types.records i d within (λ k. before k d) here) refl

pub least-none : (types : Types) (name : List ℕ) (wanted : Wanted) (i : ℕ) → i ≡ length types.records →
    ((k : ℕ) (e : Record) → k < i → is_named types name wanted (get_or types.records k e) ≡ false) → least types name wanted ≡ None
least-none types name wanted i end before = rw (position-none (is_named types name wanted) types.records i nothing end (λ k. before k nothing)) refl

-- one record more that is not named so
pub none-more : (types : Types) (name : List ℕ) (wanted : Wanted) (i : ℕ) (t : TypeRef) → i < length types.records →
    ((k : ℕ) (e : Record) → k < i → is_named types name wanted (get_or types.records k e) ≡ false) →
    type_numbered types (i + 1) ≡ Some t → (bytes_eq (name_at types.strings t.name) name && is_wanted types wanted t.kind t.rest) ≡ false →
    (k : ℕ) (e : Record) → k < i + 1 → is_named types name wanted (get_or types.records k e) ≡ false
none-more types name wanted i t within before is other k e more =
    let next : i + 1 ≡ suc i = omega arith in
    let here : is_named types name wanted (get_or types.records i e) ≡ false = named-at types name wanted i t e (rw next at is) ∙ other in
    below_more (λ j. is_named types name wanted (get_or types.records j e) ≡ false) i (λ j. before j e) here k more
