-- A type with a name, by its number.
use Rattle.std.proofs.Common.{◌≡◌, ℕ, zero, suc, ◌+◌, ◌<◌, ◌≤◌, ◌&&◌, ◌||◌, Bool, true, false, List, [], ◌∷◌, length, get_or, slice_get, Some, option_map, ◌∙◌, refl, ap, arith, below_more}
use Rattle.std.specs.List.{list_any}
use Rattle.std.specs.Str.{bytes_eq}
use Rattle.kc_btf.specs.declared.kind.Kind.TheVariants.{Int}
use Rattle.kc_btf.specs.declared.types.TypeRef.{TypeRef}
use Rattle.kc_btf.specs.Btf.{Types}
use Rattle.kc_btf.specs.Records.{Record}
use Rattle.kc_btf.specs.Readers.{name_at, type_numbered, type_ref}
use Rattle.kc_slab_page.specs.Guards.{has_enum, is_enum, is_enum_named}

or_true : (b : Bool) → (b || true) ≡ true
or_true true = refl
or_true false = refl

any_at : {X : Type 0} (p : X → Bool) (xs : List X) (i : ℕ) (d : X) → i < length xs → p (get_or xs i d) ≡ true → list_any p xs ≡ true
any_at p [] i d lt is = absurd (omega (arith, lt))
any_at p (x ∷ xs) zero d lt is = ap (λ (b : Bool). b || list_any p xs) is
any_at p (x ∷ xs) (suc i) d lt is = ap (λ (b : Bool). p x || b) (any_at p xs i d (omega (arith, lt)) is) ∙ or_true (p x)

any_none : {X : Type 0} (p : X → Bool) (xs : List X) (d : X) → ((k : ℕ) → k < length xs → p (get_or xs k d) ≡ false) → list_any p xs ≡ false
any_none p [] d none = refl
any_none p (x ∷ xs) d none = ap (λ (b : Bool). b || list_any p xs) (none 0 (omega arith)) ∙ any_none p xs d (λ k lt. none (suc k) (omega (arith, lt)))

-- a record that stands nowhere
pub nothing : Record
nothing = record { name = 0; kind = Int; flag = false; vlen = 0; rest = 0; words = []; low_spare = 0; high_spare = 0 }

read : (id : ℕ) (i : ℕ) (xs : List Record) (t : TypeRef) (d : Record) → option_map (type_ref id) (slice_get xs i) ≡ Some t → t ≡ type_ref id (get_or xs i d)
read id i [] t d is = let none : ⊥ = cc in absurd none
read id zero (x ∷ xs) t d is = cc
read id (suc i) (x ∷ xs) t d is = read id i xs t d is

named_at : (types : Types) (name : List ℕ) (i : ℕ) (t : TypeRef) (d : Record) → type_numbered types (suc i) ≡ Some t
    → is_enum_named types name (get_or types.records i d) ≡ (is_enum t.kind && bytes_eq (name_at types.strings t.name) name)
named_at types name i t d is = rw (read (suc i) i types.records t d is) refl

pub found_at : (types : Types) (name : List ℕ) (i : ℕ) (t : TypeRef) → i < length types.records → type_numbered types (i + 1) ≡ Some t
    → (is_enum t.kind && bytes_eq (name_at types.strings t.name) name) ≡ true → has_enum types name ≡ true
found_at types name i t lt is named =
    let next : i + 1 ≡ suc i = omega arith in
    any_at (is_enum_named types name) types.records i nothing lt (named_at types name i t nothing (rw next at is) ∙ named)

abbrev pub NoneBefore : Types → List ℕ → ℕ → Type 0
NoneBefore types name i = (k : ℕ) (d : Record) → k < i → is_enum_named types name (get_or types.records k d) ≡ false

pub none_more : (types : Types) (name : List ℕ) (i : ℕ) (t : TypeRef) → NoneBefore types name i → type_numbered types (i + 1) ≡ Some t
    → (is_enum t.kind && bytes_eq (name_at types.strings t.name) name) ≡ false → NoneBefore types name (i + 1)
none_more types name i t none is named k d lt =
    let next : i + 1 ≡ suc i = omega arith in
    let here : is_enum_named types name (get_or types.records i d) ≡ false = named_at types name i t d (rw next at is) ∙ named in
    below_more (λ j. is_enum_named types name (get_or types.records j d) ≡ false) i (λ j. none j d) here k lt

pub found_none : (types : Types) (name : List ℕ) (i : ℕ) → length types.records ≤ i → NoneBefore types name i → has_enum types name ≡ false
found_none types name i all none = any_none (is_enum_named types name) types.records nothing (λ k lt. none k nothing (omega (arith, lt, all)))
