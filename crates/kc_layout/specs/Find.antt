-- The type with a name.
use Rattle.std.specs.Prelude.{◌≡◌, ◌<◌, length, IsTrue, ℕ, suc, Bool, true, false, List, [], ◌∷◌, Option, Some, None, option_map, is_some, option_and_then, ◌&&◌, position}
use Rattle.std.specs.Option.{option_or}
use Rattle.std.specs.Str.{bytes_eq}
use Rattle.kc_btf.specs.declared.kind.Kind.{Kind}
use Rattle.kc_btf.specs.declared.kind.Kind.TheVariants.{Typedef}
use Rattle.kc_btf.specs.Btf.{Types}
use Rattle.kc_btf.specs.Kind.{is_compound}
use Rattle.kc_btf.specs.Records.{Record}
use Rattle.kc_btf.specs.declared.types.TypeRef.{TypeRef}
use Rattle.kc_btf.specs.Readers.{name_at, type_numbered}
use Rattle.kc_layout.specs.declared.find.Wanted.{Wanted}
use Rattle.kc_layout.specs.declared.find.Wanted.TheVariants.{Compound, Alias}
use Rattle.kc_layout.specs.Bare.{under, compound_numbered}

-- whether the type under at most `most` modifiers is a struct or union
abbrev pub leads_to_compound : ℕ → Types → ℕ → Bool
leads_to_compound most types id = is_some (option_and_then (compound_numbered types) (under most types id))

abbrev pub is_typedef : Kind → Bool
is_typedef Typedef = true
is_typedef _ = false

-- whether a type is what is wanted, whatever its name: a struct or union; or a typedef that leads to one,
-- the typedef itself being the first of 32 modifiers
abbrev pub is_wanted : Types → Wanted → Kind → ℕ → Bool
is_wanted types Compound kind target = is_compound kind
is_wanted types Alias kind target = is_typedef kind && leads_to_compound 31 types target

-- whether a type is wanted and has a name
abbrev pub is_named : Types → List ℕ → Wanted → Record → Bool
is_named types name wanted r = bytes_eq (name_at types.strings r.name) name && is_wanted types wanted r.kind r.rest

-- the least number of such a type. The first record is type 1.
abbrev pub least : Types → List ℕ → Wanted → Option ℕ
least types name wanted = option_map (λ i. suc i) (position (is_named types name wanted) types.records)

-- the type with a name: the least struct or union, and where there is none the least typedef that leads to
-- one. No type has the empty name.
abbrev pub find : Types → List ℕ → Option ℕ
find types [] = None
find types (c ∷ cs) = option_or (least types (c ∷ cs) Compound) (least types (c ∷ cs) Alias)

-- what serves under a name: a struct or union; or a typedef that leads to one under at most 32 modifiers,
-- itself among them
abbrev pub Serves : Types → Wanted → ℕ → Kind → Type 0
Serves types Compound id kind = IsTrue (is_compound kind)
Serves types Alias id kind = (kind ≡ Typedef) × IsTrue (leads_to_compound 32 types id)

-- a type that has a name and serves
pub record Bears (types : Types) (name : List ℕ) (wanted : Wanted) (id : ℕ) : Type 0 where
  pub type_ref : TypeRef
  pub there : type_numbered types id ≡ Some type_ref
  pub named : IsTrue (bytes_eq (name_at types.strings type_ref.name) name)
  pub serves : Serves types wanted id type_ref.kind

-- what a type that is found is: it bears the name, which isn't empty, and leads to a struct or union under at
-- most 32 modifiers; none of its sort with a lesser number bears the name; and where it is a typedef, no struct
-- or union does at all
pub record IsFound (types : Types) (name : List ℕ) (id : ℕ) : Type 0 where
  pub wanted : Wanted
  pub some : 0 < length name
  pub bears : Bears types name wanted id
  pub leads : IsTrue (leads_to_compound 32 types id)
  pub least : (k : ℕ) → k < id → Bears types name wanted k → ⊥
  pub compounds_first : wanted ≡ Alias → (k : ℕ) → Bears types name Compound k → ⊥

-- and where none is found, neither a struct or union nor a typedef that leads to one bears the name
abbrev pub FindsType : Types → List ℕ → Option ℕ → Type 0
FindsType types name (Some id) = IsFound types name id
FindsType types name None = 0 < length name → (wanted : Wanted) (k : ℕ) → Bears types name wanted k → ⊥
