-- The types of a file in an index by their names: in which bucket each is kept, and what is looked up there.
use Rattle.std.specs.Prelude.{◌≡◌, ℕ, zero, suc, ◌+◌, ◌*◌, ◌%◌, ◌<◌, ◌≤◌, ◌==◌, ◌&&◌, ◌||◌, Bool, false, List, [], ◌∷◌, ◌++◌, length, Option, None, take, bytes_eq, if◌then◌else◌, All, slice_index_or}
use Rattle.std.specs.Option.{option_or, option_map_or}
use Rattle.std.specs.List as list
use Rattle.kc_btf.specs.declared.kind.Kind.{Kind}
use Rattle.kc_btf.specs.declared.types.TypeRef.{TypeRef}
use Rattle.kc_btf.specs.Btf.{Types}
use Rattle.kc_btf.specs.Kind.{is_compound}
use Rattle.kc_btf.specs.Readers.{name_at, type_numbered}
use Rattle.kc_layout.specs.declared.find.Wanted.{Wanted}
use Rattle.kc_layout.specs.declared.find.Wanted.TheVariants.{Compound, Alias}
use Rattle.kc_layout.specs.Find.{find, is_typedef, is_wanted}

-- the bucket of 8192 that further bytes choose
unfoldable pub chosen : ℕ → List ℕ → ℕ
chosen bucket [] = bucket
chosen bucket (c ∷ cs) = chosen ((31 * bucket + c) % 8192) cs

-- the bucket of a name, by its first 64 bytes
unfoldable pub bucket_of : List ℕ → ℕ
bucket_of name = chosen 0 (take 64 name)

-- whether types of a kind are found by their names: structs, unions and typedefs
abbrev pub is_kept : Kind → Bool
is_kept kind = is_compound kind || is_typedef kind

-- whether a type is kept in a bucket
abbrev pub falls : Types → ℕ → TypeRef → Bool
falls types bucket t = is_kept t.kind && (bucket_of (name_at types.strings t.name) == bucket)

-- the number of a type, where it is kept in a bucket
abbrev pub kept_one : Types → ℕ → ℕ → List ℕ
kept_one types bucket id = if option_map_or (falls types bucket) (type_numbered types id) false then id ∷ [] else []

-- the numbers that are kept in a bucket of the types up to one, by rising number
unfoldable pub kept : Types → ℕ → ℕ → List ℕ
kept types bucket zero = []
kept types bucket (suc id) = kept types bucket id ++ kept_one types bucket (suc id)

-- whether a type has a name and is wanted
abbrev pub bears : Types → List ℕ → Wanted → TypeRef → Bool
bears types name wanted t = bytes_eq (name_at types.strings t.name) name && is_wanted types wanted t.kind t.rest

abbrev pub is_bearer : Types → List ℕ → Wanted → ℕ → Bool
is_bearer types name wanted id = option_map_or (bears types name wanted) (type_numbered types id) false

-- the first of some numbers whose type has a name and is wanted
abbrev pub first_in : Types → List ℕ → List ℕ → Wanted → Option ℕ
first_in types numbers name wanted = list.find (is_bearer types name wanted) numbers

-- what is looked up by a name: in its bucket the first struct or union with it, and where there is none the first
-- typedef with it that leads to one; nothing by the empty name
abbrev pub sought : Types → List (List ℕ) → List ℕ → Option ℕ
sought types buckets [] = None
sought types buckets (c ∷ cs) =
    let numbers = slice_index_or buckets (bucket_of (c ∷ cs)) [] in
    option_or (first_in types numbers (c ∷ cs) Compound) (first_in types numbers (c ∷ cs) Alias)

-- a number of one of the types
abbrev pub IsNumber : Types → ℕ → Type 0
IsNumber types id = (0 < id) × (id ≤ length types.records)

-- an index stands for the types of a file where what is looked up in it is, by every name, the type with the name.
-- It has 8192 buckets, of numbers of types.
pub record StandsFor (types : Types) (buckets : List (List ℕ)) : Type 0 where
  pub answers : (name : List ℕ) → sought types buckets name ≡ find types name
  pub numbers : (bucket : ℕ) → bucket < 8192 → All (IsNumber types) (slice_index_or buckets bucket [])
  pub many : length buckets ≡ 8192
