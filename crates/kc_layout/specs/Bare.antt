-- What stands under a type number, and under the modifiers of a type.
use Rattle.std.specs.Prelude.{ℕ, List, [], Option, Some, None, unwrap_or, option_map, option_and_then, if◌then◌else◌, zero, suc}
use Rattle.kc_btf.specs.declared.kind.Kind.{Kind}
use Rattle.kc_btf.specs.declared.kind.Kind.TheVariants.{Int, Array, Typedef, Volatile, Const, Restrict, TypeTag, Ptr}
use Rattle.kc_btf.specs.declared.types.TypeRef.{TypeRef}
use Rattle.kc_btf.specs.declared.types.Member.{Member}
use Rattle.kc_btf.specs.declared.types.ArrayOf.{ArrayOf}
use Rattle.kc_btf.specs.declared.types.IntOf.{IntOf}
use Rattle.kc_btf.specs.Btf.{Types}
use Rattle.kc_btf.specs.Kind.{is_compound}
use Rattle.kc_btf.specs.Readers.{record_numbered, type_numbered, members_of, array_of, int_of}
use Rattle.std.specs.Option.{option_map_or}

-- the type of a number, where it is a struct or union
abbrev pub if_compound : TypeRef → Option TypeRef
if_compound t = if is_compound t.kind then Some t else None

abbrev pub compound_numbered : Types → ℕ → Option TypeRef
compound_numbered types id = option_and_then if_compound (type_numbered types id)

-- the members of a type
abbrev pub members_numbered : Types → ℕ → List Member
members_numbered types id = unwrap_or (option_map members_of (record_numbered types id)) []

-- what the type of a number is an array of, where it is one
abbrev pub array_if : Kind → Option ArrayOf → Option ArrayOf
array_if Array array = array
array_if _ array = None

abbrev pub array_numbered : Types → ℕ → Option ArrayOf
array_numbered types id = option_and_then (λ r. array_if r.kind (array_of r)) (record_numbered types id)

-- how the whole number of a type number lies, where it is one
abbrev pub int_if : Kind → Option IntOf → Option IntOf
int_if Int int = int
int_if _ int = None

abbrev pub int_numbered : Types → ℕ → Option IntOf
int_numbered types id = option_and_then (λ r. int_if r.kind (int_of r)) (record_numbered types id)

-- what the type of a number points to, where it is a pointer
abbrev pub target_if : Kind → ℕ → Option ℕ
target_if Ptr target = Some target
target_if _ target = None

abbrev pub target_numbered : Types → ℕ → Option ℕ
target_numbered types id = option_and_then (λ t. target_if t.kind t.rest) (type_numbered types id)

-- Modifiers are typedefs, `volatile`, `const`, `restrict` and tags of types: each is another name of the type
-- that it refers to.

-- what a type refers to, where its kind is a modifier
abbrev pub refers_if : Kind → ℕ → Option ℕ
refers_if Typedef target = Some target
refers_if Volatile target = Some target
refers_if Const target = Some target
refers_if Restrict target = Some target
refers_if TypeTag target = Some target
refers_if _ target = None

-- the type that a modifier modifies. Other types and void are none.
abbrev pub modified : Types → ℕ → Option ℕ
modified types id = option_and_then (λ t. refers_if t.kind t.rest) (type_numbered types id)

-- the type under the modifiers of a type, of which at most `most` are followed
unfoldable pub under : ℕ → Types → ℕ → Option ℕ
under zero types id = option_map_or (λ target. None) (modified types id) (Some id)
under (suc most) types id = option_map_or (under most types) (modified types id) (Some id)

-- what a type is an array of under its modifiers, of which at most 32 are followed
abbrev pub array_under : Types → ℕ → Option ArrayOf
array_under types ty = option_and_then (array_numbered types) (under 32 types ty)

-- what a type points to, where under its modifiers it is a pointer. A pointer has 64 bits.
abbrev pub target_under : Types → ℕ → Option ℕ
target_under types ty = option_and_then (target_numbered types) (under 32 types ty)

-- how many pointers an array has, where under its modifiers a type is an array of them
abbrev pub pointers_under : Types → ℕ → Option ℕ
pointers_under types ty =
    option_and_then (λ array. option_map (λ target. array.nelems) (target_under types array.ty)) (array_under types ty)

-- the struct or union under the modifiers of a type
abbrev pub compound_under : Types → ℕ → Option TypeRef
compound_under types id = option_and_then (compound_numbered types) (under 32 types id)

-- how the whole number under the modifiers of a type lies
abbrev pub int_under : Types → ℕ → Option IntOf
int_under types id = option_and_then (int_numbered types) (under 32 types id)
