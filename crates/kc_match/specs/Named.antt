-- The types of a name. A kernel has several types of some names.
use Rattle.std.specs.Prelude.{ℕ, ◌&&◌, Bool, false, List, length, is_some, option_and_then, if◌then◌else◌}
use Rattle.std.specs.List.{filter, range_with_len}
use Rattle.std.specs.Option.{option_map_or}
use Rattle.std.specs.Str.{bytes_eq}
use Rattle.kc_btf.specs.declared.types.TypeRef.{TypeRef}
use Rattle.kc_btf.specs.Btf.{Types}
use Rattle.kc_btf.specs.Kind.{is_compound}
use Rattle.kc_btf.specs.Readers.{name_at, type_numbered}
use Rattle.kc_layout.specs.Bare.{compound_under}
use Rattle.kc_layout.specs.Find.{find, is_typedef}

-- whether a type is of the sort of the first one of a name: a struct or union, where that one is, and else a typedef that leads
-- to one
abbrev pub is_like : Types → TypeRef → TypeRef → Bool
is_like types first t =
    if is_compound first.kind then is_compound t.kind else (is_typedef t.kind && is_some (compound_under types t.id))

-- whether it has the name too
abbrev pub is_of : Types → List ℕ → TypeRef → TypeRef → Bool
is_of types name first t = bytes_eq (name_at types.strings t.name) name && is_like types first t

abbrev pub is_of_first : Types → List ℕ → ℕ → TypeRef → Bool
is_of_first types name id first = option_map_or (is_of types name first) (type_numbered types id) false

-- whether a type is one of a name, which finds the first of them
abbrev pub is_type_of : Types → List ℕ → ℕ → Bool
is_type_of types name id = option_map_or (is_of_first types name id) (option_and_then (type_numbered types) (find types name)) false

-- the types of a name, in their order
abbrev pub types_named : Types → List ℕ → List ℕ
types_named types name = filter (is_type_of types name) (range_with_len 1 (length types.records))
