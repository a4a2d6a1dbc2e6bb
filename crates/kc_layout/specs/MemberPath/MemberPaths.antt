-- The path of the innermost member in which a byte of a type lies.
use Rattle.std.specs.Prelude.{◌<◌, ◌≤◌, ⊤, ℕ, zero, suc, ◌-◌, ◌*◌, ◌/◌, ◌%◌, Bool, true, false, ◌&&◌, ◌||◌, ◌==◌, not, nat_le, nat_lt, if◌then◌else◌, List, [], ◌∷◌, ◌++◌, codes, decimal, find, length, map, Option, Some, None, option_and_then, option_map, unwrap_or}
use Rattle.std.specs.Option.{option_map_or, option_or}
use Rattle.kc_btf.specs.declared.types.ArrayOf.{ArrayOf}
use Rattle.kc_btf.specs.declared.types.Member.{Member}
use Rattle.kc_btf.specs.Btf.{Types}
use Rattle.kc_btf.specs.Readers.{name_at}
use Rattle.kc_layout.specs.Bare.{array_under, compound_under, members_numbered}
use Rattle.kc_layout.specs.Size.{size}
use Rattle.kc_text.specs.Text.{visible}
use Rattle.kc_layout.specs.declared.member_path.step.Label.{Label}
use Rattle.kc_layout.specs.declared.member_path.step.Label.TheVariants.{Name, Index}
use Rattle.kc_layout.specs.declared.member_path.step.Step.{Step}

-- how many bytes a member has: a bit-field counts as the byte that it begins in, and a type without a size as none
abbrev pub byte_count : Types → Member → ℕ
byte_count types m = if m.width == 0 then unwrap_or (size types m.ty) 0 else 1

-- whether a member has a byte of its struct or union
abbrev pub has : Types → ℕ → Member → Bool
has types byte m = nat_le (m.bit / 8) byte && nat_lt (byte - m.bit / 8) (byte_count types m)

-- the last of some members, or another where there are none
unfoldable pub last_or : Option Member → List Member → Option Member
last_or other [] = other
last_or other (m ∷ ms) = last_or (Some m) ms

-- whether a member is an array with no end, which begins at a byte or before it
abbrev pub is_open : Types → ℕ → Member → Bool
is_open types byte m = nat_le (m.bit / 8) byte && option_map_or (λ array. array.nelems == 0) (array_under types m.ty) false

abbrev pub if_open : Types → ℕ → Member → Option Member
if_open types byte m = if is_open types byte m then Some m else None

-- the first member that has a byte; or the last one, where it is an array with no end
abbrev pub holder : Types → ℕ → ℕ → Option Member
holder types byte id =
    option_or (find (has types byte) (members_numbered types id)) (option_and_then (if_open types byte) (last_or None (members_numbered types id)))

-- the step to it
abbrev pub member_step : Types → ℕ → ℕ → Option Step
member_step types byte id =
    option_map (λ (m : Member). record { label = Name m.name; ty = m.ty; byte = byte - m.bit / 8 }) (holder types byte id)

-- the step to the element that has a byte of an array, whose elements have this size; one without elements has no end
abbrev pub element_of : ℕ → ArrayOf → Option ℕ → Option Step
element_of byte array None = None
element_of byte array (Some size) =
    if nat_lt byte (array.nelems * size) || (array.nelems == 0 && nat_lt 0 size) then Some (record { label = Index (byte / size); ty = array.ty; byte = byte % size }) else None

abbrev pub element_step : Types → ℕ → ArrayOf → Option Step
element_step types byte array = element_of byte array (size types array.ty)

-- the step into a type to what has a byte: under its modifiers it is a struct, a union or an array
abbrev pub step_into : Types → ℕ → ℕ → Option Step
step_into types ty byte =
    option_map_or (λ t. member_step types byte t.id) (compound_under types ty) (option_and_then (element_step types byte) (array_under types ty))

-- a name as it is printed, after a dot where a path has begun
abbrev pub name_text : Bool → List ℕ → List ℕ
name_text begun [] = []
name_text false (c ∷ cs) = map visible (c ∷ cs)
name_text true (c ∷ cs) = codes "." ++ map visible (c ∷ cs)

abbrev pub label_text : Types → Bool → Label → List ℕ
label_text types begun (Name name) = name_text begun (name_at types.strings name)
label_text types begun (Index index) = (codes "[" ++ decimal index) ++ codes "]"

-- whether a path has begun behind that
abbrev pub begins : Types → Bool → Label → Bool
begins types begun (Name name) = begun || not (length (name_at types.strings name) == 0)
begins types begun (Index index) = true

-- what a step leads to, and what follows it, where there is one
abbrev pub on_from : (Bool → ℕ → ℕ → List ℕ) → Types → Bool → Option Step → List ℕ
on_from inner types begun None = []
on_from inner types begun (Some s) = label_text types begun s.label ++ inner (begins types begun s.label) s.ty s.byte

-- the path behind one that may have begun, by so many steps at most
unfoldable pub path_within : ℕ → Types → Bool → ℕ → ℕ → List ℕ
path_within zero types begun ty byte = []
path_within (suc levels) types begun ty byte = on_from (path_within levels types) types begun (step_into types ty byte)

-- the path of the innermost member, of at most 32 steps
abbrev pub member_path : Types → ℕ → ℕ → List ℕ
member_path types ty byte = path_within 32 types false ty byte

-- a name that stands in the strings, and a type that is there
abbrev pub LabelIsInside : Types → Label → Type 0
LabelIsInside types (Name name) = name < length types.strings
LabelIsInside types (Index index) = ⊤

pub record LiesInside (types : Types) (s : Step) : Type 0 where
  pub label : LabelIsInside types s.label
  pub ty : s.ty ≤ length types.records
