-- What the readers give of a record.
use Rattle.std.specs.Prelude.{ℕ, zero, suc, ◌/◌, ◌%◌, ◌^◌, Bool, true, false, List, [], ◌∷◌, Option, Some, None, option_map, ◌==◌, drop, slice_get}
use Rattle.std.specs.List.{before_first}
use Rattle.kc_btf.specs.declared.types.TypeRef.{TypeRef}
use Rattle.kc_btf.specs.declared.types.Member.{Member}
use Rattle.kc_btf.specs.declared.types.ArrayOf.{ArrayOf}
use Rattle.kc_btf.specs.declared.types.IntOf.{IntOf}
use Rattle.kc_btf.specs.Records.{Record}
use Rattle.kc_btf.specs.Btf.{Types}

-- the name at an offset of the strings: the bytes up to the next NUL
abbrev pub name_at : List ℕ → ℕ → List ℕ
name_at strings offset = before_first (λ c. c == 0) (drop offset strings)

-- the record of a type number. Type 0 is void and has none.
abbrev pub record_numbered : Types → ℕ → Option Record
record_numbered types zero = None
record_numbered types (suc i) = slice_get types.records i

abbrev pub type_ref : ℕ → Record → TypeRef
type_ref id r = record { id = id; kind = r.kind; flag = r.flag; name = r.name; vlen = r.vlen; rest = r.rest }

-- the type of a number
abbrev pub type_numbered : Types → ℕ → Option TypeRef
type_numbered types id = option_map (type_ref id) (record_numbered types id)

-- a member from its name, its type and its place. With the kind flag the place has the first bit in bits 0
-- to 23 and a bit-field's width in bits 24 to 31; without it, it is the first bit.
abbrev pub member_of : Bool → ℕ → ℕ → ℕ → Member
member_of true name ty place = record { name = name; ty = ty; bit = place % 2 ^ 24; width = place / 2 ^ 24 }
member_of false name ty place = record { name = name; ty = ty; bit = place; width = 0 }

-- the members in the numbers of a struct or union, of three numbers each
unfoldable pub members : Bool → List ℕ → List Member
members flag (name ∷ ty ∷ place ∷ more) = member_of flag name ty place ∷ members flag more
members flag _ = []

abbrev pub members_of : Record → List Member
members_of r = members r.flag r.words

-- what an array is of, in its numbers: the elements' type, the index's type and the length
abbrev pub array_in : List ℕ → Option ArrayOf
array_in (ty ∷ index ∷ nelems ∷ []) = Some (record { ty = ty; nelems = nelems })
array_in _ = None

abbrev pub array_of : Record → Option ArrayOf
array_of r = array_in r.words

-- how a whole number lies in its bytes: the width in bits 0 to 7, the first bit in bits 16 to 23, and the
-- encoding in bits 24 to 27, of which the lowest says that the number is signed
abbrev pub int_in : List ℕ → Option IntOf
int_in (word ∷ []) = Some (record { offset = word / 2 ^ 16 % 2 ^ 8; bits = word % 2 ^ 8; signed = word / 2 ^ 24 % 2 == 1 })
int_in _ = None

abbrev pub int_of : Record → Option IntOf
int_of r = int_in r.words
