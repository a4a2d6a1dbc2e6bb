-- What the numbers of a record refer to.
use Rattle.std.specs.Prelude.{ℕ, ◌%◌, ◌<◌, ◌≤◌, ⊤, Bool, true, nat_lt, nat_le, ◌==◌, if◌then◌else◌}
use Rattle.kc_btf.specs.declared.kind.Kind.{Kind}
use Rattle.kc_btf.specs.declared.kind.Kind.TheVariants.{Int, Array, Struct, Union, Enum, Fwd, FuncProto, Datasec, Float, Enum64}
use Rattle.kc_btf.specs.declared.kind.Role.{Role}
use Rattle.kc_btf.specs.declared.kind.Role.TheVariants.{ToName, ToType, Plain}

-- what a record's size or type refers to: a size to nothing, and else to a type
abbrev pub rest_role : Kind → Role
rest_role Int = Plain
rest_role Array = Plain
rest_role Struct = Plain
rest_role Union = Plain
rest_role Enum = Plain
rest_role Fwd = Plain
rest_role Datasec = Plain
rest_role Float = Plain
rest_role Enum64 = Plain
rest_role _ = ToType

-- the role at an index, where two or three roles come again and again
abbrev pub of_two : Role → Role → ℕ → Role
of_two a b i = if i % 2 == 0 then a else b

abbrev pub of_three : Role → Role → Role → ℕ → Role
of_three a b c i = if i % 3 == 0 then a else (if i % 3 == 1 then b else c)

-- what the number at an index behind a record refers to: an ARRAY has its element's type, its index's
-- type and its length; a member its name, type and place; a value its name and number; a parameter its
-- name and type; a variable of a section its type, place and size
abbrev pub role_of : Kind → ℕ → Role
role_of Array i = if nat_lt i 2 then ToType else Plain
role_of Struct i = of_three ToName ToType Plain i
role_of Union i = of_three ToName ToType Plain i
role_of Enum i = of_two ToName Plain i
role_of Enum64 i = of_three ToName Plain Plain i
role_of FuncProto i = of_two ToName ToType i
role_of Datasec i = of_three ToType Plain Plain i
role_of _ i = Plain

-- whether a number lies inside, where the strings have this length and so many types are counted. Type
-- 0 is void.
abbrev pub is_inside : ℕ → ℕ → Role → ℕ → Bool
is_inside strings types ToName n = nat_lt n strings
is_inside strings types ToType n = nat_le n types
is_inside strings types Plain n = true

-- the same as a fact
abbrev pub LiesInside : ℕ → ℕ → Role → ℕ → Type 0
LiesInside strings types ToName n = n < strings
LiesInside strings types ToType n = n ≤ types
LiesInside strings types Plain n = ⊤
