-- The kinds of types.
use Rattle.std.specs.Prelude.{ℕ, ◌*◌, Bool, true, false, List, [], ◌∷◌, Option, ◌==◌}
use Rattle.std.specs.List.{find}
use Rattle.kc_btf.specs.declared.kind.Kind.{Kind}
use Rattle.kc_btf.specs.declared.kind.Kind.TheVariants.{Int, Ptr, Array, Struct, Union, Enum, Fwd, Typedef, Volatile, Const, Restrict, Func, FuncProto, Var, Datasec, Float, DeclTag, TypeTag, Enum64}

-- the number of a kind in the file
abbrev pub kind_number : Kind → ℕ
kind_number Int = 1
kind_number Ptr = 2
kind_number Array = 3
kind_number Struct = 4
kind_number Union = 5
kind_number Enum = 6
kind_number Fwd = 7
kind_number Typedef = 8
kind_number Volatile = 9
kind_number Const = 10
kind_number Restrict = 11
kind_number Func = 12
kind_number FuncProto = 13
kind_number Var = 14
kind_number Datasec = 15
kind_number Float = 16
kind_number DeclTag = 17
kind_number TypeTag = 18
kind_number Enum64 = 19

-- every kind
abbrev pub kinds : List Kind
kinds = Int ∷ Ptr ∷ Array ∷ Struct ∷ Union ∷ Enum ∷ Fwd ∷ Typedef ∷ Volatile ∷ Const ∷ Restrict ∷ Func ∷ FuncProto ∷ Var ∷ Datasec ∷ Float ∷ DeclTag ∷ TypeTag ∷ Enum64 ∷ []

-- the kind with a number
abbrev pub kind_of : ℕ → Option Kind
kind_of n = find (λ kind. kind_number kind == n) kinds

-- how many numbers of 32 bits stand behind a record that counts vlen items: one for an INT, a VAR and a
-- DECL_TAG, three for an ARRAY, and else two or three for each item
abbrev pub following : Kind → ℕ → ℕ
following Int vlen = 1
following Array vlen = 3
following Struct vlen = 3 * vlen
following Union vlen = 3 * vlen
following Enum vlen = 2 * vlen
following FuncProto vlen = 2 * vlen
following Var vlen = 1
following Datasec vlen = 3 * vlen
following DeclTag vlen = 1
following Enum64 vlen = 3 * vlen
following _ vlen = 0

-- whether a kind has members
abbrev pub is_compound : Kind → Bool
is_compound Struct = true
is_compound Union = true
is_compound _ = false
