-- The fields of a check and its value.
use Rattle.std.specs.Prelude.{ℕ, ◌+◌, ◌-◌, Bool, true, false, ◌&&◌, ◌||◌, not, if◌then◌else◌, List, [], ◌∷◌, ◌++◌, get_or, ℤ, pos, negsuc, ◌+ℤ◌, ◌-ℤ◌, ◌≤ℤ◌, int_lt, int_le, bit_and, bit_or, bit_xor}
use Rattle.std.specs.List.{list_any, position_or_len}
use Rattle.std.specs.Str.{bytes_eq}
use Rattle.std.specs.Ordering.{int_eq}
use Rattle.kc_expr.specs.Tree.{Tree}
use Rattle.kc_expr.specs.Tree.Tree.{literal, field, negation, group, binary}
use Rattle.kc_expr.specs.declared.tree.Operator.{Operator}
use Rattle.kc_expr.specs.declared.tree.Operator.TheVariants.{Either, Both, Equal, NotEqual, LessEqual, GreaterEqual, Less, Greater, Plus, Minus, BitAnd, BitOr, BitXor}

-- the paths of a tree behind others, in the order of first appearance, each once
abbrev pub with_field : List (List ℕ) → List ℕ → List (List ℕ)
with_field fields path = if list_any (λ f. bytes_eq f path) fields then fields else fields ++ path ∷ []

abbrev pub fields_from : List (List ℕ) → Tree → List (List ℕ)
fields_from fields (literal n) = fields
fields_from fields (field p) = with_field fields p
fields_from fields (negation t) = fields_from fields t
fields_from fields (group t) = fields_from fields t
fields_from fields (binary op a b) = fields_from (fields_from fields a) b

abbrev pub fields_of : Tree → List (List ℕ)
fields_of t = fields_from [] t

-- how many numbers and paths a tree has
abbrev pub leaves : Tree → ℕ
leaves (literal n) = 1
leaves (field p) = 1
leaves (negation t) = leaves t
leaves (group t) = leaves t
leaves (binary op a b) = leaves a + leaves b

abbrev pub truth : Bool → ℤ
truth true = pos 1
truth false = pos 0

-- every value other than 0 counts as true
abbrev pub is_true : ℤ → Bool
is_true x = not (int_eq x (pos 0))

-- what is in m and not in n
abbrev pub without : ℕ → ℕ → ℕ
without m n = m - bit_and m n

-- the operators on two's complement, in which -1 - n has just the bits that n hasn't
abbrev pub int_and : ℤ → ℤ → ℤ
int_and (pos m) (pos n) = pos (bit_and m n)
int_and (pos m) (negsuc n) = pos (without m n)
int_and (negsuc m) (pos n) = pos (without n m)
int_and (negsuc m) (negsuc n) = negsuc (bit_or m n)

abbrev pub int_or : ℤ → ℤ → ℤ
int_or (pos m) (pos n) = pos (bit_or m n)
int_or (pos m) (negsuc n) = negsuc (without n m)
int_or (negsuc m) (pos n) = negsuc (without m n)
int_or (negsuc m) (negsuc n) = negsuc (bit_and m n)

abbrev pub int_xor : ℤ → ℤ → ℤ
int_xor (pos m) (pos n) = pos (bit_xor m n)
int_xor (pos m) (negsuc n) = negsuc (bit_xor m n)
int_xor (negsuc m) (pos n) = negsuc (bit_xor m n)
int_xor (negsuc m) (negsuc n) = pos (bit_xor m n)

-- the value of an operator between two values
abbrev pub applied : Operator → ℤ → ℤ → ℤ
applied Either x y = truth (is_true x || is_true y)
applied Both x y = truth (is_true x && is_true y)
applied Equal x y = truth (int_eq x y)
applied NotEqual x y = truth (not (int_eq x y))
applied LessEqual x y = truth (int_le x y)
applied GreaterEqual x y = truth (int_le y x)
applied Less x y = truth (int_lt x y)
applied Greater x y = truth (int_lt y x)
applied Plus x y = x +ℤ y
applied Minus x y = x -ℤ y
applied BitAnd x y = int_and x y
applied BitOr x y = int_or x y
applied BitXor x y = int_xor x y

-- the value of a tree, where the paths have these values
abbrev pub value : List (List ℕ) → List ℤ → Tree → ℤ
value fields values (literal n) = pos n
value fields values (field p) = get_or values (position_or_len (λ f. bytes_eq f p) fields) (pos 0)
value fields values (negation t) = truth (not (is_true (value fields values t)))
value fields values (group t) = value fields values t
value fields values (binary op a b) = applied op (value fields values a) (value fields values b)

-- a number of 64 bits, with a sign or without
abbrev pub IsWord : ℤ → Type 0
IsWord x = (pos 0 ≤ℤ (x +ℤ pos 9223372036854775808)) × (x ≤ℤ pos 18446744073709551615)

-- how large a value is: n has the size of -1 - n
abbrev pub size : ℤ → ℕ
size (pos n) = n
size (negsuc n) = n
