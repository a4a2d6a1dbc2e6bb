-- The trees of checks and their tokens.
use Rattle.std.specs.Prelude.{◌≡◌, ℕ, ◌+◌, ◌≤◌, ◌<◌, max, List, [], ◌∷◌, ◌++◌, true}
use Rattle.kc_layout.specs.Path.{Step}
use Rattle.kc_layout.specs.Spelling.{Spells}
use Rattle.kc_expr.specs.declared.tree.Operator.{Operator}
use Rattle.kc_expr.specs.declared.tree.Operator.TheVariants.{Either, Both, Equal, NotEqual, LessEqual, GreaterEqual, Less, Greater, Plus, Minus, BitAnd, BitOr, BitXor}

-- a check: a number, a path of a field, `!` before one, one in parentheses, or an operator between two
pub data Tree : Type 0 where
  literal : (n : ℕ) → Tree
  field : (path : List ℕ) → Tree
  negation : (t : Tree) → Tree
  group : (t : Tree) → Tree
  binary : (op : Operator) → (left : Tree) → (right : Tree) → Tree

pub data Token : Type 0 where
  bang : Token
  open_token : Token
  close_token : Token
  operator : (op : Operator) → Token
  number : (n : ℕ) → Token
  path : (text : List ℕ) → Token

abbrev pub tokens : Tree → List Token
tokens (literal n) = number n ∷ []
tokens (field p) = path p ∷ []
tokens (negation t) = bang ∷ tokens t
tokens (group t) = open_token ∷ (tokens t ++ close_token ∷ [])
tokens (binary op a b) = tokens a ++ operator op ∷ tokens b

-- how tight an operator binds: `||`, `&&`, comparisons, sums
abbrev pub rank_of : Operator → ℕ
rank_of Either = 0
rank_of Both = 1
rank_of Equal = 2
rank_of NotEqual = 2
rank_of LessEqual = 2
rank_of GreaterEqual = 2
rank_of Less = 2
rank_of Greater = 2
rank_of Plus = 3
rank_of Minus = 3
rank_of BitAnd = 3
rank_of BitOr = 3
rank_of BitXor = 3

-- the least rank of a left operand: operators of one rank group to the left, and comparisons don't group
abbrev pub left_rank : Operator → ℕ
left_rank Either = 0
left_rank Both = 1
left_rank Equal = 3
left_rank NotEqual = 3
left_rank LessEqual = 3
left_rank GreaterEqual = 3
left_rank Less = 3
left_rank Greater = 3
left_rank Plus = 3
left_rank Minus = 3
left_rank BitAnd = 3
left_rank BitOr = 3
left_rank BitXor = 3

-- the rank of a tree: units bind tightest
abbrev pub rank : Tree → ℕ
rank (literal n) = 4
rank (field p) = 4
rank (negation t) = 4
rank (group t) = 4
rank (binary op a b) = rank_of op

-- a path that isn't empty, as paths of types are read, of any length
abbrev pub IsPath : List ℕ → Type 0
IsPath text = (step : Step) × (steps : List Step) × Spells true (step ∷ steps) text

-- the operands are ones that may stand there without parentheses, and the paths are paths
abbrev pub Fits : Tree → Type 0
Fits (literal n) = Unit {0}
Fits (field p) = IsPath p
Fits (negation t) = (rank t ≡ 4) × Fits t
Fits (group t) = Fits t
Fits (binary op a b) = (left_rank op ≤ rank a) × (rank_of op < rank b) × Fits a × Fits b

-- how many parentheses and `!` are open at once
abbrev pub depth : Tree → ℕ
depth (literal n) = 0
depth (field p) = 0
depth (negation t) = depth t + 1
depth (group t) = depth t + 1
depth (binary op a b) = max (depth a) (depth b)
