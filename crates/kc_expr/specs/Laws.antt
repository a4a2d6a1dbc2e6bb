-- The trees that tokens give are those of the grammar.
use Rattle.std.specs.Prelude.{◌≡◌, ◌≤◌, List, [], ◌∷◌, Some}
use Rattle.kc_expr.specs.Tree.{Token, Tree, tokens, Fits, IsPath, depth}
use Rattle.kc_expr.specs.Tree.Token.{bang, open_token, close_token, operator, number, path}
use Rattle.kc_expr.specs.Machine.{tree_of_tokens}

-- the paths among tokens are paths
abbrev pub IsGoodToken : Token → Type 0
IsGoodToken bang = Unit {0}
IsGoodToken open_token = Unit {0}
IsGoodToken close_token = Unit {0}
IsGoodToken (operator op) = Unit {0}
IsGoodToken (number n) = Unit {0}
IsGoodToken (path p) = IsPath p

abbrev pub ArePaths : List Token → Type 0
ArePaths [] = Unit {0}
ArePaths (t ∷ ts) = IsGoodToken t × ArePaths ts

-- each tree of the grammar is read from its tokens, and no other tree is
abbrev pub TokensAreRead : Type 0
TokensAreRead = (t : Tree) → Fits t → depth t ≤ 16 → tree_of_tokens (tokens t) ≡ Some t

-- the tree that tokens give is one of the grammar, and they are its tokens
abbrev pub ReadTokens : Type 0
ReadTokens = (ts : List Token) (t : Tree) → ArePaths ts → tree_of_tokens ts ≡ Some t →
    Fits t × (depth t ≤ 16) × (tokens t ≡ ts)
