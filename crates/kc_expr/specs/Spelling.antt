-- How the tokens of a check are written, and the texts of its trees.
use Rattle.std.specs.Prelude.{◌≡◌, ◌<◌, ◌≤◌, ◌^◌, ◌↔◌, ◌⊎◌, ℕ, Bool, true, false, List, [], ◌∷◌, ◌++◌, length, All, Some, Ok, Err, codes}
use Rattle.kc_word.specs.Decimal.{decimal_from}
use Rattle.kc_word.specs.Hex.{hex_from}
use Rattle.kc_text.specs.Format.{IsPlace}
use Rattle.kc_expr.specs.Tree.{Token, Tree, tokens, Fits, depth}
use Rattle.kc_expr.specs.Tree.Token.{bang, open_token, close_token, operator, number, path}
use Rattle.kc_expr.specs.Machine.{parsed}
use Rattle.kc_expr.specs.declared.tree.Operator.{Operator}
use Rattle.kc_expr.specs.declared.tree.Operator.TheVariants.{Either, Both, Equal, NotEqual, LessEqual, GreaterEqual, Less, Greater, Plus, Minus, BitAnd, BitOr, BitXor}

abbrev pub sign : Operator → List ℕ
sign Either = codes "||"
sign Both = codes "&&"
sign Equal = codes "=="
sign NotEqual = codes "!="
sign LessEqual = codes "<="
sign GreaterEqual = codes ">="
sign Less = codes "<"
sign Greater = codes ">"
sign Plus = codes "+"
sign Minus = codes "-"
sign BitAnd = codes "&"
sign BitOr = codes "|"
sign BitXor = codes "^"

-- decimal digits, any number of leading zeros among them
abbrev pub IsDecimal : ℕ → List ℕ → Type 0
IsDecimal n text = (0 < length text) × (decimal_from 0 text ≡ Some n)

-- `0x` and hex digits of either case
abbrev pub IsHex : ℕ → List ℕ → Type 0
IsHex n text =
    (digits : List ℕ) × (0 < length digits) × (hex_from 0 digits ≡ Some n) × (text ≡ codes "0x" ++ digits)

-- a text writes a token
abbrev pub Writes : Token → List ℕ → Type 0
Writes bang text = text ≡ codes "!"
Writes open_token text = text ≡ codes "("
Writes close_token text = text ≡ codes ")"
Writes (operator op) text = text ≡ sign op
Writes (number n) text = (n < 2 ^ 64) × (IsDecimal n text ⊎ IsHex n text)
Writes (path p) text = text ≡ p

-- any number of spaces may stand between two tokens, and none before the first
abbrev pub IsGap : Bool → List ℕ → Type 0
IsGap true gap = gap ≡ []
IsGap false gap = All (λ c. c ≡ 32) gap

-- a text spells tokens: what writes them, one after another with gaps between them, is the text
unfoldable pub Spells : Bool → List Token → List ℕ → Type 0
Spells first [] text = text ≡ []
Spells first (token ∷ tokens) text =
    (gap : List ℕ) × (here : List ℕ) × (rest : List ℕ) × IsGap first gap × Writes token here
    × Spells false tokens rest × (text ≡ gap ++ (here ++ rest))

-- A text is that of a tree of the grammar with at most 16 parentheses and `!` open at once. That the longest token is
-- taken needs no words: cut in another way the text gives no tree's tokens.
pub record IsText (text : List ℕ) (t : Tree) : Type 0 where
  pub fits : Fits t
  pub shallow : depth t ≤ 16
  pub spelled : Spells true (tokens t) text

-- these bytes begin the text of some tree
abbrev pub BeginsText : List ℕ → Type 0
BeginsText front = (rest : List ℕ) × (t : Tree) × IsText (front ++ rest) t

-- a text is no tree's, and n is the length of the longest front of it that begins the text of one, however long that is
pub record IsFault (text : List ℕ) (n : ℕ) : Type 0 where
  pub none : (t : Tree) → IsText text t → ⊥
  pub place : IsPlace BeginsText text n

abbrev pub ChecksAreSpelled : Type 0
ChecksAreSpelled = (text : List ℕ) (t : Tree) → (parsed text ≡ Ok t) ↔ IsText text t

abbrev pub FaultsAreLongest : Type 0
FaultsAreLongest = (text : List ℕ) (n : ℕ) → (parsed text ≡ Err n) ↔ IsFault text n

abbrev pub TextsAreOfOne : Type 0
TextsAreOfOne = (text : List ℕ) (t u : Tree) → IsText text t → IsText text u → t ≡ u
