-- How a check is read: token by token over what stands open, and byte by byte over the token that is begun.
use Rattle.std.specs.Prelude.{ℕ, ◌+◌, ◌-◌, ◌*◌, ◌^◌, Bool, true, false, ◌&&◌, ◌==◌, nat_le, nat_lt, if◌then◌else◌, List, [], ◌∷◌, ◌++◌, Option, Some, None, option_map, option_and_then, Result, Ok, Err}
use Rattle.kc_word.specs.Hex.{digit_value}
use Rattle.kc_layout.specs.Path.{is_digit, is_letter, is_word}
use Rattle.kc_expr.specs.Tree.{Token, Tree, rank_of, left_rank}
use Rattle.kc_expr.specs.Tree.Token.{bang, open_token, close_token, operator, number, path}
use Rattle.kc_expr.specs.Tree.Tree.{literal, field, negation, group, binary}
use Rattle.kc_expr.specs.declared.tree.Operator.{Operator}
use Rattle.kc_expr.specs.declared.tree.Operator.TheVariants.{Either, Both, Equal, NotEqual, LessEqual, GreaterEqual, Less, Greater, Plus, Minus, BitAnd, BitOr, BitXor}

-- what stands open before the unit that is read, the last first: `!`, a parenthesis, a left operand with its operator
pub data Stack : Type 0 where
  bottom : Stack
  not_on : (below : Stack) → Stack
  open_on : (below : Stack) → Stack
  left_on : (op : Operator) → (left : Tree) → (below : Stack) → Stack

-- a unit is wanted, or one was read
pub data State : Type 0 where
  want : (stack : Stack) → State
  after : (unit : Tree) → (stack : Stack) → State

abbrev pub count_open : Stack → ℕ
count_open bottom = 0
count_open (not_on s) = count_open s + 1
count_open (open_on s) = count_open s + 1
count_open (left_on op t s) = count_open s

-- one more may be opened
abbrev pub room : Stack → Bool
room s = nat_lt (count_open s) 16

abbrev pub has_open : Stack → Bool
has_open bottom = false
has_open (not_on s) = has_open s
has_open (open_on s) = true
has_open (left_on op t s) = has_open s

-- operators that don't group
abbrev pub is_alone : Operator → Bool
is_alone op = rank_of op == 2

-- a comparison stands open whose right operand is read
abbrev pub compares : Stack → Bool
compares bottom = false
compares (not_on s) = compares s
compares (open_on s) = false
compares (left_on op t s) = if nat_le 3 (rank_of op) then compares s else is_alone op

-- a tree that was read with all before it that binds at least so tight
abbrev pub reduce : ℕ → Tree → Stack → Tree × Stack
reduce least t bottom = (t, bottom)
reduce least t (not_on s) = reduce least (negation t) s
reduce least t (open_on s) = (t, open_on s)
reduce least t (left_on op a s) = if nat_le least (rank_of op) then reduce least (binary op a t) s else (t, left_on op a s)

abbrev pub with_operator : Operator → Tree × Stack → State
with_operator op r = want (left_on op r.0 r.1)

abbrev pub behind_open : Tree → Stack → Option State
behind_open t (open_on s) = Some (after (group t) s)
behind_open t _ = None

abbrev pub finished : Tree → Stack → Option Tree
finished t bottom = Some t
finished t _ = None

-- one token more, where it may stand there
abbrev pub take_token : State → Token → Option State
take_token (want s) bang = if room s then Some (want (not_on s)) else None
take_token (want s) open_token = if room s then Some (want (open_on s)) else None
take_token (want s) (number n) = Some (after (literal n) s)
take_token (want s) (path p) = Some (after (field p) s)
take_token (want s) close_token = None
take_token (want s) (operator op) = None
take_token (after t s) close_token = behind_open (reduce 0 t s).0 (reduce 0 t s).1
take_token (after t s) (operator op) =
    if is_alone op && compares s then None else Some (with_operator op (reduce (left_rank op) t s))
take_token (after t s) bang = None
take_token (after t s) open_token = None
take_token (after t s) (number n) = None
take_token (after t s) (path p) = None

-- the tree of a check that ends here
abbrev pub tree_at : State → Option Tree
tree_at (want s) = None
tree_at (after t s) = finished (reduce 0 t s).0 (reduce 0 t s).1

-- tokens one after another, and the tree of all
unfoldable pub take_tokens : List Token → State → Option State
take_tokens [] s = Some s
take_tokens (t ∷ ts) s = option_and_then (take_tokens ts) (take_token s t)

abbrev pub tree_of_tokens : List Token → Option Tree
tree_of_tokens ts = option_and_then tree_at (take_tokens ts (want bottom))

-- where in a path its text ends
pub data Mark : Type 0 where
  in_name : Mark
  before_name : Mark
  in_index : (digits : ℕ) → Mark
  behind_index : Mark
  behind_minus : Mark

-- the token that is begun
pub data Piece : Type 0 where
  -- nothing yet, and a space
  start : Piece
  gap : Piece
  -- one that nothing goes on
  whole : (token : Token) → Piece
  -- `&`, `|`, `<`, `>`, which may be the first half of another operator, and the two that must be
  short : (op : Operator) → (long : Operator) → (second : ℕ) → Piece
  half : (op : Operator) → Piece
  zero_digit : Piece
  decimal_digits : (n : ℕ) → Piece
  hex_mark : Piece
  hex_digits : (n : ℕ) → Piece
  path_part : (mark : Mark) → (text : List ℕ) → Piece

abbrev pub more_decimal : ℕ → ℕ → Option Piece
more_decimal n c = if is_digit c && nat_lt (10 * n + (c - 48)) (2 ^ 64) then Some (decimal_digits (10 * n + (c - 48))) else None

abbrev pub more_hex : ℕ → Option ℕ → Option Piece
more_hex n None = None
more_hex n (Some d) = if nat_lt (16 * n + d) (2 ^ 64) then Some (hex_digits (16 * n + d)) else None

-- the next byte of a path
abbrev pub behind_step : List ℕ → ℕ → Option Piece
behind_step text c =
    if c == 46 then Some (path_part before_name (text ++ 46 ∷ []))
    else (if c == 91 then Some (path_part (in_index 0) (text ++ 91 ∷ []))
    else (if c == 45 then Some (path_part behind_minus text) else None))

abbrev pub more_path : Mark → List ℕ → ℕ → Option Piece
more_path in_name text c = if is_word c then Some (path_part in_name (text ++ c ∷ [])) else behind_step text c
more_path before_name text c = if is_letter c then Some (path_part in_name (text ++ c ∷ [])) else None
more_path (in_index k) text c =
    if is_digit c then (if nat_lt k 10 then Some (path_part (in_index (k + 1)) (text ++ c ∷ [])) else None)
    else (if (c == 93) && nat_lt 0 k then Some (path_part behind_index (text ++ 93 ∷ [])) else None)
more_path behind_index text c = behind_step text c
more_path behind_minus text c = if c == 62 then Some (path_part before_name (text ++ 45 ∷ 62 ∷ [])) else None

-- the token with one byte more, where it goes on so
abbrev pub extend : Piece → ℕ → Option Piece
extend start c = None
extend gap c = None
extend (whole token) c = None
extend (short op long second) c = if c == second then Some (whole (operator long)) else None
extend (half op) c = if c == 61 then Some (whole (operator op)) else None
extend zero_digit c = if c == 120 then Some hex_mark else more_decimal 0 c
extend (decimal_digits n) c = more_decimal n c
extend hex_mark c = more_hex 0 (digit_value c)
extend (hex_digits n) c = more_hex n (digit_value c)
extend (path_part mark text) c = more_path mark text c

-- the same of a token that is no path
abbrev pub longer : Piece → ℕ → Option Piece
longer (path_part mark text) c = None
longer piece c = extend piece c

-- the tokens before the next one, where the begun one may end here
abbrev pub settle_path : State → Mark → List ℕ → Option State
settle_path s in_name text = take_token s (path text)
settle_path s behind_index text = take_token s (path text)
settle_path s behind_minus text = option_and_then (λ next. take_token next (operator Minus)) (take_token s (path text))
settle_path s before_name text = None
settle_path s (in_index k) text = None

abbrev pub settle : State → Piece → Option State
settle s start = Some s
settle s gap = Some s
settle s (whole token) = take_token s token
settle s (short op long second) = take_token s (operator op)
settle s (half op) = None
settle s zero_digit = take_token s (number 0)
settle s (decimal_digits n) = take_token s (number n)
settle s hex_mark = None
settle s (hex_digits n) = take_token s (number n)
settle s (path_part mark text) = settle_path s mark text

-- the token that a byte begins
abbrev pub begin_unit : Stack → ℕ → Option Piece
begin_unit s c =
    if c == 33 then (if room s then Some (whole bang) else None)
    else (if c == 40 then (if room s then Some (whole open_token) else None)
    else (if c == 48 then Some zero_digit
    else (if is_digit c then Some (decimal_digits (c - 48))
    else (if is_letter c then Some (path_part in_name (c ∷ [])) else None))))

abbrev pub begin_comparison : ℕ → Option Piece
begin_comparison c =
    if c == 60 then Some (short Less LessEqual 61)
    else (if c == 62 then Some (short Greater GreaterEqual 61)
    else (if c == 61 then Some (half Equal)
    else (if c == 33 then Some (half NotEqual) else None)))

abbrev pub begin_operator : Stack → ℕ → Option Piece
begin_operator s c =
    if c == 41 then (if has_open s then Some (whole close_token) else None)
    else (if c == 43 then Some (whole (operator Plus))
    else (if c == 45 then Some (whole (operator Minus))
    else (if c == 94 then Some (whole (operator BitXor))
    else (if c == 38 then Some (short BitAnd Both 38)
    else (if c == 124 then Some (short BitOr Either 124)
    else (if compares s then None else begin_comparison c))))))

abbrev pub begin_token : State → ℕ → Option Piece
begin_token (want s) c = begin_unit s c
begin_token (after t s) c = begin_operator s c

-- the tokens that were read, and the one that is begun
pub record Reading : Type 0 where
  pub state : State
  pub piece : Piece

abbrev pub is_start : Piece → Bool
is_start start = true
is_start _ = false

-- a byte behind the token that ends here, or the first byte
abbrev pub next_token : Bool → ℕ → State → Option Reading
next_token first c state =
    if c == 32 then (if first then None else Some (record { state = state; piece = gap }))
    else option_map (λ begun. record { state = state; piece = begun }) (begin_token state c)

abbrev pub extended_or : Reading → ℕ → Option Piece → Option Reading
extended_or r c (Some piece) = Some (record { state = r.state; piece = piece })
extended_or r c None = option_and_then (next_token (is_start r.piece) c) (settle r.state r.piece)

unfoldable pub step : Reading → ℕ → Option Reading
step r c = extended_or r c (extend r.piece c)

-- the tree of a text that ends here: no space stands at its end
abbrev pub is_gap : Piece → Bool
is_gap gap = true
is_gap _ = false

unfoldable pub result_of : Reading → Option Tree
result_of r = if is_gap r.piece then None else option_and_then tree_at (settle r.state r.piece)

abbrev pub at_start : Reading
at_start = record { state = want bottom; piece = start }

-- the tree of a text, or how many bytes of it can be read
abbrev pub or_place : ℕ → Option Tree → Result Tree ℕ
or_place n (Some t) = Ok t
or_place n None = Err n

unfoldable pub read : List ℕ → ℕ → Reading → Result Tree ℕ
read [] n r = or_place n (result_of r)
read (c ∷ cs) n r = elim (step r c) as (λ _. Result Tree ℕ) [ None ↦ Err n | Some next ↦ read cs (n + 1) next ]

-- the tree of a text, or the place where it is no check any more
abbrev pub parsed : List ℕ → Result Tree ℕ
parsed text = read text 0 at_start
