-- What the code keeps, as the definitions have it.
use Rattle.std.specs.Prelude.{◌≡◌, ℕ, Bool, true, false, List, Option, Some, None}
use Rattle.kc_expr.specs.Tree.{Token, Tree}
use Rattle.kc_expr.specs.Tree.Token.{bang, open_token, close_token, operator, number, path}
use Rattle.kc_expr.specs.Tree.Tree.{literal, field, negation, group, binary}
use Rattle.kc_expr.specs.Machine.{Stack, State, Mark, Piece, Reading}
use Rattle.kc_expr.specs.Machine.Stack.{bottom, not_on, open_on, left_on}
use Rattle.kc_expr.specs.Machine.State.{want, after}
use Rattle.kc_expr.specs.Machine.Mark.{in_name, before_name, in_index, behind_index, behind_minus}
use Rattle.kc_expr.specs.Machine.Piece.{start, gap, whole, short, half, zero_digit, decimal_digits, hex_mark, hex_digits, path_part}
use Rattle.kc_expr.specs.declared.tree.Node.{Node, Literal, Field, Negation', Group', Binary'}
use Rattle.kc_expr.specs.declared.stack.Stack.{Stack as CodeStack, Bottom, Not', Open', Left'}
use Rattle.kc_expr.specs.declared.token.Token.{Token as CodeToken}
use Rattle.kc_expr.specs.declared.token.Token.TheVariants.{Not, Open, Close, Operator, Literal as Number, Path}
use Rattle.kc_expr.specs.declared.state.State.{State as CodeState}
use Rattle.kc_expr.specs.declared.state.State.TheVariants.{Want, After}
use Rattle.kc_expr.specs.declared.piece.Mark.{Mark as CodeMark}
use Rattle.kc_expr.specs.declared.piece.Mark.TheVariants.{InName, BeforeName, InIndex, BehindIndex, BehindMinus}
use Rattle.kc_expr.specs.declared.piece.Piece.{Piece as CodePiece}
use Rattle.kc_expr.specs.declared.piece.Piece.TheVariants as code
use Rattle.kc_expr.specs.declared.reader.Reader.{Reader}

abbrev pub shape : Node → Tree
shape (Literal n) = literal n
shape (Field text) = field text.items
shape (Negation' p a) = negation (shape a)
shape (Group' p a) = group (shape a)
shape (Binary' op p a q b) = binary op (shape a) (shape b)

abbrev pub stack_of : CodeStack → Stack
stack_of Bottom = bottom
stack_of (Not' p s) = not_on (stack_of s)
stack_of (Open' p s) = open_on (stack_of s)
stack_of (Left' op t p s) = left_on op (shape t) (stack_of s)

abbrev pub reduced : Node × CodeStack → Tree × Stack
reduced r = (shape r.0, stack_of r.1)

abbrev pub token_of : CodeToken → Token
token_of Not = bang
token_of Open = open_token
token_of Close = close_token
token_of (Operator op) = operator op
token_of (Number n) = number n
token_of (Path text) = path text.items

abbrev pub state_of : CodeState → State
state_of (Want s) = want (stack_of s)
state_of (After t s) = after (shape t) (stack_of s)

abbrev pub mark_of : CodeMark → Mark
mark_of InName = in_name
mark_of BeforeName = before_name
mark_of (InIndex k) = in_index k
mark_of BehindIndex = behind_index
mark_of BehindMinus = behind_minus

abbrev pub piece_of : CodePiece → Piece
piece_of code.Start = start
piece_of code.Gap = gap
piece_of (code.Whole token) = whole (token_of token)
piece_of (code.Short op long second) = short op long second
piece_of (code.Half op) = half op
piece_of code.Zero = zero_digit
piece_of (code.Decimal n) = decimal_digits n
piece_of code.HexMark = hex_mark
piece_of (code.Hex n) = hex_digits n
piece_of (code.Path mark text) = path_part (mark_of mark) text.items

-- What comes next is there, as `true` says, and it is this; or nothing is there.
abbrev pub Follows : {X : Type 0} → Option X → X → Bool → Type 0
Follows next now true = next ≡ Some now
Follows next now false = next ≡ None

-- the piece goes on by a byte, or it ends there and stays
abbrev pub GoesOn : Piece → Option Piece → Piece → Bool → Type 0
GoesOn old next now true = next ≡ Some now
GoesOn old next now false = (next ≡ None) × (now ≡ old)

-- a path goes on by a byte, with this text and mark, or it ends there and its text stays
abbrev pub PathGoesOn : List ℕ → Option Piece → List ℕ → Option CodeMark → Type 0
PathGoesOn old next now (Some mark) = next ≡ Some (path_part (mark_of mark) now)
PathGoesOn old next now None = (next ≡ None) × (now ≡ old)

abbrev pub reading_of : Reader → Reading
reading_of r = record { state = state_of r.state; piece = piece_of r.piece }
