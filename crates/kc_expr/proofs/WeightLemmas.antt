-- A text has at least as many bytes as its check has numbers and paths.
use Rattle.std.proofs.Common.{◌≡◌, ℕ, ◌+◌, ◌-◌, ◌*◌, ◌^◌, ◌≤◌, Bool, true, false, ◌&&◌, ◌==◌, nat_le, nat_lt, List, [], ◌∷◌, length, Option, Some, None, option_map, option_and_then, Result, Ok, Err, if◌then◌else◌, refl, subst, arith}
use Rattle.kc_expr.specs.Tree.{Token, Tree, rank_of, left_rank}
use Rattle.kc_expr.specs.Tree.Token.{bang, open_token, close_token, operator, number, path}
use Rattle.kc_expr.specs.Tree.Tree.{negation, binary}
use Rattle.kc_expr.specs.Machine.{Stack, State, Mark, Piece, Reading, reduce, behind_open, finished, take_token, tree_at, with_operator, is_alone, compares, room, has_open, extend, extended_or, settle, settle_path, begin_token, begin_unit, begin_operator, begin_comparison, next_token, is_start, is_gap, step, result_of, read, parsed, at_start, or_place, more_decimal, more_hex, more_path, behind_step}
use Rattle.kc_expr.specs.Machine.Stack.{bottom, not_on, open_on, left_on}
use Rattle.kc_expr.specs.Machine.State.{want, after}
use Rattle.kc_expr.specs.Machine.Mark.{in_name, before_name, in_index, behind_index, behind_minus}
use Rattle.kc_expr.specs.Machine.Piece.{start, gap, whole, short, half, zero_digit, decimal_digits, hex_mark, hex_digits, path_part}
use Rattle.kc_expr.specs.Values.{leaves}
use Rattle.kc_expr.specs.declared.tree.Operator.TheVariants.{Minus}
use Rattle.kc_word.specs.Hex.{digit_value}
use Rattle.kc_layout.specs.Path.{is_digit, is_letter, is_word}
use Rattle.kc_expr.proofs.ByteLemmas.{Each, each-pick}

stack_leaves : Stack → ℕ
stack_leaves bottom = 0
stack_leaves (not_on s) = stack_leaves s
stack_leaves (open_on s) = stack_leaves s
stack_leaves (left_on op a s) = stack_leaves s + leaves a

state_leaves : State → ℕ
state_leaves (want s) = stack_leaves s
state_leaves (after t s) = stack_leaves s + leaves t

token_leaves : Token → ℕ
token_leaves bang = 0
token_leaves open_token = 0
token_leaves close_token = 0
token_leaves (operator op) = 0
token_leaves (number n) = 1
token_leaves (path p) = 1

piece_leaves : Piece → ℕ
piece_leaves start = 0
piece_leaves gap = 0
piece_leaves (whole token) = token_leaves token
piece_leaves (short op long second) = 0
piece_leaves (half op) = 0
piece_leaves zero_digit = 1
piece_leaves (decimal_digits n) = 1
piece_leaves hex_mark = 1
piece_leaves (hex_digits n) = 1
piece_leaves (path_part mark text) = 1

reading_leaves : Reading → ℕ
reading_leaves r = state_leaves r.state + piece_leaves r.piece

reduce-leaves : (s : Stack) (least : ℕ) (t : Tree) → stack_leaves (reduce least t s).1 + leaves (reduce least t s).0 ≡ stack_leaves s + leaves t
unfolding stack_leaves
reduce-leaves bottom least t = refl
reduce-leaves (open_on s) least t = refl
reduce-leaves (not_on s) least t = reduce-leaves s least (negation t)
reduce-leaves (left_on op a s) least t = by (nat_le least (rank_of op)) (reduce-leaves s least (binary op a t))
  where
    by : (b : Bool) → stack_leaves (reduce least (binary op a t) s).1 + leaves (reduce least (binary op a t) s).0 ≡ stack_leaves s + (leaves a + leaves t) →
        stack_leaves (if b then reduce least (binary op a t) s else (t, left_on op a s)).1 + leaves (if b then reduce least (binary op a t) s else (t, left_on op a s)).0 ≡ stack_leaves s + leaves a + leaves t
    by true e = omega (arith, e)
    by false e = refl

abbrev AtMost : ℕ → State → Type 0
AtMost n s = state_leaves s ≤ n

closed-leaves : (t : Tree) (s : Stack) (n : ℕ) → stack_leaves s + leaves t ≡ n → Each (AtMost n) (behind_open t s)
unfolding stack_leaves state_leaves Each
closed-leaves t bottom n e = tt
closed-leaves t (not_on s) n e = tt
closed-leaves t (open_on s) n e = omega (arith, e)
closed-leaves t (left_on op a s) n e = tt

take-leaves : (s : State) (token : Token) → Each (AtMost (state_leaves s + token_leaves token)) (take_token s token)
unfolding stack_leaves state_leaves token_leaves Each
take-leaves (want s) bang = each-pick (AtMost (stack_leaves s + 0)) (room s) (Some (want (not_on s))) None (omega arith) tt
take-leaves (want s) open_token = each-pick (AtMost (stack_leaves s + 0)) (room s) (Some (want (open_on s))) None (omega arith) tt
take-leaves (want s) close_token = tt
take-leaves (want s) (operator op) = tt
take-leaves (want s) (number n) = omega arith
take-leaves (want s) (path p) = omega arith
take-leaves (after t s) bang = tt
take-leaves (after t s) open_token = tt
take-leaves (after t s) close_token = closed-leaves (reduce 0 t s).0 (reduce 0 t s).1 (stack_leaves s + leaves t + 0) (omega (arith, reduce-leaves s 0 t))
take-leaves (after t s) (operator op) =
    each-pick (AtMost (stack_leaves s + leaves t + 0)) (is_alone op && compares s) None (Some (with_operator op (reduce (left_rank op) t s))) tt (omega (arith, reduce-leaves s (left_rank op) t))
take-leaves (after t s) (number n) = tt
take-leaves (after t s) (path p) = tt

each-more : (n m : ℕ) (o : Option State) → n ≤ m → Each (AtMost n) o → Each (AtMost m) o
unfolding Each
each-more n m None le h = tt
each-more n m (Some s) le h = omega (arith, h)

minus-leaves : (n : ℕ) (o : Option State) → Each (AtMost n) o → Each (AtMost n) (option_and_then (λ next. take_token next (operator Minus)) o)
unfolding Each token_leaves
minus-leaves n None h = tt
minus-leaves n (Some next) h = each-more (state_leaves next + 0) n (take_token next (operator Minus)) (omega (arith, h)) (take-leaves next (operator Minus))

settle-path-leaves : (s : State) (m : Mark) (text : List ℕ) → Each (AtMost (state_leaves s + 1)) (settle_path s m text)
unfolding Each token_leaves
settle-path-leaves s in_name text = take-leaves s (path text)
settle-path-leaves s behind_index text = take-leaves s (path text)
settle-path-leaves s behind_minus text = minus-leaves (state_leaves s + 1) (take_token s (path text)) (take-leaves s (path text))
settle-path-leaves s before_name text = tt
settle-path-leaves s (in_index k) text = tt

settle-leaves : (s : State) (p : Piece) → Each (AtMost (state_leaves s + piece_leaves p)) (settle s p)
unfolding Each token_leaves piece_leaves
settle-leaves s start = omega arith
settle-leaves s gap = omega arith
settle-leaves s (whole token) = take-leaves s token
settle-leaves s (short op long second) = take-leaves s (operator op)
settle-leaves s (half op) = tt
settle-leaves s zero_digit = take-leaves s (number 0)
settle-leaves s (decimal_digits n) = take-leaves s (number n)
settle-leaves s hex_mark = tt
settle-leaves s (hex_digits n) = take-leaves s (number n)
settle-leaves s (path_part mark text) = settle-path-leaves s mark text

abbrev Weighs : ℕ → Piece → Type 0
Weighs n p = piece_leaves p ≤ n

decimal-leaves : (n c : ℕ) → Each (Weighs 1) (more_decimal n c)
unfolding Each piece_leaves
decimal-leaves n c = each-pick (Weighs 1) (is_digit c && nat_lt (10 * n + (c - 48)) (2 ^ 64)) (Some (decimal_digits (10 * n + (c - 48)))) None (omega arith) tt

hex-leaves : (n : ℕ) (d : Option ℕ) → Each (Weighs 1) (more_hex n d)
unfolding Each piece_leaves
hex-leaves n None = tt
hex-leaves n (Some d) = each-pick (Weighs 1) (nat_lt (16 * n + d) (2 ^ 64)) (Some (hex_digits (16 * n + d))) None (omega arith) tt

behind-leaves : (text : List ℕ) (c : ℕ) → Each (Weighs 1) (behind_step text c)
unfolding Each piece_leaves
behind-leaves text c =
    each-pick (Weighs 1) (c == 46) _ _ (omega arith)
    (each-pick (Weighs 1) (c == 91) _ _ (omega arith)
    (each-pick (Weighs 1) (c == 45) _ _ (omega arith) tt))

path-leaves : (m : Mark) (text : List ℕ) (c : ℕ) → Each (Weighs 1) (more_path m text c)
unfolding Each piece_leaves
path-leaves in_name text c = each-pick (Weighs 1) (is_word c) _ (behind_step text c) (omega arith) (behind-leaves text c)
path-leaves before_name text c = each-pick (Weighs 1) (is_letter c) _ _ (omega arith) tt
path-leaves (in_index k) text c =
    each-pick (Weighs 1) (is_digit c) _ _ (each-pick (Weighs 1) (nat_lt k 10) _ _ (omega arith) tt)
    (each-pick (Weighs 1) ((c == 93) && nat_lt 0 k) _ _ (omega arith) tt)
path-leaves behind_index text c = behind-leaves text c
path-leaves behind_minus text c = each-pick (Weighs 1) (c == 62) _ _ (omega arith) tt

extend-leaves : (p : Piece) (c : ℕ) → Each (Weighs (piece_leaves p)) (extend p c)
unfolding Each piece_leaves token_leaves
extend-leaves start c = tt
extend-leaves gap c = tt
extend-leaves (whole token) c = tt
extend-leaves (short op long second) c = each-pick (Weighs 0) (c == second) _ _ (omega arith) tt
extend-leaves (half op) c = each-pick (Weighs 0) (c == 61) _ _ (omega arith) tt
extend-leaves zero_digit c = each-pick (Weighs 1) (c == 120) _ (more_decimal 0 c) (omega arith) (decimal-leaves 0 c)
extend-leaves (decimal_digits n) c = decimal-leaves n c
extend-leaves hex_mark c = hex-leaves 0 (digit_value c)
extend-leaves (hex_digits n) c = hex-leaves n (digit_value c)
extend-leaves (path_part mark text) c = path-leaves mark text c

unit-leaves : (s : Stack) (c : ℕ) → Each (Weighs 1) (begin_unit s c)
unfolding Each piece_leaves token_leaves
unit-leaves s c =
    each-pick (Weighs 1) (c == 33) _ _ (each-pick (Weighs 1) (room s) _ _ (omega arith) tt)
    (each-pick (Weighs 1) (c == 40) _ _ (each-pick (Weighs 1) (room s) _ _ (omega arith) tt)
    (each-pick (Weighs 1) (c == 48) _ _ (omega arith)
    (each-pick (Weighs 1) (is_digit c) _ _ (omega arith)
    (each-pick (Weighs 1) (is_letter c) _ _ (omega arith) tt))))

comparison-leaves : (c : ℕ) → Each (Weighs 1) (begin_comparison c)
unfolding Each piece_leaves
comparison-leaves c =
    each-pick (Weighs 1) (c == 60) _ _ (omega arith)
    (each-pick (Weighs 1) (c == 62) _ _ (omega arith)
    (each-pick (Weighs 1) (c == 61) _ _ (omega arith)
    (each-pick (Weighs 1) (c == 33) _ _ (omega arith) tt)))

operator-leaves : (s : Stack) (c : ℕ) → Each (Weighs 1) (begin_operator s c)
unfolding Each piece_leaves token_leaves
operator-leaves s c =
    each-pick (Weighs 1) (c == 41) _ _ (each-pick (Weighs 1) (has_open s) _ _ (omega arith) tt)
    (each-pick (Weighs 1) (c == 43) _ _ (omega arith)
    (each-pick (Weighs 1) (c == 45) _ _ (omega arith)
    (each-pick (Weighs 1) (c == 94) _ _ (omega arith)
    (each-pick (Weighs 1) (c == 38) _ _ (omega arith)
    (each-pick (Weighs 1) (c == 124) _ _ (omega arith)
    (each-pick (Weighs 1) (compares s) None (begin_comparison c) tt (comparison-leaves c)))))))

begin-leaves : (s : State) (c : ℕ) → Each (Weighs 1) (begin_token s c)
begin-leaves (want s) c = unit-leaves s c
begin-leaves (after t s) c = operator-leaves s c

abbrev Holds : ℕ → Reading → Type 0
Holds n r = reading_leaves r ≤ n

begun-leaves : (s : State) (o : Option Piece) → Each (Weighs 1) o → Each (Holds (state_leaves s + 1)) (option_map (λ begun. record { state = s; piece = begun }) o)
unfolding Each reading_leaves
begun-leaves s None h = tt
begun-leaves s (Some p) h = omega (arith, h)

next-leaves : (first : Bool) (c : ℕ) (s : State) → Each (Holds (state_leaves s + 1)) (next_token first c s)
unfolding Each reading_leaves piece_leaves
next-leaves first c s =
    each-pick (Holds (state_leaves s + 1)) (c == 32) _ _ (each-pick (Holds (state_leaves s + 1)) first None (Some (record { state = s; piece = gap })) tt (omega arith))
    (begun-leaves s (begin_token s c) (begin-leaves s c))

holds-more : (n m : ℕ) (o : Option Reading) → n ≤ m → Each (Holds n) o → Each (Holds m) o
unfolding Each
holds-more n m None le h = tt
holds-more n m (Some r) le h = omega (arith, h)

then-leaves : (n : ℕ) (first : Bool) (c : ℕ) (o : Option State) → Each (AtMost n) o → Each (Holds (n + 1)) (option_and_then (next_token first c) o)
unfolding Each
then-leaves n first c None h = tt
then-leaves n first c (Some s) h = holds-more (state_leaves s + 1) (n + 1) (next_token first c s) (omega (arith, h)) (next-leaves first c s)

extended-leaves : (r : Reading) (c : ℕ) (o : Option Piece) → Each (Weighs (piece_leaves r.piece)) o → Each (Holds (reading_leaves r + 1)) (extended_or r c o)
unfolding Each reading_leaves
extended-leaves r c None h = then-leaves (state_leaves r.state + piece_leaves r.piece) (is_start r.piece) c (settle r.state r.piece) (settle-leaves r.state r.piece)
extended-leaves r c (Some p) h = omega (arith, h)

step-leaves : (r : Reading) (c : ℕ) → Each (Holds (reading_leaves r + 1)) (step r c)
unfolding step
step-leaves r c = extended-leaves r c (extend r.piece c) (extend-leaves r.piece c)

abbrev Small : ℕ → Tree → Type 0
Small n t = leaves t ≤ n

finished-leaves : (t : Tree) (s : Stack) (n : ℕ) → stack_leaves s + leaves t ≤ n → Each (Small n) (finished t s)
unfolding Each
finished-leaves t bottom n h = omega (arith, h)
finished-leaves t (not_on s) n h = tt
finished-leaves t (open_on s) n h = tt
finished-leaves t (left_on op a s) n h = tt

tree-leaves : (n : ℕ) (o : Option State) → Each (AtMost n) o → Each (Small n) (option_and_then tree_at o)
unfolding Each state_leaves
tree-leaves n None h = tt
tree-leaves n (Some (want s)) h = tt
tree-leaves n (Some (after t s)) h = finished-leaves (reduce 0 t s).0 (reduce 0 t s).1 n (omega (arith, reduce-leaves s 0 t, h))

result-leaves : (r : Reading) → Each (Small (reading_leaves r)) (result_of r)
unfolding Each result_of reading_leaves
result-leaves r = each-pick (Small (state_leaves r.state + piece_leaves r.piece)) (is_gap r.piece) None (option_and_then tree_at (settle r.state r.piece)) tt
    (tree-leaves (state_leaves r.state + piece_leaves r.piece) (settle r.state r.piece) (settle-leaves r.state r.piece))

abbrev OkSmall : ℕ → Result Tree ℕ → Type 0
OkSmall n (Ok t) = leaves t ≤ n
OkSmall n (Err place) = Unit {0}

placed-leaves : (m n : ℕ) (o : Option Tree) → Each (Small m) o → OkSmall m (or_place n o)
unfolding Each
placed-leaves m n None h = tt
placed-leaves m n (Some t) h = h

ok-more : (n m : ℕ) (r : Result Tree ℕ) → n ≤ m → OkSmall n r → OkSmall m r
ok-more n m (Ok t) le h = omega (arith, h)
ok-more n m (Err place) le h = tt

read-leaves : (cs : List ℕ) (n : ℕ) (r : Reading) → OkSmall (reading_leaves r + length cs) (read cs n r)
unfolding read Each
read-leaves [] n r = ok-more (reading_leaves r) (reading_leaves r + 0) (or_place n (result_of r)) (omega arith) (placed-leaves (reading_leaves r) n (result_of r) (result-leaves r))
read-leaves (c ∷ cs) n r = on (step r c) (step-leaves r c) (λ next. read-leaves cs (n + 1) next)
  where
    on : (o : Option Reading) → Each (Holds (reading_leaves r + 1)) o → ((next : Reading) → OkSmall (reading_leaves next + length cs) (read cs (n + 1) next)) →
        OkSmall (reading_leaves r + length (c ∷ cs)) (elim o as (λ _. Result Tree ℕ) [ None ↦ Err n | Some next ↦ read cs (n + 1) next ])
    on None h more = tt
    on (Some next) h more = ok-more (reading_leaves next + length cs) (reading_leaves r + length (c ∷ cs)) (read cs (n + 1) next) (omega (arith, h)) (more next)

small-ok : (n : ℕ) (r : Result Tree ℕ) (t : Tree) → OkSmall n r → r ≡ Ok t → leaves t ≤ n
small-ok n (Ok u) t h e = let same : u ≡ t = cc in subst (λ (x : Tree). leaves x ≤ n) same h
small-ok n (Err place) t h e = let none : ⊥ = cc in absurd none

pub parsed-leaves : (text : List ℕ) (t : Tree) → parsed text ≡ Ok t → leaves t ≤ length text
unfolding reading_leaves state_leaves stack_leaves piece_leaves
parsed-leaves text t e = small-ok (length text) (parsed text) t (ok-more (reading_leaves at_start + length text) (length text) (parsed text) (omega arith) (read-leaves text 0 at_start)) e
