-- A text that can be read so far goes on to a check, and so the place of a fault is that of the longest front that does.
use Rattle.std.proofs.Common.{◌≡◌, ℕ, zero, suc, ◌+◌, ◌-◌, ◌*◌, ◌^◌, ◌<◌, ◌≤◌, Bool, true, false, ◌&&◌, ◌==◌, nat_le, nat_lt, List, [], ◌∷◌, ◌++◌, length, take, Option, Some, None, is_some, option_map, option_and_then, Result, Ok, Err, if◌then◌else◌, refl, ap, sym, ◌∙◌, subst, arith}
use Rattle.std.proofs.lemmas.Bool.Decides.{nat_tests}
use Rattle.kc_text.specs.Format.{IsPlace}
use Rattle.kc_expr.specs.Tree.{Token, Tree, rank_of, left_rank}
use Rattle.kc_expr.specs.Tree.Token.{bang, open_token, close_token, operator}
use Rattle.kc_expr.specs.Tree.Tree.{literal, field, negation, group, binary}
use Rattle.kc_expr.specs.Machine.{Stack, State, Mark, Piece, Reading, reduce, behind_open, finished, take_token, tree_at, with_operator, compares, room, has_open, extend, extended_or, settle, begin_token, begin_unit, begin_operator, begin_comparison, next_token, is_start, is_gap, step, result_of, read, parsed, at_start, or_place, more_decimal, more_hex, more_path, behind_step}
use Rattle.kc_expr.specs.Machine.Stack.{bottom, not_on, open_on, left_on}
use Rattle.kc_expr.specs.Machine.State.{want, after}
use Rattle.kc_expr.specs.Machine.Mark.{in_name, before_name, in_index, behind_index, behind_minus}
use Rattle.kc_expr.specs.Machine.Piece.{start, gap, whole, short, half, zero_digit, decimal_digits, hex_mark, hex_digits, path_part}
use Rattle.kc_expr.specs.declared.tree.Operator.{Operator}
use Rattle.kc_expr.specs.declared.tree.Operator.TheVariants.{Minus, Plus}
use Rattle.kc_word.specs.Hex.{digit_value}
use Rattle.kc_layout.specs.Path.{is_digit, is_letter, is_word}
use Rattle.kc_expr.proofs.TokenLemmas.{if-true, le-true}
use Rattle.kc_expr.proofs.ByteLemmas.{Each, each-pick, read-step, step-after}

abbrev IsWant : State → Type 0
IsWant (want s) = Unit {0}
IsWant (after t s) = ⊥

abbrev Taken : State → Token → Type 0
Taken s token = is_some (take_token s token) ≡ true

-- the begun token can be ended so that it may stand there
abbrev Alive : State → Piece → Type 0
Alive s start = IsWant s
Alive s gap = Unit {0}
Alive s (whole token) = Taken s token
Alive s (short op long second) = Taken s (operator op) × Taken s (operator long) × ((48 == second) ≡ false) × ((41 == second) ≡ false)
Alive s (half op) = Taken s (operator op)
Alive s zero_digit = IsWant s
Alive s (decimal_digits n) = IsWant s
Alive s hex_mark = IsWant s
Alive s (hex_digits n) = IsWant s
Alive s (path_part mark text) = IsWant s

abbrev IsAlive : Reading → Type 0
IsAlive r = Alive r.state r.piece

each-when : {A : Type 0} (P : A → Type 0) (b : Bool) (x : A) → (b ≡ true → P x) → Each P (if b then Some x else None)
unfolding Each
each-when P true x h = h refl
each-when P false x h = tt

decimal-alive : (s : State) (n c : ℕ) → IsWant s → Each (Alive s) (more_decimal n c)
decimal-alive s n c h = each-when (Alive s) (is_digit c && nat_lt (10 * n + (c - 48)) (2 ^ 64)) (decimal_digits (10 * n + (c - 48))) (λ is. h)

hex-alive : (s : State) (n : ℕ) (d : Option ℕ) → IsWant s → Each (Alive s) (more_hex n d)
unfolding Each
hex-alive s n None h = tt
hex-alive s n (Some d) h = each-when (Alive s) (nat_lt (16 * n + d) (2 ^ 64)) (hex_digits (16 * n + d)) (λ is. h)

behind-alive : (s : State) (text : List ℕ) (c : ℕ) → IsWant s → Each (Alive s) (behind_step text c)
unfolding Each
behind-alive s text c h =
    each-pick (Alive s) (c == 46) _ _ h (each-pick (Alive s) (c == 91) _ _ h (each-pick (Alive s) (c == 45) _ _ h tt))

path-alive : (s : State) (m : Mark) (text : List ℕ) (c : ℕ) → IsWant s → Each (Alive s) (more_path m text c)
unfolding Each
path-alive s in_name text c h = each-pick (Alive s) (is_word c) _ (behind_step text c) h (behind-alive s text c h)
path-alive s before_name text c h = each-pick (Alive s) (is_letter c) _ _ h tt
path-alive s (in_index k) text c h =
    each-pick (Alive s) (is_digit c) _ _ (each-pick (Alive s) (nat_lt k 10) _ _ h tt) (each-pick (Alive s) ((c == 93) && nat_lt 0 k) _ _ h tt)
path-alive s behind_index text c h = behind-alive s text c h
path-alive s behind_minus text c h = each-pick (Alive s) (c == 62) _ _ h tt

extend-alive : (s : State) (p : Piece) (c : ℕ) → Alive s p → Each (Alive s) (extend p c)
unfolding Each
extend-alive s start c h = tt
extend-alive s gap c h = tt
extend-alive s (whole token) c h = tt
extend-alive s (short op long second) c h = each-pick (Alive s) (c == second) _ _ h.1 tt
extend-alive s (half op) c h = each-pick (Alive s) (c == 61) _ _ h tt
extend-alive s zero_digit c h = each-pick (Alive s) (c == 120) _ (more_decimal 0 c) h (decimal-alive s 0 c h)
extend-alive s (decimal_digits n) c h = decimal-alive s n c h
extend-alive s hex_mark c h = hex-alive s 0 (digit_value c) h
extend-alive s (hex_digits n) c h = hex-alive s n (digit_value c) h
extend-alive s (path_part mark text) c h = path-alive s mark text c h

-- reducing by everything goes on at an operator
all-reduced : (op : Operator) (a t : Tree) (s : Stack) → reduce 0 t (left_on op a s) ≡ reduce 0 (binary op a t) s
all-reduced op a t s = if-true (nat_le 0 (rank_of op)) (reduce 0 (binary op a t) s) (t, left_on op a s) (le-true 0 (rank_of op) (omega arith))

close-taken : (s : Stack) (t : Tree) → has_open s ≡ true → is_some (behind_open (reduce 0 t s).0 (reduce 0 t s).1) ≡ true
close-taken bottom t is = let none : ⊥ = cc in absurd none
close-taken (open_on s) t is = refl
close-taken (not_on s) t is = close-taken s (negation t) is
close-taken (left_on op a s) t is =
    subst (λ (q : Tree × Stack). is_some (behind_open q.0 q.1) ≡ true) (sym (all-reduced op a t s)) (close-taken s (binary op a t) is)

unit-alive : (s : Stack) (c : ℕ) → Each (Alive (want s)) (begin_unit s c)
unfolding Each
unit-alive s c =
    each-pick (Alive (want s)) (c == 33) _ _ (each-when (Alive (want s)) (room s) (whole bang) (λ is. ap is_some (if-true (room s) (Some (want (not_on s))) None is)))
    (each-pick (Alive (want s)) (c == 40) _ _ (each-when (Alive (want s)) (room s) (whole open_token) (λ is. ap is_some (if-true (room s) (Some (want (open_on s))) None is)))
    (each-pick (Alive (want s)) (c == 48) _ _ tt
    (each-pick (Alive (want s)) (is_digit c) _ _ tt
    (each-pick (Alive (want s)) (is_letter c) _ _ tt tt))))

free-taken : (b : Bool) (x : State) → b ≡ false → is_some (if b then None else Some x) ≡ true
free-taken false x is = refl
free-taken true x is = let none : ⊥ = cc in absurd none

comparison-alive : (t : Tree) (s : Stack) (c : ℕ) → compares s ≡ false → Each (Alive (after t s)) (begin_comparison c)
unfolding Each
comparison-alive t s c is =
    each-pick (Alive (after t s)) (c == 60) _ _ (free-taken (compares s) _ is, free-taken (compares s) _ is, refl, refl)
    (each-pick (Alive (after t s)) (c == 62) _ _ (free-taken (compares s) _ is, free-taken (compares s) _ is, refl, refl)
    (each-pick (Alive (after t s)) (c == 61) _ _ (free-taken (compares s) _ is)
    (each-pick (Alive (after t s)) (c == 33) _ _ (free-taken (compares s) _ is) tt)))

unless-alive : (P : Piece → Type 0) (b : Bool) (o : Option Piece) → (b ≡ false → Each P o) → Each P (if b then None else o)
unfolding Each
unless-alive P true o h = tt
unless-alive P false o h = h refl

operator-alive : (t : Tree) (s : Stack) (c : ℕ) → Each (Alive (after t s)) (begin_operator s c)
unfolding Each
operator-alive t s c =
    each-pick (Alive (after t s)) (c == 41) _ _ (each-when (Alive (after t s)) (has_open s) (whole close_token) (λ is. close-taken s t is))
    (each-pick (Alive (after t s)) (c == 43) _ _ refl
    (each-pick (Alive (after t s)) (c == 45) _ _ refl
    (each-pick (Alive (after t s)) (c == 94) _ _ refl
    (each-pick (Alive (after t s)) (c == 38) _ _ (refl, refl, refl, refl)
    (each-pick (Alive (after t s)) (c == 124) _ _ (refl, refl, refl, refl)
    (unless-alive (Alive (after t s)) (compares s) (begin_comparison c) (λ is. comparison-alive t s c is)))))))

begin-alive : (s : State) (c : ℕ) → Each (Alive s) (begin_token s c)
begin-alive (want s) c = unit-alive s c
begin-alive (after t s) c = operator-alive t s c

begun-alive : (s : State) (o : Option Piece) → Each (Alive s) o → Each IsAlive (option_map (λ begun. record { state = s; piece = begun }) o)
unfolding Each
begun-alive s None h = tt
begun-alive s (Some p) h = h

then-alive : (first : Bool) (c : ℕ) (o : Option State) → Each IsAlive (option_and_then (next_token first c) o)
unfolding Each
then-alive first c None = tt
then-alive first c (Some s) =
    each-pick IsAlive (c == 32) _ _ (each-pick IsAlive first None (Some (record { state = s; piece = gap })) tt tt) (begun-alive s (begin_token s c) (begin-alive s c))

extended-alive : (r : Reading) (c : ℕ) (o : Option Piece) → Each (Alive r.state) o → Each IsAlive (extended_or r c o)
unfolding Each
extended-alive r c None h = then-alive (is_start r.piece) c (settle r.state r.piece)
extended-alive r c (Some p) h = h

step-alive : (r : Reading) (c : ℕ) → IsAlive r → Each IsAlive (step r c)
unfolding step
step-alive r c h = extended-alive r c (extend r.piece c) (extend-alive r.state r.piece c h)

-- bytes with which a reading ends in a tree
abbrev Completes : Reading → Type 0
Completes r = (more : List ℕ) × (t : Tree) × ((n : ℕ) → read more n r ≡ Ok t)

completes-step : (r next : Reading) (c : ℕ) → step r c ≡ Some next → Completes next → Completes r
completes-step r next c is h = (c ∷ h.0, h.1, λ n. read-step r next c n h.0 is ∙ h.2 (n + 1))

record Ends (r : Reading) (s : State) : Type 0 where
  settled : settle r.state r.piece ≡ Some s
  full : is_gap r.piece ≡ false
  closes : extend r.piece 41 ≡ None

parens : Stack → ℕ
parens bottom = 0
parens (not_on s) = parens s
parens (open_on s) = suc (parens s)
parens (left_on op a s) = parens s

none-open : (s : Stack) (t : Tree) → parens s ≡ 0 → is_some (finished (reduce 0 t s).0 (reduce 0 t s).1) ≡ true
unfolding parens
none-open bottom t is = refl
none-open (open_on s) t is = let none : ⊥ = omega arith in absurd none
none-open (not_on s) t is = none-open s (negation t) is
none-open (left_on op a s) t is = subst (λ (q : Tree × Stack). is_some (finished q.0 q.1) ≡ true) (sym (all-reduced op a t s)) (none-open s (binary op a t) is)

abbrev Closed : ℕ → Option State → Type 0
Closed k o = (t : Tree) × (s : Stack) × (o ≡ Some (after t s)) × (parens s ≡ k)

one-closed : (s : Stack) (t : Tree) (k : ℕ) → parens s ≡ suc k → Closed k (behind_open (reduce 0 t s).0 (reduce 0 t s).1)
unfolding parens
one-closed bottom t k is = let none : ⊥ = omega arith in absurd none
one-closed (open_on s) t k is = (group t, s, refl, omega (arith, is))
one-closed (not_on s) t k is = one-closed s (negation t) k is
one-closed (left_on op a s) t k is = subst (λ (q : Tree × Stack). Closed k (behind_open q.0 q.1)) (sym (all-reduced op a t s)) (one-closed s (binary op a t) k is)

open-there : (s : Stack) (k : ℕ) → parens s ≡ suc k → has_open s ≡ true
unfolding parens
open-there bottom k is = let none : ⊥ = omega arith in absurd none
open-there (open_on s) k is = refl
open-there (not_on s) k is = open-there s k is
open-there (left_on op a s) k is = open-there s k is

some-of : {A : Type 0} (o : Option A) → is_some o ≡ true → (x : A) × (o ≡ Some x)
some-of None is = let none : ⊥ = cc in absurd none
some-of (Some x) is = (x, refl)

result-at : (r : Reading) (s : State) → Ends r s → result_of r ≡ tree_at s
unfolding result_of
result-at r s h = ap (λ (b : Bool). if b then None else option_and_then tree_at (settle r.state r.piece)) h.full ∙ ap (option_and_then tree_at) h.settled

ends-here : (r : Reading) (t : Tree) → result_of r ≡ Some t → Completes r
unfolding read
ends-here r t is = ([], t, λ n. ap (or_place n) is)

close-all : (k : ℕ) (r : Reading) (t : Tree) (s : Stack) → Ends r (after t s) → parens s ≡ k → Completes r
close-all zero r t s h is =
    let u = some-of (finished (reduce 0 t s).0 (reduce 0 t s).1) (none-open s t is) in
    ends-here r u.0 (result-at r (after t s) h ∙ u.1)
close-all (suc k) r t s h is =
    let one = one-closed s t k is in
    let there : step r 41 ≡ Some (record { state = after t s; piece = whole close_token }) =
    step-after r (after t s) 41 h.closes h.settled
    ∙ ap (option_map (λ (begun : Piece). record { state = after t s; piece = begun })) (if-true (has_open s) (Some (whole close_token)) None (open-there s k is)) in
    completes-step r (record { state = after t s; piece = whole close_token }) 41 there
    (close-all k (record { state = after t s; piece = whole close_token }) one.0 one.1 (record { settled = one.2; full = refl; closes = refl }) one.3)

unit-completes : (s : Stack) → Completes (record { state = want s; piece = zero_digit })
unit-completes s = close-all (parens s) (record { state = want s; piece = zero_digit }) (literal 0) s (record { settled = refl; full = refl; closes = refl }) refl

settled-completes : (r : Reading) (s : State) → Ends r s → extend r.piece 48 ≡ None → Completes r
settled-completes r (after t s) h goes = close-all (parens s) r t s h refl
settled-completes r (want s) h goes = completes-step r (record { state = want s; piece = zero_digit }) 48 (step-after r (want s) 48 goes h.settled) (unit-completes s)

whole-completes : (s : State) (token : Token) → Taken s token → Completes (record { state = s; piece = whole token })
whole-completes s token h =
    let next = some-of (take_token s token) h in
    settled-completes (record { state = s; piece = whole token }) next.0 (record { settled = next.1; full = refl; closes = refl }) refl

named-completes : (s : Stack) (text : List ℕ) → Completes (record { state = want s; piece = path_part in_name text })
named-completes s text = close-all (parens s) (record { state = want s; piece = path_part in_name text }) (field text) s (record { settled = refl; full = refl; closes = refl }) refl

indexed-completes : (s : Stack) (text : List ℕ) → Completes (record { state = want s; piece = path_part behind_index text })
indexed-completes s text = close-all (parens s) (record { state = want s; piece = path_part behind_index text }) (field text) s (record { settled = refl; full = refl; closes = refl }) refl

digits-complete : (s : Stack) (k : ℕ) (text : List ℕ) → nat_lt 0 k ≡ true → Completes (record { state = want s; piece = path_part (in_index k) text })
unfolding step
digits-complete s k text is =
    completes-step (record { state = want s; piece = path_part (in_index k) text }) (record { state = want s; piece = path_part behind_index (text ++ 93 ∷ []) }) 93
    (ap (λ (b : Bool). extended_or (record { state = want s; piece = path_part (in_index k) text }) 93 (if b then Some (path_part behind_index (text ++ 93 ∷ [])) else None)) is)
    (indexed-completes s (text ++ 93 ∷ []))

path-completes : (s : Stack) (m : Mark) (text : List ℕ) → Completes (record { state = want s; piece = path_part m text })
unfolding step
path-completes s in_name text = named-completes s text
path-completes s behind_index text = indexed-completes s text
path-completes s behind_minus text = settled-completes (record { state = want s; piece = path_part behind_minus text }) (with_operator Minus (reduce (left_rank Minus) (field text) s)) (record { settled = refl; full = refl; closes = refl }) refl
path-completes s before_name text = completes-step (record { state = want s; piece = path_part before_name text }) (record { state = want s; piece = path_part in_name (text ++ 97 ∷ []) }) 97 refl (named-completes s (text ++ 97 ∷ []))
path-completes s (in_index zero) text = completes-step (record { state = want s; piece = path_part (in_index 0) text }) (record { state = want s; piece = path_part (in_index 1) (text ++ 48 ∷ []) }) 48 refl (digits-complete s 1 (text ++ 48 ∷ []) refl)
path-completes s (in_index (suc k)) text = digits-complete s (suc k) text (grind (arith, nat_tests))

hexed : (s : Stack) (n : ℕ) → Completes (record { state = want s; piece = hex_digits n })
hexed s n = close-all (parens s) (record { state = want s; piece = hex_digits n }) (literal n) s (record { settled = refl; full = refl; closes = refl }) refl

alive-completes : (s : State) (p : Piece) → Alive s p → Completes (record { state = s; piece = p })
unfolding step
alive-completes (want s) start h = completes-step (record { state = want s; piece = start }) (record { state = want s; piece = zero_digit }) 48 refl (unit-completes s)
alive-completes (want s) gap h = completes-step (record { state = want s; piece = gap }) (record { state = want s; piece = zero_digit }) 48 refl (unit-completes s)
alive-completes (after t s) gap h = completes-step (record { state = after t s; piece = gap }) (record { state = after t s; piece = whole (operator Plus) }) 43 refl (whole-completes (after t s) (operator Plus) refl)
alive-completes s (whole token) h = whole-completes s token h
alive-completes s (short op long second) h =
    let next = some-of (take_token s (operator op)) h.0 in
    settled-completes (record { state = s; piece = short op long second }) next.0
    (record { settled = next.1; full = refl; closes = ap (λ (b : Bool). if b then Some (whole (operator long)) else None) h.3 })
    (ap (λ (b : Bool). if b then Some (whole (operator long)) else None) h.2)
alive-completes s (half op) h = completes-step (record { state = s; piece = half op }) (record { state = s; piece = whole (operator op) }) 61 refl (whole-completes s (operator op) h)
alive-completes (want s) zero_digit h = unit-completes s
alive-completes (want s) (decimal_digits n) h = close-all (parens s) (record { state = want s; piece = decimal_digits n }) (literal n) s (record { settled = refl; full = refl; closes = refl }) refl
alive-completes (want s) hex_mark h = completes-step (record { state = want s; piece = hex_mark }) (record { state = want s; piece = hex_digits 0 }) 48 refl (hexed s 0)
alive-completes (want s) (hex_digits n) h = hexed s n
alive-completes (want s) (path_part mark text) h = path-completes s mark text
alive-completes (after t s) start h = absurd h
alive-completes (after t s) zero_digit h = absurd h
alive-completes (after t s) (decimal_digits n) h = absurd h
alive-completes (after t s) hex_mark h = absurd h
alive-completes (after t s) (hex_digits n) h = absurd h
alive-completes (after t s) (path_part mark text) h = absurd h

abbrev GoesFrom : ℕ → Reading → List ℕ → Type 0
GoesFrom n r front = (rest : List ℕ) × (t : Tree) × (read (front ++ rest) n r ≡ Ok t)

record Place (cs : List ℕ) (n : ℕ) (r : Reading) (p d : ℕ) : Type 0 where
  at : p ≡ n + d
  within : d ≤ length cs
  begins : GoesFrom n r (take d cs)
  longest : (m : ℕ) → d < m → m ≤ length cs → GoesFrom n r (take m cs) → ⊥

goes-now : (n : ℕ) (r : Reading) → Completes r → GoesFrom n r []
goes-now n r h = (h.0, h.1, h.2 n)

ended-place : (n p : ℕ) (o : Option Tree) → or_place n o ≡ Err p → p ≡ n
ended-place n p None is = cc
ended-place n p (Some t) is = let none : ⊥ = cc in absurd none

read-stop : (r : Reading) (c n : ℕ) (cs : List ℕ) → step r c ≡ None → read (c ∷ cs) n r ≡ Err n
unfolding read
read-stop r c n cs is = ap (λ (o : Option Reading). elim o as (λ _. Result Tree ℕ) [ None ↦ Err n | Some next ↦ read cs (n + 1) next ]) is

stops-dead : (r : Reading) (c n : ℕ) (cs : List ℕ) → step r c ≡ None → (m : ℕ) → 0 < m → GoesFrom n r (take m (c ∷ cs)) → ⊥
stops-dead r c n cs is zero above goes = omega arith
stops-dead r c n cs is (suc m) above goes =
    let wrong : Err n ≡ Ok goes.1 = sym (read-stop r c n (take m cs ++ goes.0) is) ∙ goes.2 in
    let none : ⊥ = cc in none

goes-further : (r next : Reading) (c n : ℕ) (cs : List ℕ) (d : ℕ) → step r c ≡ Some next →
    ((m : ℕ) → d < m → m ≤ length cs → GoesFrom (n + 1) next (take m cs) → ⊥) →
    (m : ℕ) → suc d < m → m ≤ length (c ∷ cs) → GoesFrom n r (take m (c ∷ cs)) → ⊥
goes-further r next c n cs d is longest zero above few goes = omega arith
goes-further r next c n cs d is longest (suc m) above few goes =
    longest m (omega arith) (omega arith) (goes.0, goes.1, sym (read-step r next c n (take m cs ++ goes.0) is) ∙ goes.2)

place-from : (cs : List ℕ) (n : ℕ) (r : Reading) (p : ℕ) → IsAlive r → read cs n r ≡ Err p → (d : ℕ) × Place cs n r p d
unfolding read Each
place-from [] n r p h is =
    let here : p ≡ n = ended-place n p (result_of r) is in
    (0, record { at = omega (arith, here); within = omega arith; begins = goes-now n r (alive-completes r.state r.piece h); longest = λ m more few goes. omega arith })
place-from (c ∷ cs) n r p h is =
    on (step r c) refl (step-alive r c h) is (λ next alive err. place-from cs (n + 1) next p alive err)
  where
    on : (o : Option Reading) → step r c ≡ o → Each IsAlive o →
        (elim o as (λ _. Result Tree ℕ) [ None ↦ Err n | Some next ↦ read cs (n + 1) next ]) ≡ Err p →
        ((next : Reading) → IsAlive next → read cs (n + 1) next ≡ Err p → (d : ℕ) × Place cs (n + 1) next p d) → (d : ℕ) × Place (c ∷ cs) n r p d
    on None there alive err more =
        let here : p ≡ n = cc in (
          0,
          record {
            at = omega (arith, here);
            within = omega arith;
            begins = goes-now n r (alive-completes r.state r.piece h);
            longest = λ m above few goes. stops-dead r c n cs there m above goes;
          },
        )
    on (Some next) there alive err more =
        let q = more next alive err in (
          suc q.0,
          record {
            at = omega (arith, q.1.at);
            within = omega (arith, q.1.within);
            begins = (q.1.begins.0, q.1.begins.1, read-step r next c n (take q.0 cs ++ q.1.begins.0) there ∙ q.1.begins.2);
            longest = goes-further r next c n cs q.0 there q.1.longest;
          },
        )

-- these bytes go on to a text that is read
abbrev pub GoesOn : List ℕ → Type 0
GoesOn front = (rest : List ℕ) × (t : Tree) × (parsed (front ++ rest) ≡ Ok t)

pub places-longest : (text : List ℕ) (n : ℕ) → parsed text ≡ Err n → IsPlace GoesOn text n
places-longest text p is =
    let q = place-from text 0 at_start p tt is in
    let same : q.0 ≡ p = omega (arith, q.1.at) in
    subst (λ (d : ℕ). IsPlace GoesOn text d) same (record { within = q.1.within; begins = q.1.begins; longest = q.1.longest })
