-- What a text spells is read: its bytes lead to where its tokens lead.
use Rattle.std.proofs.Common.{◌≡◌, ℕ, suc, ◌+◌, ◌-◌, ◌*◌, ◌^◌, ◌<◌, ◌≤◌, Bool, true, false, ◌&&◌, ◌==◌, nat_le, nat_lt, ◌⊎◌, List, [], ◌∷◌, ◌++◌, length, Some, None, option_map, option_and_then, Ok, if◌then◌else◌, refl, ap, sym, ◌∙◌, subst, arith, append_assoc, append-nil, inl, inr}
use Rattle.std.specs.Prelude.{All, IsTrue}
use Rattle.std.proofs.lemmas.Bool.Decides.{nat_tests}
use Rattle.kc_word.specs.Decimal.{decimal_from, decimal_value}
use Rattle.kc_word.specs.Hex.{hex_from, digit_value}
use Rattle.kc_layout.specs.Path.{Step, is_digit, is_letter, is_word}
use Rattle.kc_layout.specs.Path.Step.{Member, Element, Pointee}
use Rattle.kc_layout.specs.Spelling.{IsName, IsIndex, Writes as WritesStep, Spells as SpellsPath}
use Rattle.kc_expr.specs.Tree.{Token, Tree, tokens, Fits, left_rank, rank_of}
use Rattle.kc_expr.specs.Tree.Token.{bang, open_token, close_token, operator, number, path}
use Rattle.kc_expr.specs.Tree.Tree.{literal, field, negation, group, binary}
use Rattle.kc_expr.specs.Machine.{Stack, State, Mark, Piece, Reading, reduce, behind_open, take_token, take_tokens, with_operator, is_alone, compares, room, has_open, extend, settle, begin_token, begin_unit, begin_comparison, is_start, is_gap, step, more_decimal, more_hex, behind_step, tree_at, result_of, read, at_start, or_place, parsed}
use Rattle.kc_expr.specs.Machine.Stack.{bottom, not_on, open_on, left_on}
use Rattle.kc_expr.specs.Machine.State.{want, after}
use Rattle.kc_expr.specs.Machine.Mark.{in_name, before_name, in_index, behind_index, behind_minus}
use Rattle.kc_expr.specs.Machine.Piece.{start, gap, whole, short, half, zero_digit, decimal_digits, hex_mark, hex_digits, path_part}
use Rattle.kc_expr.specs.Spelling.{Writes, Spells, IsDecimal, IsHex, IsText, sign}
use Rattle.kc_expr.specs.Laws.{IsGoodToken, ArePaths}
use Rattle.kc_expr.specs.declared.tree.Operator.{Operator}
use Rattle.kc_expr.specs.declared.tree.Operator.TheVariants.{Either, Both, Equal, NotEqual, LessEqual, GreaterEqual, Less, Greater, Plus, Minus, BitAnd, BitOr, BitXor}
use Rattle.kc_expr.proofs.ByteLemmas.{other-byte, same-byte, less-true, given-some, denied-some, then-some, at, step-on, step-after, Leads, leads-none, leads-byte, leads-both}
use Rattle.kc_expr.proofs.TokenLemmas.{if-true, le-true, tokens-read}

-- the token that is begun ends where a unit begins, and where an operator does
record EndsOther (p : Piece) : Type 0 where
  space : extend p 32 ≡ None
  not : extend p 33 ≡ None
  opens : extend p 40 ≡ None
  digits : (c : ℕ) → is_digit c ≡ true → extend p c ≡ None
  letters : (c : ℕ) → is_letter c ≡ true → extend p c ≡ None

record EndsUnit (p : Piece) : Type 0 where
  space : extend p 32 ≡ None
  not : extend p 33 ≡ None
  and : extend p 38 ≡ None
  closes : extend p 41 ≡ None
  plus : extend p 43 ≡ None
  less : extend p 60 ≡ None
  equal : extend p 61 ≡ None
  greater : extend p 62 ≡ None
  xor : extend p 94 ≡ None
  or : extend p 124 ≡ None

ends-unit : {p : Piece} → (extend p 32 ≡ None) × (extend p 33 ≡ None) × (extend p 38 ≡ None) × (extend p 41 ≡ None)
    × (extend p 43 ≡ None) × (extend p 60 ≡ None) × (extend p 61 ≡ None) × (extend p 62 ≡ None) × (extend p 94 ≡ None)
    × (extend p 124 ≡ None) → EndsUnit p
ends-unit h = record {
  space = h.0;
  not = h.1;
  and = h.2;
  closes = h.3;
  plus = h.4;
  less = h.5;
  equal = h.6;
  greater = h.7;
  xor = h.8;
  or = h.9;
}

-- a `-` behind a unit, which a path keeps to itself
record Minus' (s : State) (r : Reading) : Type 0 where
  next : Reading
  goes : step r 45 ≡ Some next
  settled : settle next.state next.piece ≡ take_token s (operator Minus)
  ends : EndsOther next.piece
  full : is_gap next.piece ≡ false
  begun : is_start next.piece ≡ false

abbrev Ends : State → Reading → Type 0
Ends (want stack) r = EndsOther r.piece
Ends (after t stack) r = EndsUnit r.piece × Minus' (after t stack) r

-- the tokens up to here lead to a state
record Over (s : State) (r : Reading) : Type 0 where
  settled : settle r.state r.piece ≡ Some s
  ends : Ends s r

record Behind (s : State) (r : Reading) : Type 0 where
  over : Over s r
  settled : settle r.state r.piece ≡ Some s
  full : is_gap r.piece ≡ false
  begun : is_start r.piece ≡ false

whole-other : (token : Token) → EndsOther (whole token)
whole-other token = record { space = refl; not = refl; opens = refl; digits = λ c is. refl; letters = λ c is. refl }

minus-plain : (r : Reading) (t : Tree) (stack : Stack) → settle r.state r.piece ≡ Some (after t stack) →
    extend r.piece 45 ≡ None → Minus' (after t stack) r
minus-plain r t stack settled ends = record {
  next = at (after t stack) (whole (operator Minus));
  goes = step-after r (after t stack) 45 ends settled;
  settled = refl;
  ends = whole-other (operator Minus);
  full = refl;
  begun = refl;
}

over-plain : (s : State) (r : Reading) → settle r.state r.piece ≡ Some s → EndsOther r.piece → EndsUnit r.piece →
    extend r.piece 45 ≡ None → Over s r
over-plain (want stack) r settled other unit minus = record { settled = settled; ends = other }
over-plain (after t stack) r settled other unit minus = record {
  settled = settled;
  ends =
      (unit, minus-plain r t stack settled minus);
}

gap-over : (s : State) → Over s (at s gap)
gap-over s = over-plain s (at s gap) refl
    (record { space = refl; not = refl; opens = refl; digits = λ c is. refl; letters = λ c is. refl })
    (ends-unit (refl, refl, refl, refl, refl, refl, refl, refl, refl, refl)) refl

start-over : (s : State) → Over s (at s start)
start-over s = over-plain s (at s start) refl
    (record { space = refl; not = refl; opens = refl; digits = λ c is. refl; letters = λ c is. refl })
    (ends-unit (refl, refl, refl, refl, refl, refl, refl, refl, refl, refl)) refl

whole-behind : (s next : State) (token : Token) → take_token s token ≡ Some next → Behind next (at s (whole token))
whole-behind s next token is = record {
  over = over-plain next (at s (whole token)) is (whole-other token)
      (ends-unit (refl, refl, refl, refl, refl, refl, refl, refl, refl, refl)) refl;
  settled = is;
  full = refl;
  begun = refl;
}

-- a byte begins a token
abbrev Goes : State → Reading → ℕ → Type 0
Goes s r c = step r c ≡ option_map (at s) (begin_token s c)

goes-on : (s : State) (r : Reading) (c : ℕ) → settle r.state r.piece ≡ Some s → (c == 32) ≡ false →
    extend r.piece c ≡ None → Goes s r c
goes-on s r c settled not-space ends =
    step-after r s c ends settled
    ∙ ap (λ (b : Bool). if b then (if is_start r.piece then None else Some (at s gap)) else option_map (at s)
    (begin_token s c)) not-space

-- a token of a text leads to where it is taken
abbrev Reads : State → Reading → List ℕ → Type 0
Reads next r here = (last : Reading) × Behind next last × Leads r here last

single : (s next : State) (r : Reading) (token : Token) (c : ℕ) → Goes s r c → begin_token s c ≡ Some (whole token) →
    take_token s token ≡ Some next → Reads next r (c ∷ [])
single s next r token c goes begins is = (
  at s (whole token),
  whole-behind s next token is,
  leads-byte r (at s (whole token)) (at s (whole token)) c [] (goes ∙ ap (option_map (at s)) begins) (leads-none (at s
      (whole token))),
)

double : (s next : State) (r : Reading) (token : Token) (p : Piece) (c d : ℕ) → Goes s r c →
    begin_token s c ≡ Some p → extend p d ≡ Some (whole token) →
    take_token s token ≡ Some next → Reads next r (c ∷ d ∷ [])
double s next r token p c d goes begins more is = (
  at s (whole token),
  whole-behind s next token is,
  leads-byte r (at s p) (at s (whole token)) c (d ∷ []) (goes ∙ ap (option_map (at s)) begins)
      (leads-byte (at s p) (at s (whole token)) (at s (whole token)) d [] (step-on s p (whole token) d more)
      (leads-none (at s (whole token)))),
)

-- operators whose text begins another's
short-other : (op long : Operator) (second : ℕ) → (32 == second) ≡ false → (33 == second) ≡ false →
    (40 == second) ≡ false → is_digit second ≡ false → is_letter second ≡ false → EndsOther (short op long second)
short-other op long second space mark opens digit letter = record {
  space = off space;
  not = off mark;
  opens = off opens;
  digits = λ c is. off (other-byte is_digit c second is digit);
  letters = λ c is. off (other-byte is_letter c second is letter);
}
  where
    off : {b : Bool} → b ≡ false → (if b then Some (whole (operator long)) else None) ≡ None
    off is = ap (λ (b : Bool). if b then Some (whole (operator long)) else None) is

short-reads : (s : State) (stack : Stack) (r : Reading) (op long : Operator) (c second : ℕ) → Goes s r c →
    begin_token s c ≡ Some (short op long second) →
    EndsOther (short op long second) → take_token s (operator op) ≡ Some (want stack) → Reads (want stack) r (c ∷ [])
short-reads s stack r op long c second goes begins ends is = (
  at s (short op long second),
  record { over = record { settled = is; ends = ends }; settled = is; full = refl; begun = refl },
  leads-byte r (at s (short op long second)) (at s (short op long second)) c [] (goes ∙ ap (option_map (at s)) begins)
      (leads-none (at s (short op long second))),
)

compares-begins : (t : Tree) (stack : Stack) (c : ℕ) (p : Piece) → compares stack ≡ false → begin_token
    (after t stack) c ≡ (if compares stack then None else begin_comparison c) → begin_comparison c ≡ Some p →
    begin_token (after t stack) c ≡ Some p
compares-begins t stack c p free here is = here ∙ ap (λ (b : Bool). if b then None else begin_comparison c) free ∙ is

operator-reads : (op : Operator) (t : Tree) (stack : Stack) (r : Reading) → Over (after t stack) r →
    (is_alone op && compares stack) ≡ false →
    take_token (after t stack) (operator op) ≡ Some (with_operator op (reduce (left_rank op) t stack)) → Reads
    (with_operator op (reduce (left_rank op) t stack)) r (sign op)
operator-reads Plus t stack r h free is = single (after t stack) _ r (operator Plus) 43 (goes-on
    (after t stack) r 43 h.settled refl h.ends.0.plus) refl is
operator-reads BitXor t stack r h free is = single (after t stack) _ r (operator BitXor) 94 (goes-on
    (after t stack) r 94 h.settled refl h.ends.0.xor) refl is
operator-reads Minus t stack r h free is =
    let m = h.ends.1 in (
      m.next,
      record {
        over = record { settled = m.settled ∙ is; ends = m.ends };
        settled = m.settled
            ∙ is;
        full = m.full;
        begun = m.begun;
      },
      leads-byte r m.next m.next 45 [] m.goes (leads-none m.next),
    )
operator-reads BitAnd t stack r h free is =
    short-reads (after t stack) _ r BitAnd Both 38 38 (goes-on (after t stack) r 38 h.settled refl h.ends.0.and) refl
    (short-other BitAnd Both 38 refl refl refl refl refl) is
operator-reads BitOr t stack r h free is =
    short-reads (after t stack) _ r BitOr Either 124 124 (goes-on
    (after t stack) r 124 h.settled refl h.ends.0.or) refl
    (short-other BitOr Either 124 refl refl refl refl refl) is
operator-reads Both t stack r h free is =
    double (after t stack) _ r (operator Both) (short BitAnd Both 38) 38 38 (goes-on
    (after t stack) r 38 h.settled refl h.ends.0.and) refl refl is
operator-reads Either t stack r h free is =
    double (after t stack) _ r (operator Either) (short BitOr Either 124) 124 124 (goes-on
    (after t stack) r 124 h.settled refl h.ends.0.or) refl refl is
operator-reads Less t stack r h free is =
    short-reads (after t stack) _ r Less LessEqual 60 61 (goes-on (after t stack) r 60 h.settled refl h.ends.0.less)
    (compares-begins t stack 60 (short Less LessEqual 61) free refl refl)
    (short-other Less LessEqual 61 refl refl refl refl refl) is
operator-reads Greater t stack r h free is =
    short-reads (after t stack) _ r Greater GreaterEqual 62 61 (goes-on
    (after t stack) r 62 h.settled refl h.ends.0.greater)
    (compares-begins t stack 62 (short Greater GreaterEqual 61) free refl refl)
    (short-other Greater GreaterEqual 61 refl refl refl refl refl) is
operator-reads LessEqual t stack r h free is =
    double (after t stack) _ r (operator LessEqual) (short Less LessEqual 61) 60 61 (goes-on
    (after t stack) r 60 h.settled refl h.ends.0.less)
    (compares-begins t stack 60 (short Less LessEqual 61) free refl refl) refl is
operator-reads GreaterEqual t stack r h free is =
    double (after t stack) _ r (operator GreaterEqual) (short Greater GreaterEqual 61) 62 61 (goes-on
    (after t stack) r 62 h.settled refl h.ends.0.greater)
    (compares-begins t stack 62 (short Greater GreaterEqual 61) free refl refl) refl is
operator-reads Equal t stack r h free is =
    double (after t stack) _ r (operator Equal) (half Equal) 61 61 (goes-on
    (after t stack) r 61 h.settled refl h.ends.0.equal)
    (compares-begins t stack 61 (half Equal) free refl refl) refl is
operator-reads NotEqual t stack r h free is =
    double (after t stack) _ r (operator NotEqual) (half NotEqual) 33 61 (goes-on
    (after t stack) r 33 h.settled refl h.ends.0.not)
    (compares-begins t stack 33 (half NotEqual) free refl refl) refl is

-- a parenthesis is closed where one is open
open-before : (stack : Stack) (t : Tree) (next : State) → behind_open (reduce 0 t stack).0
    (reduce 0 t stack).1 ≡ Some next → has_open stack ≡ true
open-before bottom t next is = let none : ⊥ = cc in absurd none
open-before (open_on s) t next is = refl
open-before (not_on s) t next is = open-before s (negation t) next is
open-before (left_on op a s) t next is =
    let all : reduce 0 t (left_on op a s) ≡ reduce 0 (binary op a t) s = if-true (nat_le 0 (rank_of op)) _ _
    (le-true 0 (rank_of op) (omega arith)) in
    open-before s (binary op a t) next (ap (λ (q : Tree × Stack). behind_open q.0 q.1) (sym all) ∙ is)

-- the digits of a number
record NumberPiece (n : ℕ) (p : Piece) : Type 0 where
  settles : (s : State) → settle s p ≡ take_token s (number n)
  ends : EndsUnit p
  minus : extend p 45 ≡ None
  full : is_gap p ≡ false
  begun : is_start p ≡ false

zero-piece : NumberPiece 0 zero_digit
zero-piece = record {
  settles = λ s. refl;
  ends = ends-unit (refl, refl, refl, refl, refl, refl, refl, refl, refl, refl);
  minus = refl;
  full = refl;
  begun = refl;
}

decimal-piece : (n : ℕ) → NumberPiece n (decimal_digits n)
decimal-piece n = record {
  settles = λ s. refl;
  ends = ends-unit (refl, refl, refl, refl, refl, refl, refl, refl, refl, refl);
  minus = refl;
  full = refl;
  begun = refl;
}

hex-piece : (n : ℕ) → NumberPiece n (hex_digits n)
hex-piece n = record {
  settles = λ s. refl;
  ends = ends-unit (refl, refl, refl, refl, refl, refl, refl, refl, refl, refl);
  minus = refl;
  full = refl;
  begun = refl;
}

number-behind : (stack : Stack) (n : ℕ) (p : Piece) → NumberPiece n p → Behind (after (literal n) stack) (at
    (want stack) p)
number-behind stack n p h = record {
  over = record {
    settled = h.settles (want stack);
    ends = (
      h.ends,
      minus-plain (at (want stack) p) (literal n) stack
          (h.settles (want stack)) h.minus,
    );
  };
  settled = h.settles (want stack);
  full = h.full;
  begun = h.begun;
}

-- a decimal digit more
record MoreDecimal (m c n : ℕ) (cs : List ℕ) : Type 0 where
  worth : ℕ
  digit : is_digit c ≡ true
  same : c - 48 ≡ worth
  rest : decimal_from (10 * m + worth) cs ≡ Some n

decimal-more : (m c n : ℕ) (cs : List ℕ) → decimal_from m (c ∷ cs) ≡ Some n → MoreDecimal m c n cs
unfolding decimal_from
decimal-more m c n cs is =
    let q = then-some (λ (d : ℕ). decimal_from (10 * m + d) cs) (decimal_value c) n is in
    let e = given-some (is_digit c) (c - 48) q.0 q.1 in
    record { worth = q.0; digit = e.0; same = e.1; rest = q.2 }

decimal-end : (m n : ℕ) → decimal_from m [] ≡ Some n → m ≡ n
unfolding decimal_from
decimal-end m n is = cc

decimal-grows : (cs : List ℕ) (m n : ℕ) → decimal_from m cs ≡ Some n → m ≤ n
decimal-grows [] m n is = let e = decimal-end m n is in omega (arith, e)
decimal-grows (c ∷ cs) m n is =
    let q = decimal-more m c n cs is in
    let more = decimal-grows cs (10 * m + q.worth) n q.rest in
    omega (arith, more)

decimal-goes : (m c n : ℕ) (cs : List ℕ) (q : MoreDecimal m c n cs) → n < 2 ^ 64 → more_decimal m c ≡ Some
    (decimal_digits (10 * m + q.worth))
decimal-goes m c n cs q small =
    let grows = decimal-grows cs (10 * m + q.worth) n q.rest in
    let less : 10 * m + q.worth < 2 ^ 64 = omega (arith, grows, small) in
    ap (λ (d : ℕ). if is_digit c && nat_lt (10 * m + d) (2 ^ 64) then Some (decimal_digits
    (10 * m + d)) else None) q.same
    ∙ ap (λ (b : Bool). if b && nat_lt (10 * m + q.worth) (2 ^ 64) then Some (decimal_digits
    (10 * m + q.worth)) else None) q.digit
    ∙ if-true (nat_lt (10 * m + q.worth) (2 ^ 64)) (Some (decimal_digits (10 * m + q.worth))) None (less-true
    (10 * m + q.worth) (2 ^ 64) less)

decimals-lead : (cs : List ℕ) (m n : ℕ) (s : State) → decimal_from m cs ≡ Some n → n < 2 ^ 64 → Leads (at s
    (decimal_digits m)) cs (at s (decimal_digits n))
decimals-lead [] m n s is small = subst (λ (k : ℕ). Leads (at s (decimal_digits m)) [] (at s (decimal_digits k)))
    (decimal-end m n is) (leads-none (at s (decimal_digits m)))
decimals-lead (c ∷ cs) m n s is small =
    let q = decimal-more m c n cs is in
    leads-byte (at s (decimal_digits m)) (at s (decimal_digits (10 * m + q.worth))) (at s (decimal_digits n)) c cs
    (step-on s (decimal_digits m) (decimal_digits (10 * m + q.worth)) c (decimal-goes m c n cs q small))
    (decimals-lead cs (10 * m + q.worth) n s q.rest small)

-- a hex digit more
record MoreHex (m c n : ℕ) (cs : List ℕ) : Type 0 where
  worth : ℕ
  value : digit_value c ≡ Some worth
  rest : hex_from (16 * m + worth) cs ≡ Some n

hex-more : (m c n : ℕ) (cs : List ℕ) → hex_from m (c ∷ cs) ≡ Some n → MoreHex m c n cs
unfolding hex_from
hex-more m c n cs is =
    let q = then-some (λ (d : ℕ). hex_from (16 * m + d) cs) (digit_value c) n is in
    record { worth = q.0; value = q.1; rest = q.2 }

hex-end : (m n : ℕ) → hex_from m [] ≡ Some n → m ≡ n
unfolding hex_from
hex-end m n is = cc

hex-grows : (cs : List ℕ) (m n : ℕ) → hex_from m cs ≡ Some n → m ≤ n
hex-grows [] m n is = let e = hex-end m n is in omega (arith, e)
hex-grows (c ∷ cs) m n is =
    let q = hex-more m c n cs is in
    let more = hex-grows cs (16 * m + q.worth) n q.rest in
    omega (arith, more)

hex-goes : (m c n : ℕ) (cs : List ℕ) (q : MoreHex m c n cs) → n < 2 ^ 64 → more_hex m (digit_value c) ≡ Some
    (hex_digits (16 * m + q.worth))
hex-goes m c n cs q small =
    let grows = hex-grows cs (16 * m + q.worth) n q.rest in
    let less : 16 * m + q.worth < 2 ^ 64 = omega (arith, grows, small) in
    ap (more_hex m) q.value
    ∙ if-true (nat_lt (16 * m + q.worth) (2 ^ 64)) (Some (hex_digits (16 * m + q.worth))) None (less-true
    (16 * m + q.worth) (2 ^ 64) less)

hexes-lead : (cs : List ℕ) (m n : ℕ) (s : State) → hex_from m cs ≡ Some n → n < 2 ^ 64 → Leads (at s
    (hex_digits m)) cs (at s (hex_digits n))
hexes-lead [] m n s is small = subst (λ (k : ℕ). Leads (at s (hex_digits m)) [] (at s (hex_digits k)))
    (hex-end m n is) (leads-none (at s (hex_digits m)))
hexes-lead (c ∷ cs) m n s is small =
    let q = hex-more m c n cs is in
    leads-byte (at s (hex_digits m)) (at s (hex_digits (16 * m + q.worth))) (at s (hex_digits n)) c cs
    (step-on s (hex_digits m) (hex_digits (16 * m + q.worth)) c (hex-goes m c n cs q small)) (hexes-lead cs
    (16 * m + q.worth) n s q.rest small)

digit-begins : (stack : Stack) (c : ℕ) → is_digit c ≡ true → begin_unit stack c ≡
    (if c == 48 then Some zero_digit else Some (decimal_digits (c - 48)))
digit-begins stack c is = rw (other-byte is_digit c 33 is refl, other-byte is_digit c 40 is refl, is) refl

letter-begins : (stack : Stack) (c : ℕ) → is_letter c ≡ true → begin_unit stack c ≡ Some (path_part in_name (c ∷ []))
letter-begins stack c is =
    let other = λ (k : ℕ) (no_ : is_letter k ≡ false). other-byte is_letter c k is no_ in
    rw (other 33 refl, other 40 refl, other 48 refl, no-digit, is) refl
  where
    no-digit : is_digit c ≡ false
    no-digit = grind (arith, nat_tests)

-- the digits of a number, from where a unit is wanted
abbrev ReadsNumber : Stack → ℕ → Reading → List ℕ → Type 0
ReadsNumber stack n r here = (p : Piece) × NumberPiece n p × Leads r here (at (want stack) p)

zero-goes : (stack : Stack) (n : ℕ) (cs : List ℕ) → decimal_from 0 cs ≡ Some n → n < 2 ^ 64 → ReadsNumber stack n (at
    (want stack) zero_digit) cs
zero-goes stack n [] is small =
    let e = decimal-end 0 n is in
    (zero_digit, subst (λ (k : ℕ). NumberPiece k zero_digit) e zero-piece, leads-none (at (want stack) zero_digit))
zero-goes stack n (c ∷ cs) is small =
    let q = decimal-more 0 c n cs is in
    let here : extend zero_digit c ≡ Some (decimal_digits (10 * 0 + q.worth)) =
    ap (λ (b : Bool). if b then Some hex_mark else more_decimal 0 c) (other-byte is_digit c 120 q.digit refl)
    ∙ decimal-goes 0 c n cs q small in (
      decimal_digits n,
      decimal-piece n,
      leads-byte (at (want stack) zero_digit) (at (want stack) (decimal_digits (10 * 0 + q.worth))) (at (want stack)
          (decimal_digits n)) c cs
          (step-on (want stack) zero_digit (decimal_digits (10 * 0 + q.worth)) c here) (decimals-lead cs
          (10 * 0 + q.worth) n (want stack) q.rest small),
    )

first-digit : (stack : Stack) (r : Reading) (c n : ℕ) (cs : List ℕ) (q : MoreDecimal 0 c n cs) → Goes
    (want stack) r c → n < 2 ^ 64 → ReadsNumber stack n r (c ∷ cs)
first-digit stack r c n cs q goes small = by (c == 48) refl (goes ∙ ap (option_map (at (want stack)))
    (digit-begins stack c q.digit))
  where
    by : (b : Bool) → (c == 48) ≡ b → step r c ≡ option_map (at (want stack)) (if b then Some zero_digit else Some
        (decimal_digits (c - 48))) → ReadsNumber stack n r (c ∷ cs)
    by true is there =
        let none : c ≡ 48 = same-byte c 48 is in
        let same = q.same in
        let zero : 10 * 0 + q.worth ≡ 0 = omega (arith, none, same) in
        let more = zero-goes stack n cs (subst (λ (k : ℕ). decimal_from k cs ≡ Some n) zero q.rest) small in
        (more.0, more.1, leads-byte r (at (want stack) zero_digit) (at (want stack) more.0) c cs there more.2)
    by false is there =
        let same = q.same in
        let worth : 10 * 0 + q.worth ≡ c - 48 = omega (arith, same) in (
          decimal_digits n,
          decimal-piece n,
          leads-byte r (at (want stack) (decimal_digits (c - 48))) (at (want stack) (decimal_digits n)) c cs there
              (decimals-lead cs (c - 48) n (want stack) (subst
              (λ (k : ℕ). decimal_from k cs ≡ Some n) worth q.rest) small),
        )

hex-reads : (stack : Stack) (r : Reading) (n : ℕ) (digits : List ℕ) → Goes (want stack) r 48 → 0 < length digits →
    hex_from 0 digits ≡ Some n → n < 2 ^ 64 → ReadsNumber stack n r (48 ∷ 120 ∷ digits)
hex-reads stack r n [] goes some is small = let none : ⊥ = omega (arith, some) in absurd none
hex-reads stack r n (c ∷ cs) goes some is small =
    let q = hex-more 0 c n cs is in (
      hex_digits n,
      hex-piece n,
      leads-byte r (at (want stack) zero_digit) (at (want stack) (hex_digits n)) 48 (120 ∷ c ∷ cs) goes
          (leads-byte (at (want stack) zero_digit) (at (want stack) hex_mark) (at (want stack) (hex_digits n)) 120
          (c ∷ cs) (step-on (want stack) zero_digit hex_mark 120 refl)
          (leads-byte (at (want stack) hex_mark) (at (want stack) (hex_digits (16 * 0 + q.worth))) (at (want stack)
          (hex_digits n)) c cs
          (step-on (want stack) hex_mark (hex_digits (16 * 0 + q.worth)) c (hex-goes 0 c n cs q small))
          (hexes-lead cs (16 * 0 + q.worth) n (want stack) q.rest small))),
    )

digit-goes : (stack : Stack) (r : Reading) (c : ℕ) → Over (want stack) r → is_digit c ≡ true → Goes (want stack) r c
digit-goes stack r c h is = goes-on (want stack) r c h.settled (other-byte is_digit c 32 is refl) (h.ends.digits c is)

number-reads : (stack : Stack) (r : Reading) (n : ℕ) (here : List ℕ) → Over (want stack) r → n < 2 ^ 64 →
    IsDecimal n here ⊎ IsHex n here → ReadsNumber stack n r here
number-reads stack r n [] h small (inl is) = let some = is.0 in let none : ⊥ = omega (arith, some) in absurd none
number-reads stack r n (c ∷ cs) h small (inl is) =
    let q = decimal-more 0 c n cs is.1 in
    first-digit stack r c n cs q (digit-goes stack r c h q.digit) small
number-reads stack r n here h small (inr is) =
    subst (λ (bytes : List ℕ). ReadsNumber stack n r bytes) (sym is.3) (hex-reads stack r n is.0
    (digit-goes stack r 48 h refl) is.1 is.2 small)

-- what a step of a path may stand behind
abbrev end_mark : Bool → Mark
end_mark true = in_name
end_mark false = behind_index

words-lead : (cs : List ℕ) (s : State) (text : List ℕ) → All (λ c. IsTrue (is_word c)) cs → Leads (at s
    (path_part in_name text)) cs (at s (path_part in_name (text ++ cs)))
words-lead [] s text all =
    subst (λ (bytes : List ℕ). Leads (at s (path_part in_name text)) [] (at s (path_part in_name bytes))) (sym
    (append-nil text)) (leads-none (at s (path_part in_name text)))
words-lead (c ∷ cs) s text all =
    let more = words-lead cs s (text ++ c ∷ []) (λ k d less. all (suc k) d (omega arith)) in
    leads-byte (at s (path_part in_name text)) (at s (path_part in_name (text ++ c ∷ []))) (at s (path_part in_name
    (text ++ c ∷ cs))) c cs
    (step-on s (path_part in_name text) (path_part in_name (text ++ c ∷ [])) c (if-true (is_word c) _ _ (all 0 0
    (omega arith))))
    (subst (λ (bytes : List ℕ). Leads (at s (path_part in_name (text ++ c ∷ []))) cs (at s (path_part in_name bytes)))
    (append_assoc text (c ∷ []) cs) more)

name-lead : (name : List ℕ) (s : State) (text : List ℕ) → IsName name → Leads (at s (path_part before_name text)) name
    (at s (path_part in_name (text ++ name)))
name-lead [] s text is = let begins = is.begins in let none : ⊥ = cc in absurd none
name-lead (c ∷ cs) s text is =
    let all = is.words in
    let more = words-lead cs s (text ++ c ∷ []) (λ k d less. all (suc k) d (omega arith)) in
    leads-byte (at s (path_part before_name text)) (at s (path_part in_name (text ++ c ∷ []))) (at s
    (path_part in_name (text ++ c ∷ cs))) c cs
    (step-on s (path_part before_name text) (path_part in_name (text ++ c ∷ [])) c (if-true
    (is_letter c) _ _ is.begins))
    (subst (λ (bytes : List ℕ). Leads (at s (path_part in_name (text ++ c ∷ []))) cs (at s (path_part in_name bytes)))
    (append_assoc text (c ∷ []) cs) more)

index-lead : (ds : List ℕ) (s : State) (k : ℕ) (text : List ℕ) → k + length ds ≤ 10 → All (λ c. IsTrue
    (is_digit c)) ds →
    Leads (at s (path_part (in_index k) text)) ds (at s (path_part (in_index (k + length ds)) (text ++ ds)))
index-lead [] s k text few all =
    let same : k + 0 ≡ k = omega arith in
    subst (λ (m : ℕ). Leads (at s (path_part (in_index k) text)) [] (at s (path_part (in_index m) (text ++ []))))
    (sym same)
    (subst (λ (bytes : List ℕ). Leads (at s (path_part (in_index k) text)) [] (at s (path_part (in_index k) bytes)))
    (sym (append-nil text)) (leads-none (at s (path_part (in_index k) text))))
index-lead (c ∷ cs) s k text few all =
    let more = index-lead cs s (k + 1) (text ++ c ∷ []) (omega (arith, few)) (λ i d less. all (suc i) d
    (omega arith)) in
    let same : k + 1 + length cs ≡ k + length (c ∷ cs) = omega arith in
    let room : nat_lt k 10 ≡ true = less-true k 10 (omega (arith, few)) in
    leads-byte (at s (path_part (in_index k) text)) (at s (path_part (in_index (k + 1)) (text ++ c ∷ []))) (at s
    (path_part (in_index (k + length (c ∷ cs))) (text ++ c ∷ cs))) c cs
    (step-on s (path_part (in_index k) text) (path_part (in_index (k + 1)) (text ++ c ∷ [])) c (if-true
    (is_digit c) _ _ (all 0 0 (omega arith)) ∙ if-true (nat_lt k 10) _ _ room))
    (subst (λ (m : ℕ). Leads (at s (path_part (in_index (k + 1)) (text ++ c ∷ []))) cs (at s (path_part (in_index m)
    (text ++ c ∷ cs)))) same
    (subst (λ (bytes : List ℕ). Leads (at s (path_part (in_index (k + 1)) (text ++ c ∷ []))) cs (at s (path_part
    (in_index (k + 1 + length cs)) bytes))) (append_assoc text (c ∷ []) cs) more))

some-digits : (digits : List ℕ) (index : ℕ) → IsIndex index digits → 0 < length digits
some-digits [] index is = let number = is.number in let none : ⊥ = cc in absurd none
some-digits (c ∷ cs) index is = omega arith

-- a step of a path behind others
abbrev ReadsStep : State → Bool → List ℕ → List ℕ → Type 0
ReadsStep s ended text here = (now : Bool) × Leads (at s (path_part (end_mark ended) text)) here (at s (path_part
    (end_mark now) (text ++ here)))

mark-goes : (ended : Bool) (text : List ℕ) (c : ℕ) → is_word c ≡ false → extend (path_part
    (end_mark ended) text) c ≡ behind_step text c
mark-goes true text c is = ap (λ (b : Bool). if b then Some (path_part in_name
    (text ++ c ∷ [])) else behind_step text c) is
mark-goes false text c is = refl

bracket-closes : (s : State) (k : ℕ) (text : List ℕ) → 0 < k → Leads (at s (path_part (in_index k) text)) (93 ∷ [])
    (at s (path_part behind_index (text ++ 93 ∷ [])))
bracket-closes s k text some =
    leads-byte (at s (path_part (in_index k) text)) (at s (path_part behind_index (text ++ 93 ∷ []))) (at s
    (path_part behind_index (text ++ 93 ∷ []))) 93 []
    (step-on s (path_part (in_index k) text) (path_part behind_index (text ++ 93 ∷ [])) 93 (if-true (nat_lt 0 k) _ _
    (less-true 0 k some)))
    (leads-none (at s (path_part behind_index (text ++ 93 ∷ []))))

named-step : (s : State) (ended : Bool) (text lead name : List ℕ) → IsName name →
    Leads (at s (path_part (end_mark ended) text)) lead (at s (path_part before_name (text ++ lead))) →
    ReadsStep s ended text (lead ++ name)
named-step s ended text lead name is first = (
  true,
  subst (λ (bytes : List ℕ). Leads (at s (path_part (end_mark ended) text)) (lead ++ name) (at s
      (path_part in_name bytes))) (append_assoc text lead name)
      (leads-both (at s (path_part (end_mark ended) text)) (at s (path_part before_name (text ++ lead))) (at s
      (path_part in_name ((text ++ lead) ++ name))) lead name first (name-lead name s (text ++ lead) is)),
)

element-step : (s : State) (ended : Bool) (text digits : List ℕ) (index : ℕ) → IsIndex index digits →
    ReadsStep s ended text (91 ∷ (digits ++ 93 ∷ []))
element-step s ended text digits index is =
    let opened = text ++ 91 ∷ [] in
    let whole : ((text ++ 91 ∷ []) ++ digits) ++ 93 ∷ [] ≡ text ++ 91 ∷ (digits ++ 93 ∷ []) =
    append_assoc (text ++ 91 ∷ []) digits (93 ∷ []) ∙ append_assoc text (91 ∷ []) (digits ++ 93 ∷ []) in (
      false,
      subst (λ (bytes : List ℕ). Leads (at s (path_part (end_mark ended) text)) (91 ∷ (digits ++ 93 ∷ [])) (at s
          (path_part behind_index bytes))) whole
          (leads-byte (at s (path_part (end_mark ended) text)) (at s (path_part (in_index 0) (text ++ 91 ∷ []))) (at s
          (path_part behind_index (((text ++ 91 ∷ []) ++ digits) ++ 93 ∷ []))) 91 (digits ++ 93 ∷ [])
          (step-on s (path_part (end_mark ended) text) (path_part (in_index 0) (text ++ 91 ∷ [])) 91
          (mark-goes ended text 91 refl))
          (leads-both (at s (path_part (in_index 0) (text ++ 91 ∷ []))) (at s (path_part (in_index
          (0 + length digits)) ((text ++ 91 ∷ []) ++ digits))) (at s (path_part behind_index
          (((text ++ 91 ∷ []) ++ digits) ++ 93 ∷ []))) digits (93 ∷ [])
          (index-lead digits s 0 (text ++ 91 ∷ []) (let few = is.few in omega (arith, few)) is.decimal)
          (bracket-closes s (0 + length digits) ((text ++ 91 ∷ []) ++ digits)
          (let some = some-digits digits index is in omega (arith, some))))),
    )

step-reads : (step : Step) (s : State) (ended : Bool) (text here : List ℕ) → WritesStep false step here →
    ReadsStep s ended text here
step-reads (Member name) s ended text here is =
    subst (ReadsStep s ended text) (sym is.1)
    (named-step s ended text (46 ∷ []) name is.0
    (leads-byte (at s (path_part (end_mark ended) text)) (at s (path_part before_name (text ++ 46 ∷ []))) (at s
    (path_part before_name (text ++ 46 ∷ []))) 46 []
    (step-on s (path_part (end_mark ended) text) (path_part before_name (text ++ 46 ∷ [])) 46
    (mark-goes ended text 46 refl)) (leads-none (at s (path_part before_name (text ++ 46 ∷ []))))))
step-reads (Element index) s ended text here is = subst (ReadsStep s ended text) (sym is.2)
    (element-step s ended text is.0 index is.1)
step-reads (Pointee name) s ended text here is =
    subst (ReadsStep s ended text) (sym is.1)
    (named-step s ended text (45 ∷ 62 ∷ []) name is.0
    (leads-byte (at s (path_part (end_mark ended) text)) (at s (path_part behind_minus text)) (at s
    (path_part before_name (text ++ 45 ∷ 62 ∷ []))) 45 (62 ∷ [])
    (step-on s (path_part (end_mark ended) text) (path_part behind_minus text) 45 (mark-goes ended text 45 refl))
    (leads-byte (at s (path_part behind_minus text)) (at s (path_part before_name (text ++ 45 ∷ 62 ∷ []))) (at s
    (path_part before_name (text ++ 45 ∷ 62 ∷ []))) 62 []
    (step-on s (path_part behind_minus text) (path_part before_name (text ++ 45 ∷ 62 ∷ [])) 62 refl) (leads-none (at s
    (path_part before_name (text ++ 45 ∷ 62 ∷ [])))))))

steps-read : (steps : List Step) (s : State) (ended : Bool) (text here : List ℕ) → SpellsPath false steps here →
    ReadsStep s ended text here
unfolding SpellsPath
steps-read [] s ended text here is =
    subst (ReadsStep s ended text) (sym is) (
      ended,
      subst (λ (bytes : List ℕ). Leads (at s (path_part (end_mark ended) text)) [] (at s (path_part
          (end_mark ended) bytes))) (sym (append-nil text)) (leads-none (at s (path_part (end_mark ended) text))),
    )
steps-read (step ∷ steps) s ended text here is =
    let first = step-reads step s ended text is.0 is.2 in
    let more = steps-read steps s first.0 (text ++ is.0) is.1 is.3 in
    subst (ReadsStep s ended text) (sym is.4) (
      more.0,
      subst (λ (bytes : List ℕ). Leads (at s (path_part (end_mark ended) text)) (is.0 ++ is.1) (at s (path_part
          (end_mark more.0) bytes))) (append_assoc text is.0 is.1)
          (leads-both (at s (path_part (end_mark ended) text)) (at s (path_part (end_mark first.0) (text ++ is.0)))
          (at s (path_part (end_mark more.0) ((text ++ is.0) ++ is.1))) is.0 is.1 first.1 more.1),
    )

-- a path, from where a unit is wanted
abbrev ReadsPath : Stack → Reading → List ℕ → Type 0
ReadsPath stack r text = (ended : Bool) × Leads r text (at (want stack) (path_part (end_mark ended) text))

letter-goes : (stack : Stack) (r : Reading) (c : ℕ) → Over (want stack) r → is_letter c ≡ true → step r c ≡ Some (at
    (want stack) (path_part in_name (c ∷ [])))
letter-goes stack r c h is =
    goes-on (want stack) r c h.settled (other-byte is_letter c 32 is refl) (h.ends.letters c is) ∙ ap (option_map (at
    (want stack))) (letter-begins stack c is)

first-name : (stack : Stack) (r : Reading) (name : List ℕ) → Over (want stack) r → IsName name → Leads r name (at
    (want stack) (path_part in_name name))
first-name stack r [] h is = let begins = is.begins in let none : ⊥ = cc in absurd none
first-name stack r (c ∷ cs) h is =
    let all = is.words in
    leads-byte r (at (want stack) (path_part in_name (c ∷ []))) (at (want stack) (path_part in_name (c ∷ cs))) c cs
    (letter-goes stack r c h is.begins)
    (words-lead cs (want stack) (c ∷ []) (λ k d less. all (suc k) d (omega arith)))

path-reads : (step : Step) (steps : List Step) (stack : Stack) (r : Reading) (text : List ℕ) → Over (want stack) r →
    SpellsPath true (step ∷ steps) text → ReadsPath stack r text
unfolding SpellsPath
path-reads (Element index) steps stack r text h is = absurd is.2
path-reads (Pointee name) steps stack r text h is = absurd is.2
path-reads (Member name) steps stack r text h is =
    let first = subst (λ (bytes : List ℕ). Leads r bytes (at (want stack) (path_part in_name bytes))) (sym is.2.1)
    (first-name stack r name h is.2.0) in
    let more = steps-read steps (want stack) true is.0 is.1 is.3 in
    subst (ReadsPath stack r) (sym is.4) (
      more.0,
      leads-both r (at (want stack) (path_part in_name is.0)) (at (want stack) (path_part (end_mark more.0)
          (is.0 ++ is.1))) is.0 is.1 first more.1,
    )

minus-other : (text : List ℕ) → EndsOther (path_part behind_minus text)
minus-other text = record {
  space = refl;
  not = refl;
  opens = refl;
  digits = λ c is. off
      (other-byte is_digit c 62 is refl);
  letters = λ c is. off (other-byte is_letter c 62 is refl);
}
  where
    off : {b : Bool} → b ≡ false → (if b then Some (path_part before_name (text ++ 45 ∷ 62 ∷ [])) else None) ≡ None
    off is = ap (λ (b : Bool). if b then Some (path_part before_name (text ++ 45 ∷ 62 ∷ [])) else None) is

path-behind : (stack : Stack) (ended : Bool) (text : List ℕ) → Behind (after (field text) stack) (at (want stack)
    (path_part (end_mark ended) text))
path-behind stack true text = record {
  over = record {
    settled = refl;
    ends = (
      ends-unit (refl, refl, refl, refl, refl, refl, refl, refl, refl, refl),
      record {
        next = at (want stack) (path_part behind_minus text);
        goes = step-on (want stack)
            (path_part in_name text)
            (path_part behind_minus text) 45 refl;
        settled = refl;
        ends = minus-other text;
        full = refl;
        begun = refl;
      },
    );
  };
  settled = refl;
  full = refl;
  begun = refl;
}
path-behind stack false text = record {
  over = record {
    settled = refl;
    ends = (
      ends-unit (refl, refl, refl, refl, refl, refl, refl, refl, refl, refl),
      record {
        next = at (want stack) (path_part behind_minus text);
        goes = step-on (want stack)
            (path_part behind_index text)
            (path_part behind_minus text) 45 refl;
        settled = refl;
        ends = minus-other text;
        full = refl;
        begun = refl;
      },
    );
  };
  settled = refl;
  full = refl;
  begun = refl;
}

-- each token that may stand there
token-reads : (token : Token) (s next : State) (r : Reading) (here : List ℕ) → Over s r → IsGoodToken token →
    Writes token here → take_token s token ≡ Some next → Reads next r here
token-reads bang (want stack) next r here h good w is =
    let e = given-some (room stack) (want (not_on stack)) next is in
    subst (Reads next r) (sym w) (single (want stack) next r bang 33 (goes-on
    (want stack) r 33 h.settled refl h.ends.not) (if-true (room stack) (Some (whole bang)) None e.0) is)
token-reads open_token (want stack) next r here h good w is =
    let e = given-some (room stack) (want (open_on stack)) next is in
    subst (Reads next r) (sym w) (single (want stack) next r open_token 40 (goes-on
    (want stack) r 40 h.settled refl h.ends.opens) (if-true (room stack) (Some (whole open_token)) None e.0) is)
token-reads (number n) (want stack) next r here h good w is =
    let q = number-reads stack r n here h w.0 w.1 in
    let e : after (literal n) stack ≡ next = cc in
    subst (λ (s : State). Reads s r here) e (at (want stack) q.0, number-behind stack n q.0 q.1, q.2)
token-reads (path p) (want stack) next r here h good w is =
    let q = path-reads good.0 good.1 stack r p h good.2 in
    let e : after (field p) stack ≡ next = cc in
    subst (λ (s : State). Reads s r here) e (subst (Reads (after (field p) stack) r) (sym w) (
      at (want stack)
          (path_part (end_mark q.0) p),
      path-behind stack q.0 p,
      q.1,
    ))
token-reads close_token (want stack) next r here h good w is = let none : ⊥ = cc in absurd none
token-reads (operator op) (want stack) next r here h good w is = let none : ⊥ = cc in absurd none
token-reads close_token (after t stack) next r here h good w is =
    subst (Reads next r) (sym w)
    (single (after t stack) next r close_token 41 (goes-on (after t stack) r 41 h.settled refl h.ends.0.closes)
    (if-true (has_open stack) (Some (whole close_token)) None (open-before stack t next is)) is)
token-reads (operator op) (after t stack) next r here h good w is =
    let e = denied-some (is_alone op && compares stack) (with_operator op (reduce (left_rank op) t stack)) next is in
    subst (λ (s : State). Reads s r here) e.1
    (subst (Reads (with_operator op (reduce (left_rank op) t stack)) r) (sym w) (operator-reads op t stack r h e.0 (is
    ∙ ap (λ (s : State). Some s) (sym e.1))))
token-reads bang (after t stack) next r here h good w is = let none : ⊥ = cc in absurd none
token-reads open_token (after t stack) next r here h good w is = let none : ⊥ = cc in absurd none
token-reads (number n) (after t stack) next r here h good w is = let none : ⊥ = cc in absurd none
token-reads (path p) (after t stack) next r here h good w is = let none : ⊥ = cc in absurd none

-- spaces between two tokens
abbrev ReadsGap : State → Reading → List ℕ → Type 0
ReadsGap s r spaces = (last : Reading) × Over s last × Leads r spaces last

spaces-lead : (spaces : List ℕ) (s : State) → All (λ c. c ≡ 32) spaces → Leads (at s gap) spaces (at s gap)
unfolding step
spaces-lead [] s all = leads-none (at s gap)
spaces-lead (c ∷ cs) s all =
    let first : c ≡ 32 = all 0 0 (omega arith) in
    let more = spaces-lead cs s (λ k d less. all (suc k) d (omega arith)) in
    subst (λ (byte : ℕ). Leads (at s gap) (byte ∷ cs) (at s gap)) (sym first) (leads-byte (at s gap) (at s gap)
    (at s gap) 32 cs refl more)

over-space : (s : State) (r : Reading) → Over s r → extend r.piece 32 ≡ None
over-space (want stack) r h = h.ends.space
over-space (after t stack) r h = h.ends.0.space

space-goes : (s : State) (r : Reading) → Behind s r → step r 32 ≡ Some (at s gap)
space-goes s r h =
    step-after r s 32 (over-space s r h.over) h.settled ∙ ap (λ (b : Bool). if b then None else Some (at s gap)) h.begun

gap-reads : (spaces : List ℕ) (s : State) (r : Reading) → Behind s r → All (λ c. c ≡ 32) spaces → ReadsGap s r spaces
gap-reads [] s r h all = (r, h.over, leads-none r)
gap-reads (c ∷ cs) s r h all =
    let first : c ≡ 32 = all 0 0 (omega arith) in
    let more = spaces-lead cs s (λ k d less. all (suc k) d (omega arith)) in
    subst (λ (byte : ℕ). ReadsGap s r (byte ∷ cs)) (sym first) (
      at s gap,
      gap-over s,
      leads-byte r (at s gap)
          (at s gap) 32 cs (space-goes s r h) more,
    )

-- a token with what leads to it
after-gap : (s next : State) (r : Reading) (spaces here : List ℕ) (token : Token) → ReadsGap s r spaces →
    IsGoodToken token → Writes token here → take_token s token ≡ Some next →
    Reads next r (spaces ++ here)
after-gap s next r spaces here token g good w is =
    let q = token-reads token s next g.0 here g.1 good w is in
    (q.0, q.1, leads-both r g.0 q.0 spaces here g.2 q.2)

-- tokens one after another, with gaps between them
tokens-lead : (ts : List Token) (s last : State) (r : Reading) (text : List ℕ) → Behind s r → ArePaths ts →
    Spells false ts text → take_tokens ts s ≡ Some last → Reads last r text
unfolding take_tokens Spells
tokens-lead [] s last r text h good is taken =
    let e : s ≡ last = cc in
    subst (Reads last r) (sym is) (subst (λ (x : State). Reads x r []) e (r, h, leads-none r))
tokens-lead (t ∷ ts) s last r text h good is taken =
    let next = then-some (take_tokens ts) (take_token s t) last taken in
    let first = after-gap s next.0 r is.0 is.1 t (gap-reads is.0 s r h is.3) good.0 is.4 next.1 in
    let more = tokens-lead ts next.0 last first.0 is.2 first.1 good.1 is.5 next.2 in
    subst (Reads last r) (append_assoc is.0 is.1 is.2 ∙ sym is.6)
    (more.0, more.1, leads-both r first.0 more.0 (is.0 ++ is.1) is.2 first.2 more.2)

pub good-both : (ts us : List Token) → ArePaths ts → ArePaths us → ArePaths (ts ++ us)
good-both [] us g h = h
good-both (t ∷ ts) us g h = (g.0, good-both ts us g.1 h)

-- the tokens of a tree
pub good-tokens : (t : Tree) → Fits t → ArePaths (tokens t)
good-tokens (literal n) fits = (tt, tt)
good-tokens (field p) fits = (fits, tt)
good-tokens (negation t) fits = (tt, good-tokens t fits.1)
good-tokens (group t) fits = (tt, good-both (tokens t) (close_token ∷ []) (good-tokens t fits) (tt, tt))
good-tokens (binary op a b) fits = good-both (tokens a) (operator op ∷ tokens b) (good-tokens a fits.2)
    (tt, good-tokens b fits.3)

first-token : (t : Tree) → (token : Token) × (more : List Token) × (tokens t ≡ token ∷ more)
first-token (literal n) = (number n, [], refl)
first-token (field p) = (path p, [], refl)
first-token (negation t) = (bang, tokens t, refl)
first-token (group t) = (open_token, tokens t ++ close_token ∷ [], refl)
first-token (binary op a b) =
    let q = first-token a in
    (q.0, q.1 ++ operator op ∷ tokens b, ap (λ (ts : List Token). ts ++ operator op ∷ tokens b) q.2)

text-leads : (token : Token) (ts : List Token) (last : State) (text : List ℕ) → ArePaths (token ∷ ts) → Spells true
    (token ∷ ts) text → take_tokens (token ∷ ts) (want bottom) ≡ Some last →
    Reads last at_start text
unfolding take_tokens Spells
text-leads t ts last text good is taken =
    let next = then-some (take_tokens ts) (take_token (want bottom) t) last taken in
    let none : ReadsGap (want bottom) at_start is.0 = subst (ReadsGap (want bottom) at_start) (sym is.3)
    (at_start, start-over (want bottom), leads-none at_start) in
    let first = after-gap (want bottom) next.0 at_start is.0 is.1 t none good.0 is.4 next.1 in
    let more = tokens-lead ts next.0 last first.0 is.2 first.1 good.1 is.5 next.2 in
    subst (Reads last at_start) (append_assoc is.0 is.1 is.2 ∙ sym is.6)
    (more.0, more.1, leads-both at_start first.0 more.0 (is.0 ++ is.1) is.2 first.2 more.2)

reads-text : (last : State) (text : List ℕ) (t : Tree) → Reads last at_start text → tree_at last ≡ Some t →
    parsed text ≡ Ok t
unfolding read result_of
reads-text last text t h is =
    let q = h.2 [] 0 in
    let ends : result_of h.0 ≡ Some t =
    ap (λ (b : Bool). if b then None else option_and_then tree_at (settle h.0.state h.0.piece)) h.1.full ∙ ap
    (option_and_then tree_at) h.1.settled ∙ is in
    ap (λ (bytes : List ℕ). read bytes 0 at_start) (sym (append-nil text)) ∙ q.1 ∙ ap (or_place q.0) ends

-- a tree is read from its text
pub text-read : (text : List ℕ) (t : Tree) → IsText text t → parsed text ≡ Ok t
text-read text t h =
    let q = first-token t in
    let taken = then-some tree_at (take_tokens (tokens t) (want bottom)) t (tokens-read t h.fits h.shallow) in
    let leads = text-leads q.0 q.1 taken.0 text (subst ArePaths q.2 (good-tokens t h.fits)) (subst
    (λ (ts : List Token). Spells true ts text) q.2 h.spelled)
    (subst (λ (ts : List Token). take_tokens ts (want bottom) ≡ Some taken.0) q.2 taken.1) in
    reads-text taken.0 text t leads taken.2
