-- What is read was spelled: the bytes so far spell the tokens that led to a state, and the token that is begun.
use Rattle.std.proofs.Common.{◌≡◌, ℕ, zero, suc, ◌+◌, ◌-◌, ◌*◌, ◌^◌, ◌<◌, ◌≤◌, Bool, true, false, ◌&&◌, ◌||◌, ◌==◌, nat_le, nat_lt, List, [], ◌∷◌, ◌++◌, length, Option, Some, None, option_map, option_and_then, Result, Ok, Err, pos, if◌then◌else◌, refl, ap, sym, ◌∙◌, subst, arith, append_assoc, append-nil, inl, inr, mul_assoc, mul_left_comm, lit<}
use Rattle.std.specs.Prelude.{All, IsTrue}
use Rattle.std.proofs.Math.Nat.{pow-le-pow_right}
use Rattle.std.proofs.lemmas.Bool.Decides.{nat_tests}
use Rattle.std.proofs.lemmas.List.{length-append}
use Rattle.std.proofs.lemmas.List.Elements.{All-push}
use Rattle.kc_word.specs.Decimal.{decimal_from, decimal_value, decimal_number, decimal_digits as decimal_of, positive}
use Rattle.kc_word.specs.Hex.{hex_from, digit_value}
use Rattle.kc_layout.specs.Path.{Step, begins_name, is_digit, is_letter, is_word}
use Rattle.kc_layout.specs.Path.Step.{Member, Element, Pointee}
use Rattle.kc_layout.specs.Spelling.{IsName, IsIndex, Writes as WritesStep, Spells as SpellsPath}
use Rattle.kc_expr.specs.Tree.{Token, Tree, IsPath}
use Rattle.kc_expr.specs.Tree.Token.{bang, open_token, close_token, operator, number, path}
use Rattle.kc_expr.specs.Machine.{Stack, State, Mark, Piece, Reading, take_token, take_tokens, tree_at, compares, room, has_open, extend, extended_or, settle, begin_token, begin_unit, begin_operator, begin_comparison, next_token, is_start, is_gap, step, result_of, read, parsed, at_start, or_place, more_decimal, more_hex, more_path, behind_step}
use Rattle.kc_expr.specs.Machine.Stack.{bottom}
use Rattle.kc_expr.specs.Machine.State.{want, after}
use Rattle.kc_expr.specs.Machine.Mark.{in_name, before_name, in_index, behind_index, behind_minus}
use Rattle.kc_expr.specs.Machine.Piece.{start, gap, whole, short, half, zero_digit, decimal_digits, hex_mark, hex_digits, path_part}
use Rattle.kc_expr.specs.Spelling.{Writes, Spells, IsGap, IsDecimal, IsHex, IsText, sign}
use Rattle.kc_expr.specs.Laws.{IsGoodToken, ArePaths}
use Rattle.kc_expr.specs.declared.tree.Operator.{Operator}
use Rattle.kc_expr.specs.declared.tree.Operator.TheVariants.{Both, Either, Equal, NotEqual, LessEqual, GreaterEqual, Less, Greater, Plus, Minus, BitAnd, BitOr, BitXor}
use Rattle.kc_expr.proofs.ByteLemmas.{Each, each-if, same-byte, other-byte, less-true, true-less, then-some, at}
use Rattle.kc_expr.proofs.TokenLemmas.{if-true, if-false, le-true, take-append, read-tokens}
use Rattle.kc_expr.proofs.ReadLemmas.{good-both}

and-true : (a b : Bool) → (a && b) ≡ true → (a ≡ true) × (b ≡ true)
and-true true b is = (refl, is)
and-true false b is = let none : ⊥ = cc in absurd none

-- whether something stands before what follows a list
abbrev pub behind : {A : Type 0} → Bool → List A → Bool
behind first [] = first
behind first (x ∷ xs) = false

behind-false : {A : Type 0} (xs : List A) → behind false xs ≡ false
behind-false [] = refl
behind-false (x ∷ xs) = refl

behind-more : {A : Type 0} (xs : List A) (x : A) → behind true (xs ++ x ∷ []) ≡ false
behind-more [] x = refl
behind-more (y ∷ ys) x = refl

-- one token more
spells-more : (first : Bool) (ts : List Token) (token : Token) (before spaces here : List ℕ) →
    Spells first ts before → IsGap (behind first ts) spaces → Writes token here →
    Spells first (ts ++ token ∷ []) (before ++ (spaces ++ here))
unfolding Spells
spells-more first [] token before spaces here is g w = (
  spaces,
  here,
  [],
  g,
  w,
  refl,
  ap (λ (bytes : List ℕ). bytes ++ (spaces ++ here)) is ∙ ap
      (λ (bytes : List ℕ). spaces ++ bytes) (sym (append-nil here)),
)
spells-more first (t ∷ ts) token before spaces here is g w = (
  is.0,
  is.1,
  is.2 ++ (spaces ++ here),
  is.3,
  is.4,
  spells-more false ts token is.2 spaces here is.5 (subst (λ (b : Bool). IsGap b spaces) (sym (behind-false ts)) g) w,
  ap (λ (bytes : List ℕ). bytes ++ (spaces ++ here)) is.6 ∙ append_assoc is.0 (is.1 ++ is.2) (spaces ++ here) ∙ ap
      (λ (bytes : List ℕ). is.0 ++ bytes) (append_assoc is.1 is.2 (spaces ++ here)),
)

-- one step of a path more
path-more : (first : Bool) (steps : List Step) (step : Step) (front here : List ℕ) → SpellsPath first steps front →
    WritesStep (behind first steps) step here → SpellsPath first (steps ++ step ∷ []) (front ++ here)
unfolding SpellsPath
path-more first [] step front here is w = (
  here,
  [],
  w,
  refl,
  ap (λ (bytes : List ℕ). bytes ++ here) is ∙ sym
      (append-nil here),
)
path-more first (s ∷ steps) step front here is w = (
  is.0,
  is.1 ++ here,
  is.2,
  path-more false steps step is.1 here is.3 (subst (λ (b : Bool). WritesStep b step here) (sym (behind-false steps)) w),
  ap (λ (bytes : List ℕ). bytes ++ here) is.4 ∙ append_assoc is.0 is.1 here,
)

path-of : (steps : List Step) (step : Step) (text : List ℕ) → SpellsPath true (steps ++ step ∷ []) text → IsPath text
path-of [] step text is = (step, [], is)
path-of (s ∷ steps) step text is = (s, steps ++ step ∷ [], is)

-- a name behind these bytes is a step
abbrev CanName : Bool → List ℕ → Type 0
CanName first lead = (name : List ℕ) → IsName name → (step : Step) × WritesStep first step (lead ++ name)

-- a path that ends in a name, in what leads to one, in the digits of an index
record NamedPath (text : List ℕ) : Type 0 where
  steps : List Step
  front : List ℕ
  lead : List ℕ
  name : List ℕ
  spelled : SpellsPath true steps front
  can : CanName (behind true steps) lead
  named : IsName name
  all : text ≡ front ++ (lead ++ name)

record LedPath (text : List ℕ) : Type 0 where
  steps : List Step
  front : List ℕ
  lead : List ℕ
  spelled : SpellsPath true steps front
  can : CanName (behind true steps) lead
  all : text ≡ front ++ lead

record IndexPath (k : ℕ) (text : List ℕ) : Type 0 where
  steps : List Step
  front : List ℕ
  digits : List ℕ
  spelled : SpellsPath true steps front
  later : behind true steps ≡ false
  decimal : All (λ c. IsTrue (is_digit c)) digits
  count : length digits ≡ k
  few : k ≤ 10
  all : text ≡ front ++ 91 ∷ digits

named-path : (text : List ℕ) → NamedPath text → IsPath text
named-path text h =
    let w = h.can h.name h.named in
    path-of h.steps w.0 text (subst (SpellsPath true (h.steps ++ w.0 ∷ [])) (sym h.all)
    (path-more true h.steps w.0 h.front (h.lead ++ h.name) h.spelled w.1))

begins-more : (name more : List ℕ) → begins_name name ≡ true → begins_name (name ++ more) ≡ true
begins-more [] more is = let none : ⊥ = cc in absurd none
begins-more (c ∷ cs) more is = is

one-byte : (P : ℕ → Type 0) (c : ℕ) → P c → All P (c ∷ [])
one-byte P c p zero d less = p
one-byte P c p (suc k) d less = let none : ⊥ = omega (arith, less) in absurd none

no-byte : (P : ℕ → Type 0) → All P []
no-byte P k d less = let none : ⊥ = omega (arith, less) in absurd none

letter-word : (c : ℕ) → is_letter c ≡ true → is_word c ≡ true
letter-word c is = ap (λ (b : Bool). b || is_digit c) is

named-more : (text : List ℕ) (c : ℕ) → NamedPath text → is_word c ≡ true → NamedPath (text ++ c ∷ [])
named-more text c h is = record {
  steps = h.steps;
  front = h.front;
  lead = h.lead;
  name = h.name ++ c ∷ [];
  spelled = h.spelled;
  can = h.can;
  named = record {
    begins = begins-more h.name (c ∷ []) h.named.begins;
    words = All-push (λ c. IsTrue
        (is_word c)) h.name c h.named.words is;
  };
  all = ap (λ (bytes : List ℕ). bytes ++ c ∷ []) h.all ∙ append_assoc h.front (h.lead ++ h.name) (c ∷ []) ∙ ap
      (λ (bytes : List ℕ). h.front ++ bytes) (append_assoc h.lead h.name (c ∷ []));
}

led-more : (text : List ℕ) (c : ℕ) → LedPath text → is_letter c ≡ true → NamedPath (text ++ c ∷ [])
led-more text c h is = record {
  steps = h.steps;
  front = h.front;
  lead = h.lead;
  name = c ∷ [];
  spelled = h.spelled;
  can = h.can;
  named = record { begins = is; words = one-byte (λ c. IsTrue (is_word c)) c (letter-word c is) };
  all = ap (λ (bytes : List ℕ). bytes ++ c ∷ []) h.all ∙ append_assoc h.front h.lead (c ∷ []);
}

index-more : (k : ℕ) (text : List ℕ) (c : ℕ) → IndexPath k text → is_digit c ≡ true → k < 10 → IndexPath (k + 1)
    (text ++ c ∷ [])
index-more k text c h is room = record {
  steps = h.steps;
  front = h.front;
  digits = h.digits ++ c ∷ [];
  spelled = h.spelled;
  later = h.later;
  decimal = All-push (λ c. IsTrue (is_digit c)) h.digits c h.decimal is;
  count = let count = h.count in omega (arith, length-append h.digits (c ∷ []), count);
  few = omega (arith, room);
  all = ap (λ (bytes : List ℕ). bytes ++ c ∷ []) h.all ∙ append_assoc h.front (91 ∷ h.digits) (c ∷ []);
}

dot-led : (text : List ℕ) → IsPath text → LedPath (text ++ 46 ∷ [])
dot-led text h = record {
  steps = h.0 ∷ h.1;
  front = text;
  lead = 46 ∷ [];
  spelled = h.2;
  can = λ name is.
      (Member name, (is, refl));
  all = refl;
}

arrow-led : (text : List ℕ) → IsPath text → LedPath (text ++ 45 ∷ 62 ∷ [])
arrow-led text h = record {
  steps = h.0 ∷ h.1;
  front = text;
  lead = 45 ∷ 62 ∷ [];
  spelled = h.2;
  can = λ name is.
      (Pointee name, (is, refl));
  all = refl;
}

bracket-led : (text : List ℕ) → IsPath text → IndexPath 0 (text ++ 91 ∷ [])
bracket-led text h = record {
  steps = h.0 ∷ h.1;
  front = text;
  digits = [];
  spelled = h.2;
  later = refl;
  decimal = no-byte (λ c. IsTrue (is_digit c));
  count = refl;
  few = omega arith;
  all = refl;
}

-- digits write an index
record Number (m b : ℕ) (ds : List ℕ) : Type 0 where
  number : ℕ
  reads : decimal_from m ds ≡ Some number
  below : number < b * 10 ^ length ds

tenfold : (b p : ℕ) → 10 * b * p ≡ b * (10 * p)
tenfold b p = mul_assoc 10 b p ∙ sym (mul_left_comm b 10 p)

digit-worth : (c : ℕ) → is_digit c ≡ true → decimal_value c ≡ Some (c - 48)
digit-worth c is = if-true (is_digit c) (Some (c - 48)) None is

digit-less : (c : ℕ) → is_digit c ≡ true → c - 48 < 10
digit-less c is = grind (arith, nat_tests)

decimal-first : (m c : ℕ) (cs : List ℕ) → is_digit c ≡ true → decimal_from m (c ∷ cs) ≡ decimal_from (10 * m +
    (c - 48)) cs
unfolding decimal_from
decimal-first m c cs is = ap (option_and_then (λ (d : ℕ). decimal_from (10 * m + d) cs)) (digit-worth c is)

ten-more : (k : ℕ) → 10 ^ suc k ≡ 10 * 10 ^ k
ten-more k = grind arith

digits-number : (ds : List ℕ) (m b : ℕ) → m < b → All (λ c. IsTrue (is_digit c)) ds → Number m b ds
unfolding decimal_from
digits-number [] m b less all = record { number = m; reads = refl; below = omega (arith, less) }
digits-number (c ∷ cs) m b less all =
    let digit : is_digit c ≡ true = all 0 0 (omega arith) in
    let small = digit-less c digit in
    let more = digits-number cs (10 * m + (c - 48)) (10 * b) (omega (arith, less, small)) (λ k d less. all (suc k) d
    (omega arith)) in
    record {
      number = more.number;
      reads = decimal-first m c cs digit ∙ more.reads;
      below = subst (λ (k : ℕ). more.number < k) (tenfold b (10 ^ length cs) ∙ ap (λ (k : ℕ). b * k) (sym (ten-more
          (length cs)))) more.below;
    }

index-number : (ds : List ℕ) → 0 < length ds → length ds ≤ 10 → All (λ c. IsTrue (is_digit c)) ds → (index : ℕ)
    × IsIndex index ds
index-number [] some few all = let none : ⊥ = omega (arith, some) in absurd none
index-number (c ∷ cs) some few all =
    let q = digits-number (c ∷ cs) 0 1 (omega arith) all in
    let digit : is_digit c ≡ true = all 0 0 (omega arith) in
    let most : 10 ^ length (c ∷ cs) ≤ 10 ^ 10 = pow-le-pow_right {n = 10} (lit< tt) few in
    let below = q.below in
    let small : q.number < 2 ^ 63 = omega (arith, below, most) in
    let fits : nat_lt q.number (2 ^ 63) ≡ true = less-true q.number (2 ^ 63) small in
    let long : nat_le 1 (length (c ∷ cs)) ≡ true = le-true 1 (length (c ∷ cs)) some in
    let short : nat_le (length (c ∷ cs)) 19 ≡ true = le-true (length (c ∷ cs)) 19 (omega (arith, few)) in
    let of : decimal_of (c ∷ cs) ≡ Some q.number =
    if-true (nat_le 1 (length (c ∷ cs)) && nat_le (length (c ∷ cs)) 19) (decimal_from 0 (c ∷ cs)) None (ap
    (λ (b : Bool). b && nat_le (length (c ∷ cs)) 19) long ∙ short) ∙ q.reads in
    let number : decimal_number (c ∷ cs) ≡ Some (pos q.number) =
    if-false (c == 45) _ (option_and_then positive (decimal_of (c ∷ cs))) (other-byte is_digit c 45 digit refl) ∙ ap
    (option_and_then positive) of ∙ if-true (nat_lt q.number (2 ^ 63)) (Some (pos q.number)) None fits in
    (q.number, record { few = few; decimal = all; number = number })

closed-index : (k : ℕ) (text : List ℕ) → IndexPath k text → 0 < k → IsPath (text ++ 93 ∷ [])
closed-index k text h some =
    let count = h.count in
    let few = h.few in
    let index = index-number h.digits (omega (arith, count, some)) (omega (arith, count, few)) h.decimal in
    let w : WritesStep false (Element index.0) (91 ∷ (h.digits ++ 93 ∷ [])) = (h.digits, index.1, refl) in
    path-of h.steps (Element index.0) (text ++ 93 ∷ [])
    (subst (SpellsPath true (h.steps ++ Element index.0 ∷ [])) (sym (ap (λ (bytes : List ℕ). bytes ++ 93 ∷ []) h.all
    ∙ append_assoc h.front (91 ∷ h.digits) (93 ∷ [])))
    (path-more true h.steps (Element index.0) h.front (91 ∷ (h.digits ++ 93 ∷ [])) h.spelled (subst
    (λ (b : Bool). WritesStep b (Element index.0) (91 ∷ (h.digits ++ 93 ∷ []))) (sym h.later) w)))

-- the bytes of the token that is begun
abbrev PathBegun : Mark → List ℕ → List ℕ → Type 0
PathBegun in_name text begun = NamedPath text × (begun ≡ text)
PathBegun before_name text begun = LedPath text × (begun ≡ text)
PathBegun (in_index k) text begun = IndexPath k text × (begun ≡ text)
PathBegun behind_index text begun = IsPath text × (begun ≡ text)
PathBegun behind_minus text begun = IsPath text × (begun ≡ text ++ 45 ∷ [])

abbrev Begun : Bool → Piece → List ℕ → Type 0
Begun first start begun = (first ≡ true) × (begun ≡ [])
Begun first gap begun = (first ≡ false) × (begun ≡ [])
Begun first (whole token) begun = IsGoodToken token × Writes token begun
Begun first (short op long second) begun = (begun ≡ sign op) × (begun ++ second ∷ [] ≡ sign long)
Begun first (half op) begun = begun ++ 61 ∷ [] ≡ sign op
Begun first zero_digit begun = begun ≡ 48 ∷ []
Begun first (decimal_digits n) begun = (n < 2 ^ 64) × IsDecimal n begun
Begun first hex_mark begun = begun ≡ 48 ∷ 120 ∷ []
Begun first (hex_digits n) begun = (n < 2 ^ 64) × IsHex n begun
Begun first (path_part mark text) begun = PathBegun mark text begun

abbrev Goes : Bool → List ℕ → Option Piece → Type 0
Goes first begun o = Each (λ (p : Piece). Begun first p begun) o

decimal-push : (ds : List ℕ) (m n c : ℕ) → decimal_from m ds ≡ Some n → is_digit c ≡ true → decimal_from m
    (ds ++ c ∷ []) ≡ Some (10 * n + (c - 48))
unfolding decimal_from
decimal-push [] m n c is digit =
    let same : m ≡ n = cc in
    ap (option_and_then (λ (d : ℕ). Some (10 * m + d))) (digit-worth c digit) ∙ ap (λ (k : ℕ). Some (10 * k +
    (c - 48))) same
decimal-push (x ∷ xs) m n c is digit =
    let q = then-some (λ (d : ℕ). decimal_from (10 * m + d) xs) (decimal_value x) n is in
    ap (option_and_then (λ (d : ℕ). decimal_from (10 * m + d) (xs ++ c ∷ []))) q.1 ∙ decimal-push xs
    (10 * m + q.0) n c q.2 digit

hex-push : (ds : List ℕ) (m n c d : ℕ) → hex_from m ds ≡ Some n → digit_value c ≡ Some d → hex_from m
    (ds ++ c ∷ []) ≡ Some (16 * n + d)
unfolding hex_from
hex-push [] m n c d is digit =
    let same : m ≡ n = cc in
    ap (option_and_then (λ (d : ℕ). Some (16 * m + d))) digit ∙ ap (λ (k : ℕ). Some (16 * k + d)) same
hex-push (x ∷ xs) m n c d is digit =
    let q = then-some (λ (d : ℕ). hex_from (16 * m + d) xs) (digit_value x) n is in
    ap (option_and_then (λ (d : ℕ). hex_from (16 * m + d) (xs ++ c ∷ []))) q.1 ∙ hex-push xs
    (16 * m + q.0) n c d q.2 digit

some-more : (xs ys : List ℕ) → 0 < length xs → 0 < length (xs ++ ys)
some-more [] ys some = let none : ⊥ = omega (arith, some) in absurd none
some-more (x ∷ xs) ys some = omega arith

decimal-begun : (first : Bool) (m c : ℕ) (begun : List ℕ) → IsDecimal m begun → Goes first (begun ++ c ∷ [])
    (more_decimal m c)
unfolding Each
decimal-begun first m c begun h =
    each-if (λ (p : Piece). Begun first p (begun ++ c ∷ [])) (is_digit c && nat_lt (10 * m + (c - 48)) (2 ^ 64)) (Some
    (decimal_digits (10 * m + (c - 48)))) None
    (λ is. let both = and-true (is_digit c) (nat_lt (10 * m + (c - 48)) (2 ^ 64)) is in (
      true-less (10 * m + (c - 48)) (2 ^ 64) both.1,
      (
        some-more begun
            (c ∷ []) h.0,
        decimal-push begun 0 m c h.1 both.0,
      ),
    )) (λ is. tt)

hex-digit : (n c d : ℕ) (begun : List ℕ) → IsHex n begun → digit_value c ≡ Some d → IsHex (16 * n + d) (begun ++ c ∷ [])
hex-digit n c d begun h is = (
  h.0 ++ c ∷ [],
  some-more h.0 (c ∷ []) h.1,
  hex-push h.0 0 n c d h.2 is,
  ap
      (λ (bytes : List ℕ). bytes ++ c ∷ []) h.3,
)

first-hex : (c d : ℕ) (begun : List ℕ) → begun ≡ 48 ∷ 120 ∷ [] → digit_value c ≡ Some d → IsHex (16 * 0 + d)
    (begun ++ c ∷ [])
unfolding hex_from
first-hex c d begun h is = (
  c ∷ [],
  omega arith,
  ap (option_and_then (λ (d : ℕ). Some (16 * 0 + d))) is,
  ap
      (λ (bytes : List ℕ). bytes ++ c ∷ []) h,
)

hex-begun : (first : Bool) (m : ℕ) (o : Option ℕ) (begun : List ℕ) → ((d : ℕ) → o ≡ Some d → IsHex
    (16 * m + d) begun) → Goes first begun (more_hex m o)
unfolding Each
hex-begun first m None begun h = tt
hex-begun first m (Some d) begun h =
    each-if (λ (p : Piece). Begun first p begun) (nat_lt (16 * m + d) (2 ^ 64)) (Some (hex_digits (16 * m + d))) None
    (λ is. (true-less (16 * m + d) (2 ^ 64) is, h d refl)) (λ is. tt)

zero-decimal : (begun : List ℕ) → begun ≡ 48 ∷ [] → IsDecimal 0 begun
unfolding decimal_from
zero-decimal begun is = subst (λ (bytes : List ℕ). IsDecimal 0 bytes) (sym is) (omega arith, refl)

-- a byte more of a path
behind-begun : (first : Bool) (text begun : List ℕ) (c : ℕ) → IsPath text → begun ≡ text → Goes first
    (begun ++ c ∷ []) (behind_step text c)
unfolding Each
behind-begun first text begun c h same =
    let P = λ (p : Piece). Begun first p (begun ++ c ∷ []) in
    each-if P (c == 46) _ _ (λ is. (dot-led text h, byte 46 is))
    (λ no_. each-if P (c == 91) _ _ (λ is. (bracket-led text h, byte 91 is))
    (λ no_. each-if P (c == 45) _ None (λ is. (h, byte 45 is)) (λ no_. tt)))
  where
    byte : (k : ℕ) → (c == k) ≡ true → begun ++ c ∷ [] ≡ text ++ k ∷ []
    byte k is = ap (λ (bytes : List ℕ). bytes ++ c ∷ []) same ∙ ap (λ (x : ℕ). text ++ x ∷ []) (same-byte c k is)

path-begun : (first : Bool) (mark : Mark) (text begun : List ℕ) (c : ℕ) → PathBegun mark text begun → Goes first
    (begun ++ c ∷ []) (more_path mark text c)
unfolding Each
path-begun first in_name text begun c h =
    each-if (λ (p : Piece). Begun first p (begun ++ c ∷ [])) (is_word c) (Some (path_part in_name (text ++ c ∷ [])))
    (behind_step text c)
    (λ is. (named-more text c h.0 is, ap (λ (bytes : List ℕ). bytes ++ c ∷ []) h.1))
    (λ is. behind-begun first text begun c (named-path text h.0) h.1)
path-begun first before_name text begun c h =
    each-if (λ (p : Piece). Begun first p (begun ++ c ∷ [])) (is_letter c) (Some (path_part in_name
    (text ++ c ∷ []))) None
    (λ is. (led-more text c h.0 is, ap (λ (bytes : List ℕ). bytes ++ c ∷ []) h.1)) (λ is. tt)
path-begun first (in_index k) text begun c h =
    let P = λ (p : Piece). Begun first p (begun ++ c ∷ []) in
    each-if P (is_digit c) _ _
    (λ digit. each-if P (nat_lt k 10) (Some (path_part (in_index (k + 1)) (text ++ c ∷ []))) None
    (λ is. (index-more k text c h.0 digit (true-less k 10 is), ap (λ (bytes : List ℕ). bytes ++ c ∷ []) h.1))
    (λ is. tt))
    (λ digit. each-if P ((c == 93) && nat_lt 0 k) (Some (path_part behind_index (text ++ 93 ∷ []))) None
    (λ is. let both = and-true (c == 93) (nat_lt 0 k) is in (
      closed-index k text h.0 (true-less 0 k both.1),
      ap (λ (bytes : List ℕ). bytes ++ c ∷ []) h.1 ∙ ap
          (λ (x : ℕ). text ++ x ∷ []) (same-byte c 93 both.0),
    )) (λ is. tt))
path-begun first behind_index text begun c h = behind-begun first text begun c h.0 h.1
path-begun first behind_minus text begun c h =
    each-if (λ (p : Piece). Begun first p (begun ++ c ∷ [])) (c == 62) (Some (path_part before_name
    (text ++ 45 ∷ 62 ∷ []))) None
    (λ is. (
      arrow-led text h.0,
      ap (λ (bytes : List ℕ). bytes ++ c ∷ []) h.1 ∙ append_assoc text (45 ∷ []) (c ∷ [])
          ∙ ap (λ (x : ℕ). text ++ 45 ∷ x ∷ []) (same-byte c 62 is),
    )) (λ is. tt)

-- a byte more of the token that is begun
extend-begun : (first : Bool) (p : Piece) (begun : List ℕ) (c : ℕ) → Begun first p begun → Goes first
    (begun ++ c ∷ []) (extend p c)
unfolding Each
extend-begun first start begun c h = tt
extend-begun first gap begun c h = tt
extend-begun first (whole token) begun c h = tt
extend-begun first (short op long second) begun c h =
    each-if (λ (p : Piece). Begun first p (begun ++ c ∷ [])) (c == second) (Some (whole (operator long))) None
    (λ is. (tt, ap (λ (x : ℕ). begun ++ x ∷ []) (same-byte c second is) ∙ h.1)) (λ is. tt)
extend-begun first (half op) begun c h =
    each-if (λ (p : Piece). Begun first p (begun ++ c ∷ [])) (c == 61) (Some (whole (operator op))) None
    (λ is. (tt, ap (λ (x : ℕ). begun ++ x ∷ []) (same-byte c 61 is) ∙ h)) (λ is. tt)
extend-begun first zero_digit begun c h =
    each-if (λ (p : Piece). Begun first p (begun ++ c ∷ [])) (c == 120) (Some hex_mark) (more_decimal 0 c)
    (λ is. ap (λ (bytes : List ℕ). bytes ++ c ∷ []) h ∙ ap (λ (x : ℕ). 48 ∷ x ∷ []) (same-byte c 120 is))
    (λ is. decimal-begun first 0 c begun (zero-decimal begun h))
extend-begun first (decimal_digits n) begun c h = decimal-begun first n c begun h.1
extend-begun first hex_mark begun c h = hex-begun first 0 (digit_value c) (begun ++ c ∷ [])
    (λ d is. first-hex c d begun h is)
extend-begun first (hex_digits n) begun c h = hex-begun first n (digit_value c) (begun ++ c ∷ [])
    (λ d is. hex-digit n c d begun h.1 is)
extend-begun first (path_part mark text) begun c h = path-begun first mark text begun c h

-- the byte that begins a token
whole-byte : (token : Token) (c k : ℕ) → IsGoodToken token → Writes token (k ∷ []) → (c == k) ≡ true →
    IsGoodToken token × Writes token (c ∷ [])
whole-byte token c k good w is = (good, subst (λ (x : ℕ). Writes token (x ∷ [])) (sym (same-byte c k is)) w)

digit-small : (c : ℕ) → is_digit c ≡ true → c - 48 < 2 ^ 64
digit-small c is = let less = digit-less c is in omega (arith, less)

digit-decimal : (c : ℕ) → is_digit c ≡ true → IsDecimal (c - 48) (c ∷ [])
unfolding decimal_from
digit-decimal c is =
    let same : 10 * 0 + (c - 48) ≡ c - 48 = omega arith in
    (omega arith, ap (option_and_then (λ (d : ℕ). Some (10 * 0 + d))) (digit-worth c is) ∙ ap (λ (k : ℕ). Some k) same)

letter-named : (c : ℕ) → is_letter c ≡ true → NamedPath (c ∷ [])
unfolding SpellsPath
letter-named c is = record {
  steps = [];
  front = [];
  lead = [];
  name = c ∷ [];
  spelled = refl;
  can = λ name named. (Member name, (named, refl));
  named = record { begins = is; words = one-byte (λ c. IsTrue (is_word c)) c (letter-word c is) };
  all = refl;
}

unit-begun : (first : Bool) (stack : Stack) (c : ℕ) → Goes first (c ∷ []) (begin_unit stack c)
unfolding Each
unit-begun first stack c =
    let P = λ (p : Piece). Begun first p (c ∷ []) in
    each-if P (c == 33) _ _ (λ is. each-if P (room stack) (Some (whole bang)) None
    (λ free. whole-byte bang c 33 tt refl is) (λ full. tt))
    (λ no_. each-if P (c == 40) _ _ (λ is. each-if P (room stack) (Some (whole open_token)) None
    (λ free. whole-byte open_token c 40 tt refl is) (λ full. tt))
    (λ no_. each-if P (c == 48) (Some zero_digit) _ (λ is. ap (λ (x : ℕ). x ∷ []) (same-byte c 48 is))
    (λ no_. each-if P (is_digit c) (Some (decimal_digits (c - 48))) _ (λ is. (digit-small c is, digit-decimal c is))
    (λ no_. each-if P (is_letter c) (Some (path_part in_name (c ∷ []))) None (λ is. (letter-named c is, refl))
    (λ no_. tt)))))

short-byte : (op long : Operator) (c k second : ℕ) → k ∷ [] ≡ sign op → k ∷ second ∷ [] ≡ sign long →
    (c == k) ≡ true → (c ∷ [] ≡ sign op) × (c ∷ second ∷ [] ≡ sign long)
short-byte op long c k second one two is =
    let same = same-byte c k is in
    (ap (λ (x : ℕ). x ∷ []) same ∙ one, ap (λ (x : ℕ). x ∷ second ∷ []) same ∙ two)

comparison-begun : (first : Bool) (c : ℕ) → Goes first (c ∷ []) (begin_comparison c)
unfolding Each
comparison-begun first c =
    let P = λ (p : Piece). Begun first p (c ∷ []) in
    each-if P (c == 60) (Some (short Less LessEqual 61)) _ (λ is. short-byte Less LessEqual c 60 61 refl refl is)
    (λ no_. each-if P (c == 62) (Some (short Greater GreaterEqual 61)) _
    (λ is. short-byte Greater GreaterEqual c 62 61 refl refl is)
    (λ no_. each-if P (c == 61) (Some (half Equal)) _ (λ is. ap (λ (x : ℕ). x ∷ 61 ∷ []) (same-byte c 61 is))
    (λ no_. each-if P (c == 33) (Some (half NotEqual)) None (λ is. ap (λ (x : ℕ). x ∷ 61 ∷ []) (same-byte c 33 is))
    (λ no_. tt))))

operator-begun : (first : Bool) (stack : Stack) (c : ℕ) → Goes first (c ∷ []) (begin_operator stack c)
unfolding Each
operator-begun first stack c =
    let P = λ (p : Piece). Begun first p (c ∷ []) in
    each-if P (c == 41) _ _ (λ is. each-if P (has_open stack) (Some (whole close_token)) None
    (λ there. whole-byte close_token c 41 tt refl is) (λ none. tt))
    (λ no_. each-if P (c == 43) (Some (whole (operator Plus))) _ (λ is. whole-byte (operator Plus) c 43 tt refl is)
    (λ no_. each-if P (c == 45) (Some (whole (operator Minus))) _ (λ is. whole-byte (operator Minus) c 45 tt refl is)
    (λ no_. each-if P (c == 94) (Some (whole (operator BitXor))) _ (λ is. whole-byte (operator BitXor) c 94 tt refl is)
    (λ no_. each-if P (c == 38) (Some (short BitAnd Both 38)) _ (λ is. short-byte BitAnd Both c 38 38 refl refl is)
    (λ no_. each-if P (c == 124) (Some (short BitOr Either 124)) _
    (λ is. short-byte BitOr Either c 124 124 refl refl is)
    (λ no_. each-if P (compares stack) None (begin_comparison c) (λ is. tt) (λ is. comparison-begun first c)))))))

token-begun : (first : Bool) (s : State) (c : ℕ) → Goes first (c ∷ []) (begin_token s c)
token-begun first (want stack) c = unit-begun first stack c
token-begun first (after t stack) c = operator-begun first stack c

-- bytes spell tokens that lead to a state
record Said (before : List ℕ) (s : State) : Type 0 where
  ts : List Token
  spelled : Spells true ts before
  good : ArePaths ts
  led : take_tokens ts (want bottom) ≡ Some s

-- and there is such a token
record SaidSome (before : List ℕ) (s : State) : Type 0 where
  said : Said before s
  some : behind true said.ts ≡ false

said-more : (before spaces here : List ℕ) (s next : State) (token : Token) (h : Said before s) → IsGap
    (behind true h.ts) spaces → IsGoodToken token → Writes token here → take_token s token ≡ Some next →
    SaidSome (before ++ (spaces ++ here)) next
unfolding take_tokens
said-more before spaces here s next token h g good w is = record {
  said = record {
    ts = h.ts ++ token ∷ [];
    spelled = spells-more true h.ts token before spaces here h.spelled g w;
    good = good-both h.ts (token ∷ []) h.good (good, tt);
    led = take-append h.ts (token ∷ []) (want bottom) ∙ ap (option_and_then (take_tokens (token ∷ []))) h.led ∙ ap
        (option_and_then (take_tokens [])) is;
  };
  some = behind-more h.ts token;
}

minus-said : (before spaces text begun : List ℕ) (s next : State) (h : Said before s) → IsGap
    (behind true h.ts) spaces → IsPath text → begun ≡ text ++ 45 ∷ [] →
    option_and_then (λ next. take_token next (operator Minus)) (take_token s (path text)) ≡ Some next → SaidSome
    (before ++ (spaces ++ begun)) next
minus-said before spaces text begun s next h g is same taken =
    let q = then-some (λ (next : State). take_token next (operator Minus)) (take_token s (path text)) next taken in
    let one = said-more before spaces text s q.0 (path text) h g is refl q.1 in
    let gap : IsGap (behind true one.said.ts) [] = subst (λ (b : Bool). IsGap b []) (sym one.some) (no-byte
    (λ c. c ≡ 32)) in
    subst (λ (bytes : List ℕ). SaidSome bytes next)
    (append_assoc before (spaces ++ text) (45 ∷ []) ∙ ap (λ (bytes : List ℕ). before ++ bytes)
    (append_assoc spaces text (45 ∷ []) ∙ ap (λ (bytes : List ℕ). spaces ++ bytes) (sym same)))
    (said-more (before ++ (spaces ++ text)) [] (45 ∷ []) q.0 next (operator Minus) one.said gap tt refl q.2)

-- the token that is begun ends
settle-said : (p : Piece) (before spaces begun : List ℕ) (s next : State) (h : Said before s) → IsGap
    (behind true h.ts) spaces → Begun (behind true h.ts) p begun →
    is_gap p ≡ false → is_start p ≡ false → settle s p ≡ Some next → SaidSome (before ++ (spaces ++ begun)) next
settle-said start before spaces begun s next h g b full some is = let none : ⊥ = cc in absurd none
settle-said gap before spaces begun s next h g b full some is = let none : ⊥ = cc in absurd none
settle-said (whole token) before spaces begun s next h g b full some is =
    said-more before spaces begun s next token h g b.0 b.1 is
settle-said (short op long second) before spaces begun s next h g b full some is =
    said-more before spaces begun s next
    (operator op) h g tt b.0 is
settle-said (half op) before spaces begun s next h g b full some is = let none : ⊥ = cc in absurd none
settle-said zero_digit before spaces begun s next h g b full some is = said-more before spaces begun s next
    (number 0) h g tt (omega arith, inl (zero-decimal begun b)) is
settle-said (decimal_digits n) before spaces begun s next h g b full some is = said-more before spaces begun s next
    (number n) h g tt (b.0, inl b.1) is
settle-said hex_mark before spaces begun s next h g b full some is = let none : ⊥ = cc in absurd none
settle-said (hex_digits n) before spaces begun s next h g b full some is = said-more before spaces begun s next
    (number n) h g tt (b.0, inr b.1) is
settle-said (path_part in_name text) before spaces begun s next h g b full some is =
    said-more before spaces begun s next
    (path text) h g (named-path text b.0) b.1 is
settle-said (path_part behind_index text) before spaces begun s next h g b full some is =
    said-more before spaces begun s next
    (path text) h g b.0 b.1 is
settle-said (path_part behind_minus text) before spaces begun s next h g b full some is =
    minus-said before spaces text begun s next h g b.0 b.1 is
settle-said (path_part before_name text) before spaces begun s next h g b full some is =
    let none : ⊥ = cc in absurd none
settle-said (path_part
    (in_index k) text) before spaces begun s next h g b full some is = let none : ⊥ = cc in absurd none

-- what the bytes so far are: those of tokens, spaces, and those of the token that is begun
record Sofar (before : List ℕ) (r : Reading) : Type 0 where
  front : List ℕ
  spaces : List ℕ
  begun : List ℕ
  said : Said front r.state
  between : IsGap (behind true said.ts) spaces
  piece : Begun (behind true said.ts) r.piece begun
  all : before ≡ front ++ (spaces ++ begun)

-- and what they are where that token ends
record Settled (before : List ℕ) (first : Bool) (s : State) : Type 0 where
  front : List ℕ
  spaces : List ℕ
  said : Said front s
  between : IsGap (behind true said.ts) spaces
  some : first ≡ false → behind true said.ts ≡ false
  all : before ≡ front ++ spaces

settled-some : (before : List ℕ) (first : Bool) (s : State) → SaidSome before s → Settled before first s
settled-some before first s h = record {
  front = before;
  spaces = [];
  said = h.said;
  between = subst (λ (b : Bool). IsGap b []) (sym h.some) (no-byte (λ c. c ≡ 32));
  some = λ is. h.some;
  all = sym (append-nil before);
}

ended : (before : List ℕ) (s next : State) (p : Piece) (h : Sofar before (at s p)) → is_gap p ≡ false →
    is_start p ≡ false → settle s p ≡ Some next → SaidSome before next
ended before s next p h full some is =
    subst (λ (bytes : List ℕ). SaidSome bytes next) (sym h.all)
    (settle-said p h.front h.spaces h.begun s next h.said h.between h.piece full some is)

nothing-begun : (front spaces begun : List ℕ) → begun ≡ [] → front ++ (spaces ++ begun) ≡ front ++ spaces
nothing-begun front spaces begun is = ap (λ (bytes : List ℕ). front ++ (spaces ++ bytes)) is ∙ ap
    (λ (bytes : List ℕ). front ++ bytes) (append-nil spaces)

settled : (before : List ℕ) (s next : State) (p : Piece) → Sofar before (at s p) → settle s p ≡ Some next →
    Settled before (is_start p) next
settled before s next start h is =
    let e : s ≡ next = cc in
    subst (λ (x : State). Settled before true x) e
    (record {
      front = h.front;
      spaces = h.spaces;
      said = h.said;
      between = h.between;
      some = λ no_. let none : ⊥ = cc in absurd none;
      all = h.all ∙ nothing-begun h.front h.spaces h.begun h.piece.1;
    })
settled before s next gap h is =
    let e : s ≡ next = cc in
    subst (λ (x : State). Settled before false x) e
    (record {
      front = h.front;
      spaces = h.spaces;
      said = h.said;
      between = h.between;
      some = λ no_. h.piece.0;
      all = h.all ∙ nothing-begun h.front h.spaces h.begun h.piece.1;
    })
settled before s next p h is = settled-some before (is_start p) next (ended before s next p h refl refl is)

-- the next token begins, or a space stands before it
begun-sofar : (before : List ℕ) (first : Bool) (c : ℕ) (s : State) (h : Settled before first s) (o : Option Piece) →
    Goes (behind true h.said.ts) (c ∷ []) o →
    Each (Sofar (before ++ c ∷ [])) (option_map (at s) o)
unfolding Each
begun-sofar before first c s h None b = tt
begun-sofar before first c s h (Some p) b = record {
  front = h.front;
  spaces = h.spaces;
  begun = c ∷ [];
  said = h.said;
  between = h.between;
  piece = b;
  all = ap (λ (bytes : List ℕ). bytes ++ c ∷ []) h.all ∙ append_assoc h.front h.spaces (c ∷ []);
}

space-sofar : (before : List ℕ) (c : ℕ) (s : State) (h : Settled before false s) → (c == 32) ≡ true → Sofar
    (before ++ c ∷ []) (at s gap)
space-sofar before c s h is =
    let some = h.some refl in
    let wide : All (λ c. c ≡ 32) h.spaces = subst (λ (b : Bool). IsGap b h.spaces) some h.between in
    record {
      front = h.front;
      spaces = h.spaces ++ c ∷ [];
      begun = [];
      said = h.said;
      between = subst (λ (b : Bool). IsGap b (h.spaces ++ c ∷ [])) (sym some) (All-push (λ c. c ≡ 32) h.spaces c wide
          (same-byte c 32 is));
      piece = (some, refl);
      all = ap (λ (bytes : List ℕ). bytes ++ c ∷ []) h.all ∙ append_assoc h.front h.spaces (c ∷ []) ∙ ap
          (λ (bytes : List ℕ). h.front ++ bytes) (sym (append-nil (h.spaces ++ c ∷ [])));
    }

gap-sofar : (before : List ℕ) (first : Bool) (c : ℕ) (s : State) → Settled before first s → (c == 32) ≡ true → Each
    (Sofar (before ++ c ∷ [])) (if first then None else Some (at s gap))
unfolding Each
gap-sofar before true c s h is = tt
gap-sofar before false c s h is = space-sofar before c s h is

next-sofar : (before : List ℕ) (first : Bool) (c : ℕ) (s : State) → Settled before first s → Each (Sofar
    (before ++ c ∷ [])) (next_token first c s)
next-sofar before first c s h =
    each-if (Sofar (before ++ c ∷ [])) (c == 32) (if first then None else Some (at s gap)) (option_map (at s)
    (begin_token s c)) (gap-sofar before first c s h)
    (λ no_. begun-sofar before first c s h (begin_token s c) (token-begun (behind true h.said.ts) s c))

then-sofar : (before : List ℕ) (first : Bool) (c : ℕ) (o : Option State) → ((next : State) → o ≡ Some next →
    Settled before first next) → Each (Sofar (before ++ c ∷ [])) (option_and_then (next_token first c) o)
unfolding Each
then-sofar before first c None h = tt
then-sofar before first c (Some s) h = next-sofar before first c s (h s refl)

extended-sofar : (before : List ℕ) (s : State) (p : Piece) (c : ℕ) (h : Sofar before (at s p)) (o : Option Piece) →
    Goes (behind true h.said.ts) (h.begun ++ c ∷ []) o →
    Each (Sofar (before ++ c ∷ [])) (extended_or (at s p) c o)
unfolding Each
extended-sofar before s p c h None b = then-sofar before (is_start p) c (settle s p)
    (λ next is. settled before s next p h is)
extended-sofar before s p c h (Some q) b = record {
  front = h.front;
  spaces = h.spaces;
  begun = h.begun ++ c ∷ [];
  said = h.said;
  between = h.between;
  piece = b;
  all = ap (λ (bytes : List ℕ). bytes ++ c ∷ []) h.all ∙ append_assoc h.front (h.spaces ++ h.begun) (c ∷ []) ∙ ap
      (λ (bytes : List ℕ). h.front ++ bytes) (append_assoc h.spaces h.begun (c ∷ []));
}

step-sofar : (before : List ℕ) (r : Reading) (c : ℕ) → Sofar before r → Each (Sofar (before ++ c ∷ [])) (step r c)
unfolding step
step-sofar before r c h = extended-sofar before r.state r.piece c h (extend r.piece c) (extend-begun
    (behind true h.said.ts) r.piece h.begun c h.piece)

-- where a text ends
start-said : (before : List ℕ) (s : State) (h : Sofar before (at s start)) → Said before s
start-said before s h =
    let none : h.spaces ≡ [] = subst (λ (b : Bool). IsGap b h.spaces) h.piece.0 h.between in
    let same : before ≡ h.front = h.all ∙ nothing-begun h.front h.spaces h.begun h.piece.1 ∙ ap
    (λ (bytes : List ℕ). h.front ++ bytes) none ∙ append-nil h.front in
    subst (λ (bytes : List ℕ). Said bytes s) (sym same) h.said

end-said : (before : List ℕ) (s next : State) (p : Piece) → Sofar before (at s p) → is_gap p ≡ false →
    settle s p ≡ Some next → Said before next
end-said before s next start h full is = let e : s ≡ next = cc in subst (Said before) e (start-said before s h)
end-said before s next gap h full is = let none : ⊥ = cc in absurd none
end-said before s next p h full is = let q = ended before s next p h refl refl is in q.said

ended-tree : (n : ℕ) (o : Option Tree) (t : Tree) → or_place n o ≡ Ok t → o ≡ Some t
ended-tree n None t is = let none : ⊥ = cc in absurd none
ended-tree n (Some u) t is = let same : u ≡ t = cc in ap (λ (x : Tree). Some x) same

whole-text : (text : List ℕ) (s : State) (t : Tree) → Said text s → tree_at s ≡ Some t → IsText text t
whole-text text s t h is =
    let q = read-tokens h.ts t h.good (ap (option_and_then tree_at) h.led ∙ is) in
    record { fits = q.0; shallow = q.1; spelled = subst (λ (ts : List Token). Spells true ts text) (sym q.2) h.spelled }

not-gap : (b : Bool) (o : Option Tree) (t : Tree) → (if b then None else o) ≡ Some t → (b ≡ false) × (o ≡ Some t)
not-gap true o t is = let none : ⊥ = cc in absurd none
not-gap false o t is = (refl, is)

end-text : (text : List ℕ) (r : Reading) (n : ℕ) (t : Tree) → Sofar text r → or_place n (result_of r) ≡ Ok t →
    IsText text t
unfolding result_of
end-text text r n t h is =
    let q = not-gap (is_gap r.piece) (option_and_then tree_at (settle r.state r.piece)) t (ended-tree n
    (result_of r) t is) in
    let s = then-some tree_at (settle r.state r.piece) t q.1 in
    whole-text text s.0 t (end-said text r.state s.0 r.piece h q.0 s.1) s.2

read-text : (cs before : List ℕ) (n : ℕ) (r : Reading) (t : Tree) → Sofar before r → read cs n r ≡ Ok t → IsText
    (before ++ cs) t
unfolding read Each
read-text [] before n r t h is = subst (λ (bytes : List ℕ). IsText bytes t) (sym (append-nil before))
    (end-text before r n t h is)
read-text (c ∷ cs) before n r t h is = on (step r c) (step-sofar before r c h) is (λ next more. read-text cs
    (before ++ c ∷ []) (n + 1) next t more)
  where
    on : (o : Option Reading) → Each (Sofar (before ++ c ∷ [])) o → (elim o as
        (λ _. Result Tree ℕ) [ None ↦ Err n | Some next ↦ read cs (n + 1) next ]) ≡ Ok t →
        ((next : Reading) → Sofar (before ++ c ∷ []) next → read cs (n + 1) next ≡ Ok t → IsText
        ((before ++ c ∷ []) ++ cs) t) → IsText (before ++ c ∷ cs) t
    on None more is on-from = let none : ⊥ = cc in absurd none
    on (Some next) more is on-from = subst (λ (bytes : List ℕ). IsText bytes t) (append_assoc before (c ∷ []) cs)
        (on-from next more is)

start-sofar : Sofar [] at_start
unfolding Spells take_tokens
start-sofar = record {
  front = [];
  spaces = [];
  begun = [];
  said = record { ts = []; spelled = refl; good = tt; led = refl };
  between = refl;
  piece = (refl, refl);
  all = refl;
}

-- a text that is read is that of its tree
pub read-is-text : (text : List ℕ) (t : Tree) → parsed text ≡ Ok t → IsText text t
read-is-text text t is = read-text text [] 0 at_start t start-sofar is
