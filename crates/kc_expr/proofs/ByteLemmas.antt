-- Bytes one after another: what a byte isn't, what an option holds, and where bytes lead a reading.
use Rattle.std.proofs.Common.{◌≡◌, ℕ, ◌+◌, ◌<◌, Bool, true, false, ◌==◌, nat_lt, List, [], ◌∷◌, ◌++◌, Option, Some, None, option_and_then, Result, Err, if◌then◌else◌, refl, ap, sym, ◌∙◌, arith, append_assoc}
use Rattle.std.proofs.lemmas.Bool.Decides.{nat_tests}
use Rattle.kc_expr.specs.Tree.{Tree}
use Rattle.kc_expr.specs.Machine.{State, Piece, Reading, extend, extended_or, settle, next_token, is_start, step, read}

pub same-byte : (c k : ℕ) → (c == k) ≡ true → c ≡ k
same-byte c k is = grind (arith, nat_tests)

pub other-byte : (p : ℕ → Bool) (c k : ℕ) → p c ≡ true → p k ≡ false → (c == k) ≡ false
other-byte p c k is not = by (c == k) refl
  where
    by : (b : Bool) → (c == k) ≡ b → b ≡ false
    by false e = refl
    by true e = let wrong : true ≡ false = sym is ∙ ap p (same-byte c k e) ∙ not in let none : ⊥ = cc in absurd none

pub less-true : (a b : ℕ) → a < b → nat_lt a b ≡ true
less-true a b less = grind (arith, nat_tests)

pub true-less : (a b : ℕ) → nat_lt a b ≡ true → a < b
true-less a b is = grind (arith, nat_tests)

pub given-some : {A : Type 0} (b : Bool) (x y : A) → (if b then Some x else None) ≡ Some y → (b ≡ true) × (x ≡ y)
given-some true x y is = (refl, cc)
given-some false x y is = let none : ⊥ = cc in absurd none

pub denied-some : {A : Type 0} (b : Bool) (x y : A) → (if b then None else Some x) ≡ Some y → (b ≡ false) × (x ≡ y)
denied-some false x y is = (refl, cc)
denied-some true x y is = let none : ⊥ = cc in absurd none

pub then-some : {A B : Type 0} (f : A → Option B) (o : Option A) (y : B) → option_and_then f o ≡ Some y → (x : A)
    × (o ≡ Some x) × (f x ≡ Some y)
then-some f None y is = let none : ⊥ = cc in absurd none
then-some f (Some x) y is = (x, refl, is)

-- what holds of what is there
unfoldable pub Each : {A : Type 0} → (A → Type 0) → Option A → Type 0
Each P None = Unit {0}
Each P (Some x) = P x

pub each-pick : {A : Type 0} (P : A → Type 0) (b : Bool) (x y : Option A) → Each P x → Each P y → Each P
    (if b then x else y)
each-pick P true x y p q = p
each-pick P false x y p q = q

pub each-if : {A : Type 0} (P : A → Type 0) (b : Bool) (x y : Option A) → (b ≡ true → Each P x) → (b ≡ false →
    Each P y) → Each P (if b then x else y)
each-if P true x y p q = p refl
each-if P false x y p q = q refl

abbrev pub at : State → Piece → Reading
at s p = record { state = s; piece = p }

-- a byte more, of the token that is begun, and behind it
pub step-on : (s : State) (p q : Piece) (c : ℕ) → extend p c ≡ Some q → step (at s p) c ≡ Some (at s q)
unfolding step
step-on s p q c is = ap (extended_or (at s p) c) is

pub step-after : (r : Reading) (s : State) (c : ℕ) → extend r.piece c ≡ None → settle r.state r.piece ≡ Some s →
    step r c ≡ next_token (is_start r.piece) c s
unfolding step
step-after r s c ends settled = ap (extended_or r c) ends ∙ ap (option_and_then (next_token
    (is_start r.piece) c)) settled

pub read-step : (r next : Reading) (c n : ℕ) (cs : List ℕ) → step r c ≡ Some next → read (c ∷ cs) n r ≡ read cs
    (n + 1) next
unfolding read
read-step r next c n cs is = ap (λ (o : Option Reading). elim o as
    (λ _. Result Tree ℕ) [ None ↦ Err n | Some next ↦ read cs (n + 1) next ]) is

-- bytes lead from one reading to another
abbrev pub Leads : Reading → List ℕ → Reading → Type 0
Leads r here next = (rest : List ℕ) (n : ℕ) → (m : ℕ) × (read (here ++ rest) n r ≡ read rest m next)

pub leads-none : (r : Reading) → Leads r [] r
leads-none r rest n = (n, refl)

pub leads-byte : (r next last : Reading) (c : ℕ) (cs : List ℕ) → step r c ≡ Some next → Leads next cs last → Leads r
    (c ∷ cs) last
leads-byte r next last c cs is more rest n = let q = more rest (n + 1) in (
  q.0,
  read-step r next c n (cs ++ rest) is
      ∙ q.1,
)

pub leads-both : (r next last : Reading) (front back : List ℕ) → Leads r front next → Leads next back last → Leads r
    (front ++ back) last
leads-both r next last front back first more rest n =
    let p = first (back ++ rest) n in
    let q = more rest p.0 in
    (q.0, ap (λ (bytes : List ℕ). read bytes n r) (append_assoc front back rest) ∙ p.1 ∙ q.1)
