-- Reading tokens: each tree is read from its tokens, and what is read was one.
use Rattle.std.proofs.Common.{◌≡◌, ℕ, ◌+◌, ◌<◌, ◌≤◌, Bool, true, false, ◌&&◌, nat_le, ◌⊎◌, List, [], ◌∷◌, ◌++◌, Option, Some, None, option_and_then, if◌then◌else◌, refl, ap, sym, ◌∙◌, subst, arith, append_assoc, append-nil}
use Rattle.std.proofs.Common.{inl, inr}
use Rattle.std.proofs.lemmas.Bool.Decides.{nat_tests}
use Rattle.kc_expr.specs.Tree.{Token, Tree, tokens, rank, rank_of, left_rank, Fits, depth}
use Rattle.kc_expr.specs.Tree.Token.{bang, open_token, close_token, operator, number, path}
use Rattle.kc_expr.specs.Tree.Tree.{literal, field, negation, group, binary}
use Rattle.kc_expr.specs.Machine.{Stack, State, count_open, room, is_alone, compares, reduce, with_operator, behind_open, finished, take_token, take_tokens, tree_at}
use Rattle.kc_expr.specs.Machine.Stack.{bottom, not_on, open_on, left_on}
use Rattle.kc_expr.specs.Machine.State.{want, after}
use Rattle.kc_expr.specs.Laws.{IsGoodToken, ArePaths, TokensAreRead, ReadTokens}
use Rattle.kc_expr.specs.declared.tree.Operator.{Operator}
use Rattle.kc_expr.specs.declared.tree.Operator.TheVariants.{Either, Both, Equal, NotEqual, LessEqual, GreaterEqual, Less, Greater, Plus, Minus, BitAnd, BitOr, BitXor}
use Rattle.kc_expr.proofs.ByteLemmas.{given-some, denied-some}

pub take-append : (ts us : List Token) (s : State) → take_tokens (ts ++ us) s ≡ option_and_then (take_tokens us) (take_tokens ts s)
unfolding take_tokens
take-append [] us s = refl
take-append (t ∷ ts) us s = on (λ next. take-append ts us next) (take_token s t)
  where
    on : ((next : State) → take_tokens (ts ++ us) next ≡ option_and_then (take_tokens us) (take_tokens ts next)) →
        (o : Option State) → option_and_then (take_tokens (ts ++ us)) o ≡ option_and_then (take_tokens us) (option_and_then (take_tokens ts) o)
    on more None = refl
    on more (Some next) = more next

-- the ranks of an operator and of its left operands
pub Ranks : Operator → Type 0
Ranks op = (rank_of op ≤ left_rank op) × (left_rank op ≤ 3) × (((is_alone op ≡ false) × (left_rank op ≡ rank_of op)) ⊎ ((is_alone op ≡ true) × (rank_of op ≡ 2) × (left_rank op ≡ 3)))

pub ranks : (op : Operator) → Ranks op
unfolding Ranks
ranks Either = (omega arith, omega arith, inl (refl, refl))
ranks Both = (omega arith, omega arith, inl (refl, refl))
ranks Equal = (omega arith, omega arith, inr (refl, refl, refl))
ranks NotEqual = (omega arith, omega arith, inr (refl, refl, refl))
ranks LessEqual = (omega arith, omega arith, inr (refl, refl, refl))
ranks GreaterEqual = (omega arith, omega arith, inr (refl, refl, refl))
ranks Less = (omega arith, omega arith, inr (refl, refl, refl))
ranks Greater = (omega arith, omega arith, inr (refl, refl, refl))
ranks Plus = (omega arith, omega arith, inl (refl, refl))
ranks Minus = (omega arith, omega arith, inl (refl, refl))
ranks BitAnd = (omega arith, omega arith, inl (refl, refl))
ranks BitOr = (omega arith, omega arith, inl (refl, refl))
ranks BitXor = (omega arith, omega arith, inl (refl, refl))

pub least-rank : (op : Operator) → (rank_of op ≤ left_rank op) × (left_rank op ≤ 3)
unfolding Ranks
least-rank op = let r = ranks op in (r.0, r.1)

pub rank-most : (t : Tree) → rank t ≤ 4
rank-most (literal n) = omega arith
rank-most (field p) = omega arith
rank-most (negation t) = omega arith
rank-most (group t) = omega arith
rank-most (binary op a b) = let r = least-rank op in omega arith

-- a tree of this rank may stand over what is open
abbrev pub Ready : ℕ → Stack → Type 0
Ready r bottom = Unit {0}
Ready r (open_on s) = Unit {0}
Ready r (not_on s) = 4 ≤ r
Ready r (left_on op a s) = rank_of op < r

pub ready-unit : (s : Stack) → Ready 4 s
ready-unit bottom = tt
ready-unit (open_on s) = tt
ready-unit (not_on s) = omega arith
ready-unit (left_on op a s) = let r = least-rank op in omega arith

pub ready-more : (low high : ℕ) (s : Stack) → low ≤ high → Ready low s → Ready high s
ready-more low high bottom le h = tt
ready-more low high (open_on s) le h = tt
ready-more low high (not_on s) le h = omega arith
ready-more low high (left_on op a s) le h = omega arith

-- what is read of a tree when its tokens are
pub last_unit : Tree → Tree
last_unit (literal n) = literal n
last_unit (field p) = field p
last_unit (negation t) = last_unit t
last_unit (group t) = group t
last_unit (binary op a b) = last_unit b

pub last_stack : Tree → Stack → Stack
last_stack (literal n) s = s
last_stack (field p) s = s
last_stack (negation t) s = last_stack t (not_on s)
last_stack (group t) s = s
last_stack (binary op a b) s = last_stack b (left_on op a s)

pub if-true : {A : Type 0} (b : Bool) (x y : A) → b ≡ true → (if b then x else y) ≡ x
if-true true x y is = refl
if-true false x y is = let none : ⊥ = cc in absurd none

pub if-false : {A : Type 0} (b : Bool) (x y : A) → b ≡ false → (if b then x else y) ≡ y
if-false false x y is = refl
if-false true x y is = let none : ⊥ = cc in absurd none

pub le-true : (a b : ℕ) → a ≤ b → nat_le a b ≡ true
le-true a b le = grind (arith, nat_tests)

le-false : (a b : ℕ) → b < a → nat_le a b ≡ false
le-false a b lt = grind (arith, nat_tests)

reduce-last : (t : Tree) (least : ℕ) (s : Stack) → Fits t → least ≤ rank t → reduce least (last_unit t) (last_stack t s) ≡ reduce least t s
unfolding last_unit last_stack
reduce-last (literal n) least s fits le = refl
reduce-last (field p) least s fits le = refl
reduce-last (group t) least s fits le = refl
reduce-last (negation t) least s fits le = reduce-last t least (not_on s) fits.1 (omega (arith, fits.0))
reduce-last (binary op a b) least s fits le =
    reduce-last b least (left_on op a s) fits.3 (omega (arith, fits.1)) ∙ if-true (nat_le least (rank_of op)) (reduce least (binary op a b) s) (b, left_on op a s) (le-true least (rank_of op) le)

reduce-stops : (least : ℕ) (t : Tree) (s : Stack) → least ≤ 3 → Ready least s → reduce least t s ≡ (t, s)
reduce-stops least t bottom le h = refl
reduce-stops least t (open_on s) le h = refl
reduce-stops least t (not_on s) le h = let none : ⊥ = omega arith in absurd none
reduce-stops least t (left_on op a s) le h = if-false (nat_le least (rank_of op)) (reduce least (binary op a t) s) (t, left_on op a s) (le-false least (rank_of op) h)

compares-last : (t : Tree) (s : Stack) → Fits t → 3 ≤ rank t → compares (last_stack t s) ≡ compares s
unfolding last_stack
compares-last (literal n) s fits le = refl
compares-last (field p) s fits le = refl
compares-last (group t) s fits le = refl
compares-last (negation t) s fits le = compares-last t (not_on s) fits.1 (omega (arith, fits.0))
compares-last (binary op a b) s fits le =
    compares-last b (left_on op a s) fits.3 (omega (arith, fits.1)) ∙ if-true (nat_le 3 (rank_of op)) (compares s) (is_alone op) (le-true 3 (rank_of op) le)

not-compares : (s : Stack) → Ready 2 s → compares s ≡ false
not-compares bottom h = refl
not-compares (open_on s) h = refl
not-compares (not_on s) h = let none : ⊥ = omega arith in absurd none
not-compares (left_on op a s) h = if-false (nat_le 3 (rank_of op)) (compares s) (is_alone op) (le-false 3 (rank_of op) (omega arith)) ∙ grind (arith, nat_tests)

room-there : (s : Stack) → count_open s < 16 → room s ≡ true
room-there s lt = grind (arith, nat_tests)

-- a comparison isn't the left operand of one
may-stand : (op : Operator) (a : Tree) (s : Stack) → Fits a → left_rank op ≤ rank a → Ready (rank_of op) s → (is_alone op && compares (last_stack a s)) ≡ false
unfolding Ranks
may-stand op a s fits le h = elim ((ranks op).2) [ inl r ↦ rw r.0 refl | inr r ↦ alone r.0 r.1 r.2 ]
  where
    alone : is_alone op ≡ true → rank_of op ≡ 2 → left_rank op ≡ 3 → (is_alone op && compares (last_stack a s)) ≡ false
    alone is two three =
        let free : compares (last_stack a s) ≡ false = compares-last a s fits (omega arith) ∙ not-compares s (ready-more (rank_of op) 2 s (omega arith) h) in
        rw (is, free) refl

with-operator : (op : Operator) (a : Tree) (s : Stack) → Fits a → left_rank op ≤ rank a → Ready (rank_of op) s →
    take_token (after (last_unit a) (last_stack a s)) (operator op) ≡ Some (want (left_on op a s))
with-operator op a s fits le h =
    let r = least-rank op in
    let q : reduce (left_rank op) (last_unit a) (last_stack a s) ≡ (a, s) =
    reduce-last a (left_rank op) s fits le ∙ reduce-stops (left_rank op) a s r.1 (ready-more (rank_of op) (left_rank op) s r.0 h) in
    if-false (is_alone op && compares (last_stack a s)) None (Some (with_operator op (reduce (left_rank op) (last_unit a) (last_stack a s)))) (may-stand op a s fits le h)
    ∙ ap (λ x. Some (with_operator op x)) q

closed : (t : Tree) (s : Stack) → Fits t → take_token (after (last_unit t) (last_stack t (open_on s))) close_token ≡ Some (after (group t) s)
closed t s fits = ap (λ (x : Tree × Stack). behind_open x.0 x.1) (reduce-last t 0 (open_on s) fits (omega arith))

-- the tokens of a tree lead to where it is read
pub leads : (t : Tree) (s : Stack) → Fits t → Ready (rank t) s → count_open s + depth t ≤ 16 →
    take_tokens (tokens t) (want s) ≡ Some (after (last_unit t) (last_stack t s))
unfolding take_tokens last_unit last_stack
leads (literal n) s fits h few = refl
leads (field p) s fits h few = refl
leads (negation t) s fits h few =
    ap (option_and_then (take_tokens (tokens t))) (if-true (room s) (Some (want (not_on s))) None (room-there s (omega arith)))
    ∙ leads t (not_on s) fits.1 (omega (arith, fits.0)) (omega arith)
leads (group t) s fits h few =
    ap (option_and_then (take_tokens (tokens t ++ close_token ∷ []))) (if-true (room s) (Some (want (open_on s))) None (room-there s (omega arith)))
    ∙ take-append (tokens t) (close_token ∷ []) (want (open_on s))
    ∙ ap (option_and_then (take_tokens (close_token ∷ []))) (leads t (open_on s) fits tt (omega arith))
    ∙ ap (option_and_then (take_tokens [])) (closed t s fits)
leads (binary op a b) s fits h few =
    let r = least-rank op in
    take-append (tokens a) (operator op ∷ tokens b) (want s)
    ∙ ap (option_and_then (take_tokens (operator op ∷ tokens b))) (leads a s fits.2 (ready-more (rank_of op) (rank a) s (omega (arith, fits.0)) h) (omega arith))
    ∙ ap (option_and_then (take_tokens (tokens b))) (with-operator op a s fits.2 fits.0 h)
    ∙ leads b (left_on op a s) fits.3 fits.1 (omega arith)

pub tree-complete : (t : Tree) → Fits t → tree_at (after (last_unit t) (last_stack t bottom)) ≡ Some t
tree-complete t fits = ap (λ (x : Tree × Stack). finished x.0 x.1) (reduce-last t 0 bottom fits (omega arith))

-- the tokens that led to what stands open, and to a state
abbrev pub stack_tokens : Stack → List Token
stack_tokens bottom = []
stack_tokens (not_on s) = stack_tokens s ++ bang ∷ []
stack_tokens (open_on s) = stack_tokens s ++ open_token ∷ []
stack_tokens (left_on op a s) = stack_tokens s ++ (tokens a ++ operator op ∷ [])

abbrev pub state_tokens : State → List Token
state_tokens (want s) = stack_tokens s
state_tokens (after t s) = stack_tokens s ++ tokens t

-- what stands open was read by the grammar
abbrev pub Sound : Stack → Type 0
Sound bottom = Unit {0}
Sound (not_on s) = Sound s × (count_open s < 16)
Sound (open_on s) = Sound s × (count_open s < 16)
Sound (left_on op a s) = Sound s × Fits a × (left_rank op ≤ rank a) × Ready (rank_of op) s × (count_open s + depth a ≤ 16)

-- a tree may stand over what is open
pub record Stands (t : Tree) (s : Stack) : Type 0 where
  pub sound : Sound s
  pub fits : Fits t
  pub ready : Ready (rank t) s
  pub few : count_open s + depth t ≤ 16

abbrev pub SoundState : State → Type 0
SoundState (want s) = Sound s
SoundState (after t s) = Stands t s × (rank t ≡ 4)

pick : {A : Type 0} (P : A → Type 0) (b : Bool) (x y : A) → (b ≡ true → P x) → (b ≡ false → P y) → P (if b then x else y)
pick P true x y yes_ no_ = yes_ refl
pick P false x y yes_ no_ = no_ refl

true-le : (a b : ℕ) → nat_le a b ≡ true → a ≤ b
true-le a b is = grind (arith, nat_tests)

false-le : (a b : ℕ) → nat_le a b ≡ false → b < a
false-le a b is = grind (arith, nat_tests)

-- what reducing gives, from a tree over a stack
pub record Reduced (least : ℕ) (t : Tree) (s : Stack) (r : Tree × Stack) : Type 0 where
  pub stands : Stands r.0 r.1
  pub stops : Ready least r.1
  pub tight : least ≤ rank r.0
  pub same : stack_tokens r.1 ++ tokens r.0 ≡ stack_tokens s ++ tokens t

reduce-sound : (s : Stack) (least : ℕ) (t : Tree) → Stands t s → least ≤ rank t → Reduced least t s (reduce least t s)
reduce-sound bottom least t h le = record { stands = h; stops = tt; tight = le; same = refl }
reduce-sound (open_on s) least t h le = record { stands = h; stops = tt; tight = le; same = refl }
reduce-sound (not_on s) least t h le =
    let most = rank-most t in
    let ready : 4 ≤ rank t = h.ready in
    let few : count_open s + 1 + depth t ≤ 16 = h.few in
    let h' : Stands (negation t) s = record { sound = h.sound.0; fits = (omega arith, h.fits); ready = ready-unit s; few = omega arith } in
    let r = reduce-sound s least (negation t) h' (omega arith) in
    record { stands = r.stands; stops = r.stops; tight = r.tight; same = r.same ∙ sym (append_assoc (stack_tokens s) (bang ∷ []) (tokens t)) }
reduce-sound (left_on op a s) least t h le =
    let ready : rank_of op < rank t = h.ready in
    let few : count_open s + depth t ≤ 16 = h.few in
    let few-left : count_open s + depth a ≤ 16 = h.sound.4 in
    pick (λ r. Reduced least t (left_on op a s) r) (nat_le least (rank_of op)) (reduce least (binary op a t) s) (t, left_on op a s)
    (λ is.
    let h' : Stands (binary op a t) s = record { sound = h.sound.0; fits = (h.sound.2, ready, h.sound.1, h.fits); ready = h.sound.3; few = omega arith } in
    let r = reduce-sound s least (binary op a t) h' (true-le least (rank_of op) is) in
    record { stands = r.stands; stops = r.stops; tight = r.tight; same = r.same ∙ joined (stack_tokens s) (tokens a) op (tokens t) })
    (λ is. record { stands = h; stops = false-le least (rank_of op) is; tight = le; same = refl })
  where
    joined : (xs ys : List Token) (op : Operator) (zs : List Token) → xs ++ (ys ++ operator op ∷ zs) ≡ (xs ++ (ys ++ operator op ∷ [])) ++ zs
    joined xs ys op zs = sym (append_assoc xs (ys ++ operator op ∷ []) zs ∙ ap (λ (more : List Token). xs ++ more) (append_assoc ys (operator op ∷ []) zs))

-- where a comparison stands open doesn't change as the right operand is reduced
pub compares-reduced : (s : Stack) (t : Tree) → compares (reduce 3 t s).1 ≡ compares s
compares-reduced bottom t = refl
compares-reduced (open_on s) t = refl
compares-reduced (not_on s) t = compares-reduced s (negation t)
compares-reduced (left_on op a s) t = by (nat_le 3 (rank_of op)) refl (λ t. compares-reduced s t)
  where
    by : (b : Bool) → nat_le 3 (rank_of op) ≡ b → ((t : Tree) → compares (reduce 3 t s).1 ≡ compares s) →
        compares (if b then reduce 3 (binary op a t) s else (t, left_on op a s)).1 ≡ (if b then compares s else is_alone op)
    by true is more = more (binary op a t)
    by false is more = if-false (nat_le 3 (rank_of op)) (compares s) (is_alone op) is

alone-free : (s : Stack) → Ready 3 s → compares s ≡ false → Ready 2 s
alone-free bottom h is = tt
alone-free (open_on s) h is = tt
alone-free (not_on s) h is = let none : ⊥ = omega arith in absurd none
alone-free (left_on op a s) h is =
    let e : is_alone op ≡ false = sym (if-false (nat_le 3 (rank_of op)) (compares s) (is_alone op) (le-false 3 (rank_of op) h)) ∙ is in
    grind (arith, nat_tests)

room-few : (s : Stack) → room s ≡ true → count_open s < 16
room-few s is = grind (arith, nat_tests)

-- a state that was led to by tokens
pub record Led (before : List Token) (s : State) : Type 0 where
  pub sound : SoundState s
  pub same : state_tokens s ≡ before

unit-stands : (t : Tree) (s : Stack) → Sound s → Fits t → rank t ≡ 4 → depth t ≡ 0 → count_open s ≤ 16 → Stands t s
unit-stands t s sound fits four flat few =
    record { sound = sound; fits = fits; ready = subst (λ (r : ℕ). Ready r s) (sym four) (ready-unit s); few = omega arith }

few-open : (s : Stack) → Sound s → count_open s ≤ 16
few-open bottom h = omega arith
few-open (not_on s) h = omega (arith, h.1)
few-open (open_on s) h = omega (arith, h.1)
few-open (left_on op a s) h = omega (arith, h.4)

closed-led : (t : Tree) (s : Stack) (before : List Token) (next : State) → Stands t s → stack_tokens s ++ tokens t ≡ before →
    behind_open t s ≡ Some next → Led (before ++ close_token ∷ []) next
closed-led t bottom before next h same is = let none : ⊥ = cc in absurd none
closed-led t (not_on s) before next h same is = let none : ⊥ = cc in absurd none
closed-led t (left_on op a s) before next h same is = let none : ⊥ = cc in absurd none
closed-led t (open_on s) before next h same is =
    let few : count_open s + 1 + depth t ≤ 16 = h.few in
    let here : after (group t) s ≡ next = cc in
    subst (λ (x : State). Led (before ++ close_token ∷ []) x) here
    (record {
      sound = (record { sound = h.sound.0; fits = h.fits; ready = ready-unit s; few = omega arith }, refl);
      same = wrapped (stack_tokens s) (tokens t) ∙ ap (λ (ts : List Token). ts ++ close_token ∷ []) same;
    })
  where
    wrapped : (xs ys : List Token) → xs ++ (open_token ∷ (ys ++ close_token ∷ [])) ≡ ((xs ++ open_token ∷ []) ++ ys) ++ close_token ∷ []
    wrapped xs ys = sym (append_assoc (xs ++ open_token ∷ []) ys (close_token ∷ []) ∙ append_assoc xs (open_token ∷ []) (ys ++ close_token ∷ []))

-- what may stand left of an operator stands over what is left open
left-ready : (op : Operator) (t : Tree) (s : Stack) → (is_alone op && compares s) ≡ false → Ready (left_rank op) (reduce (left_rank op) t s).1 → Ready (rank_of op) (reduce (left_rank op) t s).1
unfolding Ranks
left-ready op t s free h = elim ((ranks op).2) [ inl r ↦ subst (λ (n : ℕ). Ready n (reduce (left_rank op) t s).1) r.1 h | inr r ↦ alone r.0 r.1 r.2 ]
  where
    alone : is_alone op ≡ true → rank_of op ≡ 2 → left_rank op ≡ 3 → Ready (rank_of op) (reduce (left_rank op) t s).1
    alone is two three =
        let nothing : compares s ≡ false = sym (ap (λ (b : Bool). b && compares s) is) ∙ free in
        let at-three : Ready 3 (reduce 3 t s).1 = subst (λ (n : ℕ). Ready n (reduce n t s).1) three h in
        let at-two : Ready 2 (reduce 3 t s).1 = alone-free (reduce 3 t s).1 at-three (compares-reduced s t ∙ nothing) in
        subst (λ (n : ℕ). Ready n (reduce (left_rank op) t s).1) (sym two) (subst (λ (n : ℕ). Ready 2 (reduce n t s).1) (sym three) at-two)

operator-led : (op : Operator) (t : Tree) (s : Stack) → SoundState (after t s) → (is_alone op && compares s) ≡ false →
    Led ((stack_tokens s ++ tokens t) ++ operator op ∷ []) (with_operator op (reduce (left_rank op) t s))
operator-led op t s h free =
    let least = least-rank op in
    let r = reduce-sound s (left_rank op) t h.0 (omega (arith, h.1)) in
    record {
      sound = (r.stands.sound, r.stands.fits, r.tight, left-ready op t s free r.stops, r.stands.few);
      same = sym (append_assoc (stack_tokens (reduce (left_rank op) t s).1) (tokens (reduce (left_rank op) t s).0) (operator op ∷ [])) ∙ ap (λ (ts : List Token). ts ++ operator op ∷ []) r.same;
    }

take-led : (s : State) (token : Token) (next : State) → SoundState s → IsGoodToken token → take_token s token ≡ Some next → Led (state_tokens s ++ token ∷ []) next
take-led (want s) bang next h good is =
    let e = given-some (room s) (want (not_on s)) next is in
    subst (λ (x : State). Led (stack_tokens s ++ bang ∷ []) x) e.1 (record { sound = (h, room-few s e.0); same = refl })
take-led (want s) open_token next h good is =
    let e = given-some (room s) (want (open_on s)) next is in
    subst (λ (x : State). Led (stack_tokens s ++ open_token ∷ []) x) e.1 (record { sound = (h, room-few s e.0); same = refl })
take-led (want s) (number n) next h good is =
    let e : after (literal n) s ≡ next = cc in
    subst (λ (x : State). Led (stack_tokens s ++ number n ∷ []) x) e (record { sound = (unit-stands (literal n) s h tt refl refl (few-open s h), refl); same = refl })
take-led (want s) (path p) next h good is =
    let e : after (field p) s ≡ next = cc in
    subst (λ (x : State). Led (stack_tokens s ++ path p ∷ []) x) e (record { sound = (unit-stands (field p) s h good refl refl (few-open s h), refl); same = refl })
take-led (want s) close_token next h good is = let none : ⊥ = cc in absurd none
take-led (want s) (operator op) next h good is = let none : ⊥ = cc in absurd none
take-led (after t s) bang next h good is = let none : ⊥ = cc in absurd none
take-led (after t s) open_token next h good is = let none : ⊥ = cc in absurd none
take-led (after t s) (number n) next h good is = let none : ⊥ = cc in absurd none
take-led (after t s) (path p) next h good is = let none : ⊥ = cc in absurd none
take-led (after t s) close_token next h good is =
    let r = reduce-sound s 0 t h.0 (omega arith) in
    closed-led (reduce 0 t s).0 (reduce 0 t s).1 (stack_tokens s ++ tokens t) next r.stands r.same is
take-led (after t s) (operator op) next h good is =
    let e = denied-some (is_alone op && compares s) (with_operator op (reduce (left_rank op) t s)) next is in
    subst (λ (x : State). Led ((stack_tokens s ++ tokens t) ++ operator op ∷ []) x) e.1 (operator-led op t s h e.0)

-- the tokens of what is read are the tokens before it and these
pub led : (ts : List Token) (before : List Token) (s last : State) → Led before s → ArePaths ts → take_tokens ts s ≡ Some last → Led (before ++ ts) last
unfolding take_tokens
led [] before s last h good is =
    let e : s ≡ last = cc in
    subst (λ (x : State). Led (before ++ []) x) e (record { sound = h.sound; same = h.same ∙ sym (append-nil before) })
led (t ∷ ts) before s last h good is =
    on (take_token s t) refl is (λ next there. led ts (before ++ t ∷ []) next last (moved next there) good.1)
  where
    moved : (next : State) → take_token s t ≡ Some next → Led (before ++ t ∷ []) next
    moved next there =
        let r = take-led s t next h.sound good.0 there in
        record { sound = r.sound; same = r.same ∙ ap (λ (us : List Token). us ++ t ∷ []) h.same }

    on : (o : Option State) → take_token s t ≡ o → option_and_then (take_tokens ts) o ≡ Some last →
        ((next : State) → take_token s t ≡ Some next → take_tokens ts next ≡ Some last → Led ((before ++ t ∷ []) ++ ts) last) → Led (before ++ t ∷ ts) last
    on None there is more = let none : ⊥ = cc in absurd none
    on (Some next) there is more = subst (λ (us : List Token). Led us last) (append_assoc before (t ∷ []) ts) (more next there is)

ended : (t u : Tree) (s : Stack) → finished u s ≡ Some t → (s ≡ bottom) × (u ≡ t)
ended t u bottom is = (refl, cc)
ended t u (not_on s) is = let none : ⊥ = cc in absurd none
ended t u (open_on s) is = let none : ⊥ = cc in absurd none
ended t u (left_on op a s) is = let none : ⊥ = cc in absurd none

pub tree-sound : (s : State) (t : Tree) (ts : List Token) → Led ts s → tree_at s ≡ Some t → Fits t × (depth t ≤ 16) × (tokens t ≡ ts)
tree-sound (want s) t ts h is = let none : ⊥ = cc in absurd none
tree-sound (after u s) t ts h is =
    let r = reduce-sound s 0 u h.sound.0 (omega arith) in
    let e = ended t (reduce 0 u s).0 (reduce 0 u s).1 is in
    let few : count_open (reduce 0 u s).1 + depth (reduce 0 u s).0 ≤ 16 = r.stands.few in
    let same : stack_tokens (reduce 0 u s).1 ++ tokens (reduce 0 u s).0 ≡ ts = r.same ∙ h.same in
    let none-open : stack_tokens (reduce 0 u s).1 ≡ [] = ap (λ (x : Stack). stack_tokens x) e.0 in
    subst (λ (x : Tree). Fits x × (depth x ≤ 16) × (tokens x ≡ ts)) e.1
    (r.stands.fits, omega arith, sym (ap (λ (us : List Token). us ++ tokens (reduce 0 u s).0) none-open) ∙ same)

pub tokens-read : TokensAreRead
tokens-read t fits few =
    ap (option_and_then tree_at) (leads t bottom fits (ready-bottom (rank t)) (omega arith)) ∙ tree-complete t fits
  where
    ready-bottom : (r : ℕ) → Ready r bottom
    ready-bottom r = tt

pub read-tokens : ReadTokens
read-tokens ts t good is = on (take_tokens ts (want bottom)) refl is
  where
    on : (o : Option State) → take_tokens ts (want bottom) ≡ o → option_and_then tree_at o ≡ Some t → Fits t × (depth t ≤ 16) × (tokens t ≡ ts)
    on None there is = let none : ⊥ = cc in absurd none
    on (Some s) there is = tree-sound s t ts (led ts [] (want bottom) s (record { sound = tt; same = refl }) good there) is
