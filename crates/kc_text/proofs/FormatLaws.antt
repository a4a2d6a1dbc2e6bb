-- The laws of the compositions: what holds of the parts holds of the whole.
use Rattle.std.proofs.Common.{◌≡◌, ℕ, ◌<◌, ◌≤◌, ◌⊎◌, List, [], ◌∷◌, ◌++◌, length, Result, Ok, Err, refl, sym, ap, ◌∙◌, subst, inl, inr, arith, append_assoc}
use Rattle.std.proofs.lemmas.List.{append-nil, length-append}
use Rattle.std.proofs.lemmas.Bool.{cases_lt}
use Rattle.std.proofs.lemmas.Bool.Decides.{nat_tests}
use Rattle.kc_text.specs.Format.{Format, Anything, NoMore, Stops, IsRead, IsFormat}
use Rattle.kc_text.specs.Reading.{and_then, shorter, or_else}
use Rattle.kc_text.specs.Compose.{both, mapped, nothing, either}

-- an answer tells its parts
pub ok_is : {A E : Type 0} (a b : A) → ◌≡◌ {A = Result A E} (Ok a) (Ok b) → a ≡ b
ok_is a b is = cc

pub err_is : {A E : Type 0} (d e : E) → ◌≡◌ {A = Result A E} (Err d) (Err e) → d ≡ e
err_is d e is = cc

pub ok_not_err : {A E : Type 0} (a : A) (e : E) → ◌≡◌ {A = Result A E} (Ok a) (Err e) → ⊥
ok_not_err a e is = cc

-- Where reading stops at a byte whatever stands after it, no text goes on with that byte.
pub none_more : {X : Type 0} (After : List ℕ → Type 0) (f : Format X) (front cs : List ℕ) (c : ℕ)
    → ((x : X) (rest : List ℕ) → f.Good x → After rest → f.read (f.spell x ++ rest) ≡ Ok (x, rest))
    → ((tail : List ℕ) → f.read (front ++ c ∷ tail) ≡ Err (c ∷ tail))
    → NoMore After f front (c ∷ cs)
none_more After f front cs c again halts x tail more good after is =
    let stopped = halts tail in
    let read = again x more good after in
    let same : f.read (front ++ c ∷ tail) ≡ f.read (f.spell x ++ more) = ap f.read is in
    cc

-- of two cuts of the same bytes, the one with the shorter rest is the later one
pub cut : (front other rest more : List ℕ) → length rest ≤ length more → front ++ rest ≡ other ++ more → (piece : List ℕ) × (front ≡ other ++ piece) × (more ≡ piece ++ rest)
cut [] [] rest more near is = ([], refl, sym is)
cut [] (y ∷ ys) rest more near is = absurd (let long = ap length is in omega (arith, length-append ys more))
cut (x ∷ xs) [] rest more near is = (x ∷ xs, refl, sym is)
cut (x ∷ xs) (y ∷ ys) rest more near is =
    let head : x ≡ y = cc in
    let tail : xs ++ rest ≡ ys ++ more = cc in
    let c = cut xs ys rest more near tail in
    (c.0, (let both : x ∷ xs ≡ y ∷ (ys ++ c.0) = cc (head, c.1) in both), c.2)

-- what can't go on at a byte can't go on there any further
pub none_further : {X : Type 0} (After : List ℕ → Type 0) (f : Format X) (front later rest more piece : List ℕ) → later ≡ front ++ piece → rest ≡ piece ++ more
    → NoMore After f front rest → NoMore After f later more
none_further After f front later rest more [] fronts rests none =
    let same : later ≡ front = fronts ∙ append-nil front in
    let P : List ℕ × List ℕ → Type 0 = λ q. NoMore After f q.0 q.1 in
    subst P (let pair : (front, rest) ≡ (later, more) = cc in pair) none
none_further After f front later rest [] (p ∷ ps) fronts rests none = tt
none_further After f front later rest (c ∷ cs) (p ∷ ps) fronts rests none = λ x tail more good after is.
    let NoneAt : List ℕ → Type 0 = λ l. NoMore After f front l in
    let there = subst NoneAt rests none in
    there x (ps ++ c ∷ tail) more good after (sym (append_assoc front (p ∷ ps) (c ∷ tail)) ∙ ap (λ l. l ++ c ∷ tail) (sym fronts) ∙ is)

pub shorter_first : (rest other : List ℕ) → length rest ≤ length other → shorter rest other ≡ rest
shorter_first rest other near = grind (arith, nat_tests)

pub shorter_other : (rest other : List ℕ) → length other < length rest → shorter rest other ≡ other
shorter_other rest other near = grind (arith, nat_tests)

-- One text after another, where the first shows its own end or the second's first byte shows it.
module _ {X Y : Type 0} (Between After : List ℕ → Type 0) (f : Format X) (g : X → Format Y) (F : IsRead Between f) (G : (x : X) → f.Good x → IsRead After (g x))
    (opens : (x : X) (y : Y) (more : List ℕ) → f.Good x → (g x).Good y → After more → Between ((g x).spell y ++ more))
    (by-first : (c : ℕ) (cs ds : List ℕ) → Between (c ∷ cs) → Between (c ∷ ds)) where
  both-again : (p : X × Y) (rest : List ℕ) → (both f g).Good p → After rest → (both f g).read ((both f g).spell p ++ rest) ≡ Ok (p, rest)
  both-again p rest good after =
      let first = F.again p.0 ((g p.0).spell p.1 ++ rest) good.0 (opens p.0 p.1 rest good.0 good.1 after) in
      let second = (G p.0 good.0).again p.1 rest good.1 after in
      rw (append_assoc, first, second)

  abbrev BothTakes : List ℕ → (X × Y) × List ℕ → Type 0
  BothTakes bytes q = (both f g).Good q.0 × After q.1 × (bytes ≡ (both f g).spell q.0 ++ q.1)

  second-takes : (bytes mid : List ℕ) (x : X) (q : (X × Y) × List ℕ) (s : Result (Y × List ℕ) (List ℕ)) → f.read bytes ≡ Ok (x, mid) → (g x).read mid ≡ s
      → and_then {E = List ℕ} s (λ s. Ok ((x, s.0), s.1)) ≡ Ok q → BothTakes bytes q
  second-takes bytes mid x q (Err e) at then is = absurd (let none : ⊥ = cc in none)
  second-takes bytes mid x q (Ok t) at then is =
      let first = F.takes bytes mid x at in
      let second = (G x first.0).takes mid t.1 t.0 then in
      let whole : bytes ≡ (f.spell x ++ (g x).spell t.0) ++ t.1 = rw append_assoc (first.2 ∙ ap (λ l. f.spell x ++ l) second.2) in
      subst (BothTakes bytes) (ok_is ((x, t.0), t.1) q is) ((first.0, second.0), second.1, whole)

  first-takes : (bytes : List ℕ) (q : (X × Y) × List ℕ) (r : Result (X × List ℕ) (List ℕ)) → f.read bytes ≡ r
      → and_then r (λ r. and_then ((g r.0).read r.1) (λ s. Ok ((r.0, s.0), s.1))) ≡ Ok q → BothTakes bytes q
  first-takes bytes q (Err e) at is = absurd (let none : ⊥ = cc in none)
  first-takes bytes q (Ok t) at is = second-takes bytes t.1 t.0 q ((g t.0).read t.1) at refl is

  first-none : (front rest : List ℕ) → NoMore Between f front rest → NoMore After (both f g) front rest
  first-none front [] none = tt
  first-none front (c ∷ cs) none = λ p tail more good after is. none p.0 tail ((g p.0).spell p.1 ++ more) good.0 (opens p.0 p.1 more good.0 good.1 after) (is ∙ append_assoc (f.spell p.0) ((g p.0).spell p.1) more)

  -- the second's value, where the first's text stands before it
  second-is : (x : X) (rest : List ℕ) (p : X × Y) (more : List ℕ) → f.Good x → Between rest → (both f g).Good p → After more → f.spell x ++ rest ≡ (both f g).spell p ++ more
      → (x ≡ p.0) × (rest ≡ (g p.0).spell p.1 ++ more)
  second-is x rest p more good between goods after is =
      let one = F.again x rest good between in
      let other = F.again p.0 ((g p.0).spell p.1 ++ more) goods.0 (opens p.0 p.1 more goods.0 goods.1 after) in
      let same : f.read (f.spell x ++ rest) ≡ f.read (f.spell p.0 ++ ((g p.0).spell p.1 ++ more)) = ap f.read (is ∙ append_assoc (f.spell p.0) ((g p.0).spell p.1) more) in
      let pair = ok_is (x, rest) (p.0, (g p.0).spell p.1 ++ more) (sym one ∙ same ∙ other) in
      (ap (λ (q : X × List ℕ). q.0) pair, ap (λ (q : X × List ℕ). q.1) pair)

  -- what may stand there shows in its first byte
  by-front : (front cs ds : List ℕ) (c : ℕ) → Between (front ++ c ∷ cs) → Between (front ++ c ∷ ds)
  by-front [] cs ds c between = by-first c cs ds between
  by-front (d ∷ front) cs ds c between = by-first d (front ++ c ∷ cs) (front ++ c ∷ ds) between

  second-none : (x : X) (front rest : List ℕ) → f.Good x → Between (front ++ rest) → NoMore After (g x) front rest → NoMore After (both f g) (f.spell x ++ front) rest
  second-none x front [] good between none = tt
  second-none x front (c ∷ cs) good between none = λ p tail more goods after is.
      let parts = second-is x (front ++ c ∷ tail) p more good (by-front front cs tail c between) goods after (sym (append_assoc (f.spell x) front (c ∷ tail)) ∙ is) in
      let NoneAt : X → Type 0 = λ y. (g y).Good p.1 → front ++ c ∷ tail ≡ (g y).spell p.1 ++ more → ⊥ in
      subst NoneAt parts.0 (λ fits. none p.1 tail more fits after) goods.1 parts.1

  -- each first value has a second
  module _ (some : (x : X) → f.Good x → (y : Y) × (g x).Good y) where
    first-stops : (bytes rest : List ℕ) → f.read bytes ≡ Err rest → Stops After (both f g) bytes rest
    first-stops bytes rest at =
        let s = F.stops bytes rest at in
        let next = some s.begins.0 s.begins.2 in
        record {
          front = s.front;
          parts = s.parts;
          begins = ((s.begins.0, next.0), s.begins.1 ++ (g s.begins.0).spell next.0, (s.begins.2, next.1), sym (append_assoc s.front s.begins.1 ((g s.begins.0).spell next.0)) ∙ ap (λ l. l ++ (g s.begins.0).spell next.0) s.begins.3);
          none = first-none s.front rest s.none;
        }

    second-stops : (bytes mid rest : List ℕ) (x : X) → f.read bytes ≡ Ok (x, mid) → (g x).read mid ≡ Err rest → Stops After (both f g) bytes rest
    second-stops bytes mid rest x at then =
        let first = F.takes bytes mid x at in
        let s = (G x first.0).stops mid rest then in
        record {
          front = f.spell x ++ s.front;
          parts = rw append_assoc (first.2 ∙ ap (λ l. f.spell x ++ l) s.parts);
          begins = ((x, s.begins.0), s.begins.1, (first.0, s.begins.2), append_assoc (f.spell x) s.front s.begins.1 ∙ ap (λ l. f.spell x ++ l) s.begins.3);
          none = second-none x s.front rest first.0 (subst Between s.parts first.1) s.none;
        }

    second-stops-at : (bytes mid rest : List ℕ) (x : X) (s : Result (Y × List ℕ) (List ℕ)) → f.read bytes ≡ Ok (x, mid) → (g x).read mid ≡ s
        → and_then {B = (X × Y) × List ℕ} s (λ s. Ok ((x, s.0), s.1)) ≡ Err rest → Stops After (both f g) bytes rest
    second-stops-at bytes mid rest x (Err e) at then is = second-stops bytes mid rest x at (then ∙ ap (λ l. Err l) (err_is e rest is))
    second-stops-at bytes mid rest x (Ok t) at then is = absurd (let none : ⊥ = cc in none)

    first-stops-at : (bytes rest : List ℕ) (r : Result (X × List ℕ) (List ℕ)) → f.read bytes ≡ r
        → and_then {B = (X × Y) × List ℕ} r (λ r. and_then ((g r.0).read r.1) (λ s. Ok ((r.0, s.0), s.1))) ≡ Err rest → Stops After (both f g) bytes rest
    first-stops-at bytes rest (Err e) at is = first-stops bytes rest (at ∙ ap (λ l. Err l) (err_is e rest is))
    first-stops-at bytes rest (Ok t) at is = second-stops-at bytes t.1 rest t.0 ((g t.0).read t.1) at refl is

    pub joined-law : IsRead After (both f g)
    joined-law = record {
      again = both-again;
      takes = λ bytes rest x is. first-takes bytes (x, rest) (f.read bytes) refl is;
      stops = λ bytes rest is. first-stops-at bytes rest (f.read bytes) refl is;
    }

-- one text after another, where the first shows its own end
pub both-law : {X Y : Type 0} (After : List ℕ → Type 0) (f : Format X) (g : X → Format Y) → IsFormat f → ((x : X) → f.Good x → IsRead After (g x))
    → ((x : X) → f.Good x → (y : Y) × (g x).Good y) → IsRead After (both f g)
both-law After f g F G some = joined-law Anything After f g F G (λ x y more good fits after. tt) (λ c cs ds between. tt) some

-- the same texts for other values
module _ {X Y : Type 0} (to : X → Y) (Good : Y → Type 0) (spell : Y → List ℕ) (After : List ℕ → Type 0) (f : Format X) (F : IsRead After f)
    (good : (x : X) → f.Good x → Good (to x) × (spell (to x) ≡ f.spell x)) (back : (y : Y) → Good y → (x : X) × f.Good x × (to x ≡ y)) where
  -- the text of a value is that of the one it comes from
  mapped-text : (y : Y) (is : Good y) → spell y ≡ f.spell (back y is).0
  mapped-text y is =
      let b = back y is in
      sym (ap spell b.2) ∙ (good b.0 b.1).1

  mapped-again : (y : Y) (rest : List ℕ) → Good y → After rest → and_then {B = Y × List ℕ} (f.read (spell y ++ rest)) (λ r. Ok (to r.0, r.1)) ≡ Ok (y, rest)
  mapped-again y rest is after =
      let b = back y is in
      let text = mapped-text y is in
      let read = F.again b.0 rest b.1 after in
      rw (text, read) (ap (λ z. Ok (z, rest)) b.2)

  MappedTakes : List ℕ → Y × List ℕ → Type 0
  MappedTakes bytes q = Good q.0 × After q.1 × (bytes ≡ spell q.0 ++ q.1)

  mapped-takes : (bytes : List ℕ) (q : Y × List ℕ) (r : Result (X × List ℕ) (List ℕ)) → f.read bytes ≡ r
      → and_then {B = Y × List ℕ} r (λ r. Ok (to r.0, r.1)) ≡ Ok q → MappedTakes bytes q
  unfolding MappedTakes
  mapped-takes bytes q (Err e) at is = absurd (let none : ⊥ = cc in none)
  mapped-takes bytes q (Ok t) at is =
      let first = F.takes bytes t.1 t.0 at in
      let fits = good t.0 first.0 in
      subst (MappedTakes bytes) (ok_is (to t.0, t.1) q is) (fits.0, first.1, first.2 ∙ ap (λ l. l ++ t.1) (sym fits.1))

  mapped-none : (front rest : List ℕ) → NoMore After f front rest → NoMore After (mapped to Good spell f) front rest
  mapped-none front [] none = tt
  mapped-none front (c ∷ cs) none = λ y tail more is after text.
      let b = back y is in
      none b.0 tail more b.1 after (text ∙ ap (λ l. l ++ more) (mapped-text y is))

  mapped-stops : (bytes rest : List ℕ) (r : Result (X × List ℕ) (List ℕ)) → f.read bytes ≡ r
      → and_then {B = Y × List ℕ} r (λ r. Ok (to r.0, r.1)) ≡ Err rest → Stops After (mapped to Good spell f) bytes rest
  mapped-stops bytes rest (Ok t) at is = absurd (let none : ⊥ = cc in none)
  mapped-stops bytes rest (Err e) at is =
      let s = F.stops bytes rest (at ∙ ap (λ l. Err l) (err_is e rest is)) in
      let fits = good s.begins.0 s.begins.2 in
      record {
        front = s.front;
        parts = s.parts;
        begins = (to s.begins.0, s.begins.1, fits.0, s.begins.3 ∙ sym fits.1);
        none = mapped-none s.front rest s.none;
      }

  pub mapped-law : IsRead After (mapped to Good spell f)
  unfolding MappedTakes
  mapped-law = record {
    again = mapped-again;
    takes = λ bytes rest y is. mapped-takes bytes (y, rest) (f.read bytes) refl is;
    stops = λ bytes rest is. mapped-stops bytes rest (f.read bytes) refl is;
  }

pub nothing-law : {X : Type 0} (x : X) → IsFormat (nothing x)
nothing-law {X} x = record {
  again = λ y rest good after. ap (λ (z : X). Ok (z, rest)) good;
  takes = λ bytes rest y is.
      let pair = ok_is (x, bytes) (y, rest) is in
      (ap (λ (q : X × List ℕ). q.0) pair, tt, ap (λ (q : X × List ℕ). q.1) pair);
  stops = λ bytes rest is. absurd (ok_not_err (x, bytes) rest is);
}

-- either a text of the one or a text of the other
module _ {X Y : Type 0} (After : List ℕ → Type 0) (f : Format X) (g : Format Y) (F : IsRead After f) (G : IsRead After g)
    (apart : (x : X) (more : List ℕ) → f.Good x → (t : Y × List ℕ) → g.read (f.spell x ++ more) ≡ Ok t → ⊥) where
  one : X × List ℕ → Result ((X ⊎ Y) × List ℕ) (List ℕ)
  one r = Ok (inl r.0, r.1)

  other : Y × List ℕ → Result ((X ⊎ Y) × List ℕ) (List ℕ)
  other r = Ok (inr r.0, r.1)

  -- a text of the second isn't read by the first
  apart-too : (y : Y) (more : List ℕ) (r : Result (X × List ℕ) (List ℕ)) → g.Good y → After more → f.read (g.spell y ++ more) ≡ r → (rest : List ℕ) × (r ≡ Err rest)
  apart-too y more (Err rest) good after at = (rest, refl)
  apart-too y more (Ok t) good after at =
      let first = F.takes (g.spell y ++ more) t.1 t.0 at in
      let read = G.again y more good after in
      absurd (apart t.0 t.1 first.0 (y, more) (ap g.read (sym first.2) ∙ read))

  either-again : (z : X ⊎ Y) (rest : List ℕ) → (either f g).Good z → After rest → (either f g).read ((either f g).spell z ++ rest) ≡ Ok (z, rest)
  either-again (inl x) rest good after = rw (F.again x rest good after) refl
  either-again (inr y) rest good after =
      let a = apart-too y rest (f.read (g.spell y ++ rest)) good after refl in
      rw (a.1, G.again y rest good after) refl

  EitherTakes : List ℕ → (X ⊎ Y) × List ℕ → Type 0
  EitherTakes bytes q = (either f g).Good q.0 × After q.1 × (bytes ≡ (either f g).spell q.0 ++ q.1)

  either-takes : (bytes : List ℕ) (q : (X ⊎ Y) × List ℕ) (r : Result (X × List ℕ) (List ℕ)) (s : Result (Y × List ℕ) (List ℕ)) → f.read bytes ≡ r → g.read bytes ≡ s
      → or_else (and_then r one) (and_then s other) ≡ Ok q → EitherTakes bytes q
  unfolding EitherTakes one other
  either-takes bytes q (Ok t) s at then is =
      let first = F.takes bytes t.1 t.0 at in
      subst (EitherTakes bytes) (ok_is (inl t.0, t.1) q is) first
  either-takes bytes q (Err d) (Ok t) at then is =
      let second = G.takes bytes t.1 t.0 then in
      subst (EitherTakes bytes) (ok_is (inr t.0, t.1) q is) second
  either-takes bytes q (Err d) (Err e) at then is = absurd (let none : ⊥ = cc in none)

  either-none-one : (front rest : List ℕ) → NoMore After f front rest → NoMore After g front rest → NoMore After (either f g) front rest
  either-none-one front [] first second = tt
  either-none-one front (c ∷ cs) first second = λ z tail more.
      elim z as (λ z. (either f g).Good z → After more → front ++ c ∷ tail ≡ (either f g).spell z ++ more → ⊥) [ inl x ↦ first x tail more | inr y ↦ second y tail more ]

  either-stops-one : (bytes d e : List ℕ) → length d ≤ length e → Stops After f bytes d → Stops After g bytes e → Stops After (either f g) bytes d
  either-stops-one bytes d e near s t =
      let c = cut s.front t.front d e near (sym s.parts ∙ t.parts) in
      record {
        front = s.front;
        parts = s.parts;
        begins = (inl s.begins.0, s.begins.1, s.begins.2, s.begins.3);
        none = either-none-one s.front d s.none (none_further After g t.front s.front e d c.0 c.1 c.2 t.none);
      }

  either-stops-other : (bytes d e : List ℕ) → length e ≤ length d → Stops After f bytes d → Stops After g bytes e → Stops After (either f g) bytes e
  either-stops-other bytes d e near s t =
      let c = cut t.front s.front e d near (sym t.parts ∙ s.parts) in
      record {
        front = t.front;
        parts = t.parts;
        begins = (inr t.begins.0, t.begins.1, t.begins.2, t.begins.3);
        none = either-none-one t.front e (none_further After f s.front t.front d e c.0 c.1 c.2 s.none) t.none;
      }

  either-stops-both : (bytes d e rest : List ℕ) → shorter d e ≡ rest → Stops After f bytes d → Stops After g bytes e → Stops After (either f g) bytes rest
  either-stops-both bytes d e rest is s t =
      let StopsAt : List ℕ → Type 0 = λ l. Stops After (either f g) bytes l in
      subst StopsAt is (
      elim (cases_lt (length e) (length d)) [
        | inl h ↦ subst StopsAt (sym (shorter_other d e h)) (either-stops-other bytes d e (omega arith) s t)
        | inr h ↦ subst StopsAt (sym (shorter_first d e h)) (either-stops-one bytes d e h s t)
      ])

  either-stops-at : (bytes rest : List ℕ) (r : Result (X × List ℕ) (List ℕ)) (s : Result (Y × List ℕ) (List ℕ)) → f.read bytes ≡ r → g.read bytes ≡ s
      → or_else (and_then r one) (and_then s other) ≡ Err rest → Stops After (either f g) bytes rest
  unfolding one other
  either-stops-at bytes rest (Ok t) s at then is = absurd (let none : ⊥ = cc in none)
  either-stops-at bytes rest (Err d) (Ok t) at then is = absurd (let none : ⊥ = cc in none)
  either-stops-at bytes rest (Err d) (Err e) at then is = either-stops-both bytes d e rest (err_is (shorter d e) rest is) (F.stops bytes d at) (G.stops bytes e then)

  pub either-law : IsRead After (either f g)
  unfolding EitherTakes one other
  either-law = record {
    again = either-again;
    takes = λ bytes rest z is. either-takes bytes (z, rest) (f.read bytes) (g.read bytes) refl refl is;
    stops = λ bytes rest is. either-stops-at bytes rest (f.read bytes) (g.read bytes) refl refl is;
  }
