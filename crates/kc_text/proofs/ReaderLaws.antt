-- The laws of the formats that others are composed of.
use Rattle.std.proofs.Common.{◌≡◌, ℕ, zero, suc, ◌+◌, ◌-◌, ◌*◌, ◌/◌, ◌%◌, ◌^◌, ◌<◌, ◌≤◌, true, false, ◌&&◌, eqb, leb, ltb, if◌then◌else◌, List, [], ◌∷◌, ◌++◌, length, Result, Ok, Err, decimal, refl, sym, ap, ◌∙◌, subst, arith, lit≤, append_assoc}
use Rattle.std.proofs.Math.Nat.{div-add-mod, mul_assoc}
use Rattle.std.proofs.lemmas.List.{append-nil}
use Rattle.std.proofs.lemmas.Fmt.{decimal_digit, decimal_step, decimal_by_steps}
use Rattle.std.proofs.lemmas.Bool.{cond_both, eqb-true, eqb-false, eq-eqb, false_from_ne_true, true≢false, and_parts, and_from, lt-ltb, ltb-true}
use Rattle.std.proofs.lemmas.Bool.Decides.{nat_tests}
use Rattle.kc_word.specs.Hex.{hex_digit, hex_digits}
use Rattle.kc_text.specs.Format.{Format, Anything, Begins, NoMore, Stops, IsFormat}
use Rattle.kc_text.specs.Reading.{and_then}
use Rattle.kc_text.specs.Readers.{read_literal, literal, is_name_byte, has_name_bytes, is_name, read_name, read_name_first, name_and, is_digit, read_digits, read_decimal, decimal_and, decimal_below, is_lower_hex, lower_value, read_hex_digits, hex16, read_digit, digit_from}
use Rattle.kc_text.proofs.FormatLaws.{ok_is, err_is, ok_not_err, none_more}

-- what a reader of bytes answers
abbrev Reads : Type 0 → Type 0
Reads V = List ℕ → Result (V × List ℕ) (List ℕ)

-- reading stops at the first of these bytes, whatever stands after it
abbrev Halts : {V : Type 0} → Reads V → List ℕ → List ℕ → Type 0
Halts read front [] = Unit {0}
Halts read front (c ∷ cs) = (tail : List ℕ) → read (front ++ c ∷ tail) ≡ Err (c ∷ tail)

-- reading stopped where `rest` begins, and this is known of what stands before
record Halt {V : Type 0} (read : Reads V) (Front : List ℕ → Type 0) (bytes rest : List ℕ) : Type 0 where
  front : List ℕ
  parts : bytes ≡ front ++ rest
  known : Front front
  halts : Halts read front rest

halt_end : {V : Type 0} (read : Reads V) (Front : List ℕ → Type 0) (rest : List ℕ) → Front [] → [] ≡ rest → Halt read Front [] rest
halt_end read Front [] known is = record { front = []; parts = refl; known = known; halts = tt }
halt_end read Front (c ∷ cs) known is = absurd (let none : ⊥ = cc in none)

halt_here : {V : Type 0} (read : Reads V) (Front : List ℕ → Type 0) (c : ℕ) (cs rest : List ℕ) → Front [] → ((tail : List ℕ) → read (c ∷ tail) ≡ Err (c ∷ tail))
    → c ∷ cs ≡ rest → Halt read Front (c ∷ cs) rest
halt_here read Front c cs rest known halts is =
    subst (Halt read Front (c ∷ cs)) is (record { front = []; parts = refl; known = known; halts = halts })

halts_cons : {V W : Type 0} (read : Reads V) (next : Reads W) (c : ℕ) (front rest : List ℕ)
    → ((tail e : List ℕ) → next tail ≡ Err e → read (c ∷ tail) ≡ Err e) → Halts next front rest → Halts read (c ∷ front) rest
halts_cons read next c front [] goes halts = tt
halts_cons read next c front (d ∷ ds) goes halts = λ tail. goes (front ++ d ∷ tail) (d ∷ tail) (halts tail)

-- a byte more before it
halt_cons : {V W : Type 0} (read : Reads V) (next : Reads W) (Front After : List ℕ → Type 0) (c : ℕ) (cs rest : List ℕ)
    → ((tail e : List ℕ) → next tail ≡ Err e → read (c ∷ tail) ≡ Err e) → ((front : List ℕ) → After front → Front (c ∷ front))
    → Halt next After cs rest → Halt read Front (c ∷ cs) rest
halt_cons read next Front After c cs rest goes more h = record {
  front = c ∷ h.front;
  parts = ap (λ l. c ∷ l) h.parts;
  known = more h.front h.known;
  halts = halts_cons read next c h.front rest goes h.halts;
}

halts_none : {X : Type 0} (f : Format X) (front rest : List ℕ) → ((x : X) (rest : List ℕ) → f.Good x → f.read (f.spell x ++ rest) ≡ Ok (x, rest))
    → Halts f.read front rest → NoMore Anything f front rest
halts_none f front [] again halts = tt
halts_none f front (c ∷ cs) again halts = none_more Anything f front cs c (λ x rest good after. again x rest good) halts

stops_by : {X : Type 0} (f : Format X) (bytes rest : List ℕ) → ((x : X) (rest : List ℕ) → f.Good x → f.read (f.spell x ++ rest) ≡ Ok (x, rest))
    → Halt f.read (Begins f) bytes rest → Stops Anything f bytes rest
stops_by f bytes rest again h = record { front = h.front; parts = h.parts; begins = h.known; none = halts_none f h.front rest again h.halts }

-- a literal
pub literal-again : (text rest : List ℕ) → read_literal text (text ++ rest) ≡ Ok (tt, rest)
literal-again [] rest = refl
literal-again (x ∷ xs) rest = let same : eqb x x ≡ true = grind (arith, nat_tests) in rw same (literal-again xs rest)

pub literal-takes : (text bytes rest : List ℕ) (u : Unit {0}) → read_literal text bytes ≡ Ok (u, rest) → bytes ≡ text ++ rest
literal-takes [] bytes rest u is = ap (λ (q : Unit {0} × List ℕ). q.1) (ok_is (tt, bytes) (u, rest) is)
literal-takes (x ∷ xs) [] rest u is = absurd (let none : ⊥ = cc in none)
literal-takes (x ∷ xs) (c ∷ cs) rest u is =
    let P : Result (Unit {0} × List ℕ) (List ℕ) → Type 0 = λ r. r ≡ Ok (u, rest) → c ∷ cs ≡ (x ∷ xs) ++ rest in
    cond_both (eqb x c) (read_literal xs cs) (Err (c ∷ cs)) P
    (λ h at. let head = eqb-true x c h in let tail = literal-takes xs cs rest u at in cc)
    (λ h at. absurd (let none : ⊥ = cc in none)) is

BeginsLiteral : List ℕ → List ℕ → Type 0
BeginsLiteral text front = (tail : List ℕ) × (front ++ tail ≡ text)

literal-halt : (text bytes rest : List ℕ) → read_literal text bytes ≡ Err rest → Halt (read_literal text) (BeginsLiteral text) bytes rest
unfolding BeginsLiteral
literal-halt [] bytes rest is = absurd (ok_not_err (tt, bytes) rest is)
literal-halt (x ∷ xs) [] rest is = halt_end (read_literal (x ∷ xs)) (BeginsLiteral (x ∷ xs)) rest (x ∷ xs, refl) (err_is [] rest is)
literal-halt (x ∷ xs) (c ∷ cs) rest is =
    let P : Result (Unit {0} × List ℕ) (List ℕ) → Type 0 = λ r. r ≡ Err rest → Halt (read_literal (x ∷ xs)) (BeginsLiteral (x ∷ xs)) (c ∷ cs) rest in
    cond_both (eqb x c) (read_literal xs cs) (Err (c ∷ cs)) P
    (λ h at. halt_cons (read_literal (x ∷ xs)) (read_literal xs) (BeginsLiteral (x ∷ xs)) (BeginsLiteral xs) c cs rest
    (λ tail e there. rw h there)
    (λ front b. (b.0, let head = eqb-true x c h in let tail = b.1 in cc))
    (literal-halt xs cs rest at))
    (λ h at. halt_here (read_literal (x ∷ xs)) (BeginsLiteral (x ∷ xs)) c cs rest (x ∷ xs, refl) (λ tail. rw h refl) (err_is (c ∷ cs) rest at)) is

pub literal-law : (text : List ℕ) → IsFormat (literal text)
unfolding BeginsLiteral
literal-law text = record {
  again = λ u rest good after. literal-again text rest;
  takes = λ bytes rest u is. (tt, tt, literal-takes text bytes rest u is);
  stops = λ bytes rest is.
      let h = literal-halt text bytes rest is in
      stops_by (literal text) bytes rest (λ u rest good. literal-again text rest) (record {
        front = h.front;
        parts = h.parts;
        known = (tt, h.known.0, tt, h.known.1);
        halts = h.halts;
      });
}

-- a name
module _ (end : ℕ) (ends : is_name_byte end ≡ false) where
  name_not_end : (c : ℕ) → is_name_byte c ≡ true → eqb c end ≡ false
  name_not_end c is = false_from_ne_true (eqb c end) (λ h. let same = eqb-true c end h in true≢false (sym is ∙ ap is_name_byte same ∙ ends))

  -- reading a byte of a name
  name-step : (room c : ℕ) (cs : List ℕ) → is_name_byte c ≡ true → read_name (suc room) end (c ∷ cs) ≡ and_then (read_name room end cs) (λ r. Ok (c ∷ r.0, r.1))
  unfolding read_name
  name-step room c cs is = rw (name_not_end c is, is) refl

  name-end : (room : ℕ) (cs : List ℕ) → read_name room end (end ∷ cs) ≡ Ok ([], cs)
  unfolding read_name
  name-end zero cs = rw (eq-eqb end end refl) refl
  name-end (suc room) cs = rw (eq-eqb end end refl) refl

  name-again : (room : ℕ) (name rest : List ℕ) → has_name_bytes name ≡ true → length name ≤ room → read_name room end (name ++ end ∷ rest) ≡ Ok (name, rest)
  name-again room [] rest good short = name-end room rest
  name-again zero (c ∷ cs) rest good short = absurd (omega arith)
  name-again (suc room) (c ∷ cs) rest good short =
      let parts = and_parts (is_name_byte c) (has_name_bytes cs) good in
      let next = name-again room cs rest parts.1 (omega arith) in
      rw (name-step room c (cs ++ end ∷ rest) parts.0, next) refl

  -- what is known of a name that was read
  NameTakes : ℕ → List ℕ → List ℕ × List ℕ → Type 0
  NameTakes room bytes q = (has_name_bytes q.0 ≡ true) × (length q.0 ≤ room) × (bytes ≡ q.0 ++ end ∷ q.1)

  name-takes-end : (room c : ℕ) (cs : List ℕ) (q : List ℕ × List ℕ) → eqb c end ≡ true → ◌≡◌ {A = Result (List ℕ × List ℕ) (List ℕ)} (Ok ([], cs)) (Ok q) → NameTakes room (c ∷ cs) q
  unfolding NameTakes
  name-takes-end room c cs q h is = subst (NameTakes room (c ∷ cs)) (ok_is ([], cs) q is) (refl, omega arith, let head = eqb-true c end h in cc)

  name-takes-more : (room c : ℕ) (cs : List ℕ) (q : List ℕ × List ℕ) (r : Result (List ℕ × List ℕ) (List ℕ)) → is_name_byte c ≡ true
      → ((t : List ℕ × List ℕ) → r ≡ Ok t → NameTakes room cs t) → and_then r (λ r. Ok (c ∷ r.0, r.1)) ≡ Ok q → NameTakes (suc room) (c ∷ cs) q
  unfolding NameTakes
  name-takes-more room c cs q (Err e) good next is = absurd (let none : ⊥ = cc in none)
  name-takes-more room c cs q (Ok t) good next is =
      let n = next t refl in
      subst (NameTakes (suc room) (c ∷ cs)) (ok_is (c ∷ t.0, t.1) q is) (and_from (is_name_byte c) (has_name_bytes t.0) good n.0, (let short = n.1 in omega arith), ap (λ l. c ∷ l) n.2)

  name-takes : (room : ℕ) (bytes : List ℕ) (q : List ℕ × List ℕ) → read_name room end bytes ≡ Ok q → NameTakes room bytes q
  unfolding read_name
  name-takes room [] q is = absurd (let none : ⊥ = cc in none)
  name-takes zero (c ∷ cs) q is =
      let P : Result (List ℕ × List ℕ) (List ℕ) → Type 0 = λ r. r ≡ Ok q → NameTakes zero (c ∷ cs) q in
      cond_both (eqb c end) (Ok ([], cs)) (Err (c ∷ cs)) P (λ h at. name-takes-end zero c cs q h at) (λ h at. absurd (let none : ⊥ = cc in none)) is
  name-takes (suc room) (c ∷ cs) q is =
      let P : Result (List ℕ × List ℕ) (List ℕ) → Type 0 = λ r. r ≡ Ok q → NameTakes (suc room) (c ∷ cs) q in
      let more : Result (List ℕ × List ℕ) (List ℕ) = and_then (read_name room end cs) (λ r. Ok (c ∷ r.0, r.1)) in
      cond_both (eqb c end) (Ok ([], cs)) (if is_name_byte c then more else Err (c ∷ cs)) P (λ h at. name-takes-end (suc room) c cs q h at)
      (λ h. cond_both (is_name_byte c) more (Err (c ∷ cs)) P
      (λ good at. name-takes-more room c cs q (read_name room end cs) good (λ t. name-takes room cs t) at)
      (λ bad at. absurd (let none : ⊥ = cc in none))) is

  -- what stands before the byte where a name stops
  NameFront : ℕ → List ℕ → Type 0
  NameFront room front = (has_name_bytes front ≡ true) × (length front ≤ room)

  name-halt-more : (room c : ℕ) (cs rest : List ℕ) (r : Result (List ℕ × List ℕ) (List ℕ)) → is_name_byte c ≡ true
      → (r ≡ Err rest → Halt (read_name room end) (NameFront room) cs rest) → and_then {B = List ℕ × List ℕ} r (λ r. Ok (c ∷ r.0, r.1)) ≡ Err rest
      → Halt (read_name (suc room) end) (NameFront (suc room)) (c ∷ cs) rest
  unfolding NameFront
  name-halt-more room c cs rest (Ok t) good next is = absurd (let none : ⊥ = cc in none)
  name-halt-more room c cs rest (Err e) good next is =
      halt_cons (read_name (suc room) end) (read_name room end) (NameFront (suc room)) (NameFront room) c cs rest
      (λ tail e at. name-step room c tail good ∙ (rw at refl))
      (λ front known. (and_from (is_name_byte c) (has_name_bytes front) good known.0, let short = known.1 in omega arith))
      (next (ap (λ l. Err l) (err_is e rest is)))

  name-halt : (room : ℕ) (bytes rest : List ℕ) → read_name room end bytes ≡ Err rest → Halt (read_name room end) (NameFront room) bytes rest
  unfolding read_name NameFront
  name-halt zero [] rest is = halt_end (read_name zero end) (NameFront zero) rest (refl, omega arith) (err_is [] rest is)
  name-halt (suc room) [] rest is = halt_end (read_name (suc room) end) (NameFront (suc room)) rest (refl, omega arith) (err_is [] rest is)
  name-halt zero (c ∷ cs) rest is =
      let P : Result (List ℕ × List ℕ) (List ℕ) → Type 0 = λ r. r ≡ Err rest → Halt (read_name zero end) (NameFront zero) (c ∷ cs) rest in
      cond_both (eqb c end) (Ok ([], cs)) (Err (c ∷ cs)) P (λ h at. absurd (let none : ⊥ = cc in none))
      (λ h at. halt_here (read_name zero end) (NameFront zero) c cs rest (refl, omega arith) (λ tail. rw h refl) (err_is (c ∷ cs) rest at)) is
  name-halt (suc room) (c ∷ cs) rest is =
      let P : Result (List ℕ × List ℕ) (List ℕ) → Type 0 = λ r. r ≡ Err rest → Halt (read_name (suc room) end) (NameFront (suc room)) (c ∷ cs) rest in
      let more : Result (List ℕ × List ℕ) (List ℕ) = and_then (read_name room end cs) (λ r. Ok (c ∷ r.0, r.1)) in
      cond_both (eqb c end) (Ok ([], cs)) (if is_name_byte c then more else Err (c ∷ cs)) P (λ h at. absurd (let none : ⊥ = cc in none))
      (λ h. cond_both (is_name_byte c) more (Err (c ∷ cs)) P
      (λ good at. name-halt-more room c cs rest (read_name room end cs) good (name-halt room cs rest) at)
      (λ bad at. halt_here (read_name (suc room) end) (NameFront (suc room)) c cs rest (refl, omega arith) (λ tail. rw (h, bad) refl) (err_is (c ∷ cs) rest at))) is

  -- the name and its first byte
  name_parts : (name : List ℕ) → is_name name ≡ true → (has_name_bytes name ≡ true) × (1 ≤ length name) × (length name ≤ 64)
  name_parts name good = grind (arith, nat_tests)

  name_from : (name : List ℕ) → has_name_bytes name ≡ true → 1 ≤ length name → length name ≤ 64 → is_name name ≡ true
  name_from name bytes some short = grind (arith, nat_tests)

  first-step : (c : ℕ) (cs : List ℕ) → is_name_byte c ≡ true → read_name_first end (c ∷ cs) ≡ and_then (read_name 63 end cs) (λ r. Ok (c ∷ r.0, r.1))
  first-step c cs good = rw good refl

  first-again : (name rest : List ℕ) → is_name name ≡ true → read_name_first end ((name ++ end ∷ []) ++ rest) ≡ Ok (name, rest)
  first-again [] rest good = absurd (let parts = name_parts [] good in omega arith)
  first-again (c ∷ cs) rest good =
      let all = name_parts (c ∷ cs) good in
      let parts = and_parts (is_name_byte c) (has_name_bytes cs) all.0 in
      let next = name-again 63 cs rest parts.1 (let short = all.2 in omega arith) in
      ap (read_name_first end) (append_assoc (c ∷ cs) (end ∷ []) rest) ∙ first-step c (cs ++ end ∷ rest) parts.0 ∙ (rw next refl)

  FirstTakes : List ℕ → List ℕ × List ℕ → Type 0
  FirstTakes bytes q = (is_name q.0 ≡ true) × (bytes ≡ (q.0 ++ end ∷ []) ++ q.1)

  first-takes-more : (c : ℕ) (cs : List ℕ) (q : List ℕ × List ℕ) (r : Result (List ℕ × List ℕ) (List ℕ)) → is_name_byte c ≡ true → read_name 63 end cs ≡ r
      → and_then r (λ r. Ok (c ∷ r.0, r.1)) ≡ Ok q → FirstTakes (c ∷ cs) q
  unfolding FirstTakes NameTakes
  first-takes-more c cs q (Err e) good at is = absurd (let none : ⊥ = cc in none)
  first-takes-more c cs q (Ok t) good at is =
      let n = name-takes 63 cs t at in
      let bytes = and_from (is_name_byte c) (has_name_bytes t.0) good n.0 in
      let whole : c ∷ cs ≡ (c ∷ t.0 ++ end ∷ []) ++ t.1 = rw append_assoc (ap (λ l. c ∷ l) n.2) in
      subst (FirstTakes (c ∷ cs)) (ok_is (c ∷ t.0, t.1) q is) (name_from (c ∷ t.0) bytes (omega arith) (let short = n.1 in omega arith), whole)

  first-takes : (bytes : List ℕ) (q : List ℕ × List ℕ) → read_name_first end bytes ≡ Ok q → FirstTakes bytes q
  first-takes [] q is = absurd (let none : ⊥ = cc in none)
  first-takes (c ∷ cs) q is =
      let P : Result (List ℕ × List ℕ) (List ℕ) → Type 0 = λ r. r ≡ Ok q → FirstTakes (c ∷ cs) q in
      cond_both (is_name_byte c) (and_then (read_name 63 end cs) (λ r. Ok (c ∷ r.0, r.1))) (Err (c ∷ cs)) P
      (λ good at. first-takes-more c cs q (read_name 63 end cs) good refl at)
      (λ bad at. absurd (let none : ⊥ = cc in none)) is

  FirstFront : List ℕ → Type 0
  FirstFront = Begins (name_and end)

  first-none-yet : FirstFront []
  unfolding FirstFront
  first-none-yet = (97 ∷ [], 97 ∷ end ∷ [], refl, refl)

  first-halt-more : (c : ℕ) (cs rest : List ℕ) (r : Result (List ℕ × List ℕ) (List ℕ)) → is_name_byte c ≡ true → read_name 63 end cs ≡ r
      → and_then {B = List ℕ × List ℕ} r (λ r. Ok (c ∷ r.0, r.1)) ≡ Err rest → Halt (read_name_first end) FirstFront (c ∷ cs) rest
  unfolding FirstFront NameFront
  first-halt-more c cs rest (Ok t) good at is = absurd (let none : ⊥ = cc in none)
  first-halt-more c cs rest (Err e) good at is =
      halt_cons (read_name_first end) (read_name 63 end) FirstFront (NameFront 63) c cs rest
      (λ tail e there. first-step c tail good ∙ (rw there refl))
      (λ front known. (c ∷ front, end ∷ [], name_from (c ∷ front) (and_from (is_name_byte c) (has_name_bytes front) good known.0) (omega arith) (let short = known.1 in omega arith), refl))
      (name-halt 63 cs rest (at ∙ ap (λ l. Err l) (err_is e rest is)))

  first-halt : (bytes rest : List ℕ) → read_name_first end bytes ≡ Err rest → Halt (read_name_first end) FirstFront bytes rest
  first-halt [] rest is = halt_end (read_name_first end) FirstFront rest first-none-yet (err_is [] rest is)
  first-halt (c ∷ cs) rest is =
      let P : Result (List ℕ × List ℕ) (List ℕ) → Type 0 = λ r. r ≡ Err rest → Halt (read_name_first end) FirstFront (c ∷ cs) rest in
      cond_both (is_name_byte c) (and_then (read_name 63 end cs) (λ r. Ok (c ∷ r.0, r.1))) (Err (c ∷ cs)) P
      (λ good at. first-halt-more c cs rest (read_name 63 end cs) good refl at)
      (λ bad at. halt_here (read_name_first end) FirstFront c cs rest first-none-yet (λ tail. rw bad refl) (err_is (c ∷ cs) rest at)) is

  pub name-law : IsFormat (name_and end)
  unfolding FirstFront FirstTakes
  name-law = record {
    again = λ name rest good after. first-again name rest good;
    takes = λ bytes rest name is. let t = first-takes bytes (name, rest) is in (t.0, tt, t.1);
    stops = λ bytes rest is. stops_by (name_and end) bytes rest first-again (first-halt bytes rest is);
  }

-- a number in decimal
digit_bounds : (c : ℕ) → is_digit c ≡ true → (48 ≤ c) × (c ≤ 57)
digit_bounds c is = grind (arith, nat_tests)

digit_is : (c : ℕ) → 48 ≤ c → c ≤ 57 → is_digit c ≡ true
digit_is c low high = grind (arith, nat_tests)

-- a digit more
decimal-goes : (n c : ℕ) → 1 ≤ n → is_digit c ≡ true → 10 * n + (c - 48) < 2 ^ 64 → decimal (10 * n + (c - 48)) ≡ decimal n ++ c ∷ []
decimal-goes n c some is fits =
    let bounds = digit_bounds c is in
    let low : 48 ≤ c = bounds.0 in
    let high : c ≤ 57 = bounds.1 in
    let next = 10 * n + (c - 48) in
    let front : next / 10 ≡ n = omega arith in
    let last : 48 + next % 10 ≡ c = omega arith in
    decimal_step next (omega arith) fits ∙ ap (λ m. decimal m ++ (48 + next % 10) ∷ []) front ∙ ap (λ d. decimal n ++ d ∷ []) last

decimal-first : (c : ℕ) → is_digit c ≡ true → decimal (c - 48) ≡ c ∷ []
decimal-first c is =
    let bounds = digit_bounds c is in
    let low : 48 ≤ c = bounds.0 in
    let high : c ≤ 57 = bounds.1 in
    let back : 48 + (c - 48) ≡ c = omega arith in
    decimal_digit (c - 48) (omega arith) ∙ ap (λ d. d ∷ []) back

module _ (limit end : ℕ) (ten : 10 ≤ limit) (word : limit ≤ 2 ^ 64) (ends : is_digit end ≡ false) where
  digit_not_end : (c : ℕ) → is_digit c ≡ true → eqb c end ≡ false
  digit_not_end c is = false_from_ne_true (eqb c end) (λ h. let same = eqb-true c end h in true≢false (sym is ∙ ap is_digit same ∙ ends))

  digits-step : (n c : ℕ) (cs : List ℕ) → is_digit c ≡ true → 10 * n + (c - 48) < limit → read_digits limit n end (c ∷ cs) ≡ read_digits limit (10 * n + (c - 48)) end cs
  unfolding read_digits
  digits-step n c cs is fits =
      let goes : (is_digit c && ltb (10 * n + (c - 48)) limit) ≡ true = and_from (is_digit c) (ltb (10 * n + (c - 48)) limit) is (lt-ltb (10 * n + (c - 48)) limit fits) in
      rw (digit_not_end c is, goes) refl

  digits-end : (n : ℕ) (cs : List ℕ) → read_digits limit n end (end ∷ cs) ≡ Ok (n, cs)
  unfolding read_digits
  digits-end n cs = rw (eq-eqb end end refl) refl

  -- the digits of a number lead to it
  Leads : ℕ → List ℕ → Type 0
  Leads n text = n < limit → (c : ℕ) × (ds : List ℕ) × (text ≡ c ∷ ds) × (is_digit c ≡ true) × (1 ≤ n → 49 ≤ c) × ((tail : List ℕ) → read_digits limit (c - 48) end (ds ++ tail) ≡ read_digits limit n end tail)

  leads-one : (n : ℕ) → n < 10 → Leads n ((48 + n) ∷ [])
  unfolding Leads
  leads-one n small fits = (48 + n, [], refl, digit_is (48 + n) (omega arith) (omega arith), (λ some. omega arith), (λ tail. ap (λ m. read_digits limit m end tail) (omega arith)))

  leads-more : (n : ℕ) (ds : List ℕ) → 10 ≤ n → Leads (n / 10) ds → Leads n (ds ++ (48 + n % 10) ∷ [])
  unfolding Leads
  leads-more n ds large before fits =
      let b = before (omega arith) in
      let last = 48 + n % 10 in
      let is : is_digit last ≡ true = digit_is last (omega arith) (omega arith) in
      let number : 10 * (n / 10) + (last - 48) ≡ n = omega arith in (
        b.0,
        b.1 ++ last ∷ [],
        (ap (λ l. l ++ last ∷ []) b.2),
        b.3,
        (λ some. b.4 (omega arith)),
        (λ tail. ap (read_digits limit (b.0 - 48) end) (append_assoc b.1 (last ∷ []) tail) ∙ b.5 (last ∷ tail)
            ∙ digits-step (n / 10) last tail is (omega arith) ∙ ap (λ m. read_digits limit m end tail) number),
      )

  leads : (n : ℕ) → n < 2 ^ 64 → Leads n (decimal n)
  leads = decimal_by_steps Leads leads-one leads-more

  decimal-zero : (cs : List ℕ) → read_decimal limit end (48 ∷ cs) ≡ and_then (read_literal (end ∷ []) cs) (λ r. Ok (0, r.1))
  decimal-zero cs = refl

  decimal-some : (c : ℕ) (cs : List ℕ) → is_digit c ≡ true → 49 ≤ c → read_decimal limit end (c ∷ cs) ≡ read_digits limit (c - 48) end cs
  decimal-some c cs is some = let other : eqb c 48 ≡ false = grind (arith, nat_tests) in rw (other, is) refl

  decimal-again : (n : ℕ) (rest : List ℕ) → n < limit → read_decimal limit end ((decimal n ++ end ∷ []) ++ rest) ≡ Ok (n, rest)
  unfolding Leads
  decimal-again zero rest fits =
      let text : (decimal 0 ++ end ∷ []) ++ rest ≡ 48 ∷ end ∷ rest = ap (λ l. (l ++ end ∷ []) ++ rest) (decimal_digit 0 (omega arith)) in
      ap (read_decimal limit end) text ∙ decimal-zero (end ∷ rest) ∙ (rw (literal-again (end ∷ []) rest) refl)
  decimal-again (suc k) rest fits =
      let n = suc k in
      let l = leads n (omega arith) fits in
      let c = l.0 in
      let text : (decimal n ++ end ∷ []) ++ rest ≡ c ∷ (l.1 ++ end ∷ rest) = append_assoc (decimal n) (end ∷ []) rest ∙ ap (λ t. t ++ end ∷ rest) l.2 in
      ap (read_decimal limit end) text ∙ decimal-some c (l.1 ++ end ∷ rest) l.3 (l.4 (omega arith)) ∙ l.5 (end ∷ rest) ∙ digits-end n rest

  DigitsTake : ℕ → List ℕ → ℕ × List ℕ → Type 0
  DigitsTake n bytes q = (q.0 < limit) × (decimal n ++ bytes ≡ decimal q.0 ++ end ∷ q.1)

  digits-take : (n : ℕ) (bytes : List ℕ) (q : ℕ × List ℕ) → 1 ≤ n → n < limit → read_digits limit n end bytes ≡ Ok q → DigitsTake n bytes q
  unfolding read_digits DigitsTake
  digits-take n [] q some fits is = absurd (let none : ⊥ = cc in none)
  digits-take n (c ∷ cs) q some fits is =
      let P : Result (ℕ × List ℕ) (List ℕ) → Type 0 = λ r. r ≡ Ok q → DigitsTake n (c ∷ cs) q in
      let next = 10 * n + (c - 48) in
      cond_both (eqb c end) (Ok (n, cs)) (if is_digit c && ltb next limit then read_digits limit next end cs else Err (c ∷ cs)) P
      (λ h at. subst (DigitsTake n (c ∷ cs)) (ok_is (n, cs) q at) (fits, ap (λ d. decimal n ++ d ∷ cs) (eqb-true c end h)))
      (λ h. cond_both (is_digit c && ltb next limit) (read_digits limit next end cs) (Err (c ∷ cs)) P
      (λ good at.
      let parts = and_parts (is_digit c) (ltb next limit) good in
      let small : next < limit = ltb-true next limit parts.1 in
      let wide : next < 2 ^ 64 = omega arith in
      let t = digits-take next cs q (omega arith) small at in
      (t.0, sym (append_assoc (decimal n) (c ∷ []) cs) ∙ ap (λ l. l ++ cs) (sym (decimal-goes n c some parts.0 wide)) ∙ t.1))
      (λ bad at. absurd (let none : ⊥ = cc in none))) is

  DigitsFront : ℕ → List ℕ → Type 0
  DigitsFront n front = (m : ℕ) × (m < limit) × (decimal n ++ front ≡ decimal m)

  digits-halt : (n : ℕ) (bytes rest : List ℕ) → 1 ≤ n → n < limit → read_digits limit n end bytes ≡ Err rest → Halt (read_digits limit n end) (DigitsFront n) bytes rest
  unfolding read_digits DigitsFront
  digits-halt n [] rest some fits is = halt_end (read_digits limit n end) (DigitsFront n) rest (n, fits, append-nil (decimal n)) (err_is [] rest is)
  digits-halt n (c ∷ cs) rest some fits is =
      let P : Result (ℕ × List ℕ) (List ℕ) → Type 0 = λ r. r ≡ Err rest → Halt (read_digits limit n end) (DigitsFront n) (c ∷ cs) rest in
      let next = 10 * n + (c - 48) in
      cond_both (eqb c end) (Ok (n, cs)) (if is_digit c && ltb next limit then read_digits limit next end cs else Err (c ∷ cs)) P
      (λ h at. absurd (let none : ⊥ = cc in none))
      (λ h. cond_both (is_digit c && ltb next limit) (read_digits limit next end cs) (Err (c ∷ cs)) P
      (λ good at.
      let parts = and_parts (is_digit c) (ltb next limit) good in
      let small : next < limit = ltb-true next limit parts.1 in
      let wide : next < 2 ^ 64 = omega arith in
      halt_cons (read_digits limit n end) (read_digits limit next end) (DigitsFront n) (DigitsFront next) c cs rest
      (λ tail e there. digits-step n c tail parts.0 small ∙ there)
      (λ front known. (known.0, known.1, sym (append_assoc (decimal n) (c ∷ []) front) ∙ ap (λ l. l ++ front) (sym (decimal-goes n c some parts.0 wide)) ∙ known.2))
      (digits-halt next cs rest (omega arith) small at))
      (λ bad at. halt_here (read_digits limit n end) (DigitsFront n) c cs rest (n, fits, append-nil (decimal n)) (λ tail. rw (h, bad) refl) (err_is (c ∷ cs) rest at))) is

  DecimalTakes : List ℕ → ℕ × List ℕ → Type 0
  DecimalTakes bytes q = (q.0 < limit) × (bytes ≡ (decimal q.0 ++ end ∷ []) ++ q.1)

  zero-takes : (cs : List ℕ) (q : ℕ × List ℕ) (r : Result (Unit {0} × List ℕ) (List ℕ)) → read_literal (end ∷ []) cs ≡ r → and_then r (λ r. Ok (0, r.1)) ≡ Ok q → DecimalTakes (48 ∷ cs) q
  unfolding DecimalTakes
  zero-takes cs q (Err e) at is = absurd (let none : ⊥ = cc in none)
  zero-takes cs q (Ok t) at is =
      let text = literal-takes (end ∷ []) cs t.1 t.0 at in
      let whole : 48 ∷ cs ≡ (decimal 0 ++ end ∷ []) ++ t.1 = ap (λ l. 48 ∷ l) text ∙ ap (λ l. (l ++ end ∷ []) ++ t.1) (sym (decimal_digit 0 (omega arith))) in
      subst (DecimalTakes (48 ∷ cs)) (ok_is (0, t.1) q is) (omega arith, whole)

  decimal-takes : (bytes : List ℕ) (q : ℕ × List ℕ) → read_decimal limit end bytes ≡ Ok q → DecimalTakes bytes q
  unfolding DecimalTakes DigitsTake
  decimal-takes [] q is = absurd (let none : ⊥ = cc in none)
  decimal-takes (c ∷ cs) q is =
      let P : Result (ℕ × List ℕ) (List ℕ) → Type 0 = λ r. r ≡ Ok q → DecimalTakes (c ∷ cs) q in
      cond_both (eqb c 48) (and_then (read_literal (end ∷ []) cs) (λ r. Ok (0, r.1))) (if is_digit c then read_digits limit (c - 48) end cs else Err (c ∷ cs)) P
      (λ h at. let AtDigit : ℕ → Type 0 = λ d. DecimalTakes (d ∷ cs) q in subst AtDigit (sym (eqb-true c 48 h)) (zero-takes cs q (read_literal (end ∷ []) cs) refl at))
      (λ h. cond_both (is_digit c) (read_digits limit (c - 48) end cs) (Err (c ∷ cs)) P
      (λ good at.
      let bounds = digit_bounds c good in
      let low : 48 ≤ c = bounds.0 in
      let high : c ≤ 57 = bounds.1 in
      let other = eqb-false c 48 h in
      let t = digits-take (c - 48) cs q (omega arith) (omega arith) at in
      (t.0, ap (λ l. l ++ cs) (sym (decimal-first c good)) ∙ t.1 ∙ sym (append_assoc (decimal q.0) (end ∷ []) q.1)))
      (λ bad at. absurd (let none : ⊥ = cc in none))) is

  DecimalFront : List ℕ → Type 0
  DecimalFront = Begins (decimal_below limit end)

  decimal-none-yet : DecimalFront []
  unfolding DecimalFront
  decimal-none-yet = (0, decimal 0 ++ end ∷ [], omega arith, refl)

  zero-halt : (cs rest : List ℕ) (r : Result (Unit {0} × List ℕ) (List ℕ)) → read_literal (end ∷ []) cs ≡ r → and_then {B = ℕ × List ℕ} r (λ r. Ok (0, r.1)) ≡ Err rest
      → Halt (read_decimal limit end) DecimalFront (48 ∷ cs) rest
  unfolding DecimalFront BeginsLiteral
  zero-halt cs rest (Ok t) at is = absurd (let none : ⊥ = cc in none)
  zero-halt cs rest (Err e) at is =
      halt_cons (read_decimal limit end) (read_literal (end ∷ [])) DecimalFront (BeginsLiteral (end ∷ [])) 48 cs rest
      (λ tail e there. decimal-zero tail ∙ (rw there refl))
      (λ front known. (0, known.0, omega arith, ap (λ l. 48 ∷ l) known.1 ∙ ap (λ l. l ++ end ∷ []) (sym (decimal_digit 0 (omega arith)))))
      (literal-halt (end ∷ []) cs rest (at ∙ ap (λ l. Err l) (err_is e rest is)))

  decimal-halt : (bytes rest : List ℕ) → read_decimal limit end bytes ≡ Err rest → Halt (read_decimal limit end) DecimalFront bytes rest
  unfolding DecimalFront DigitsFront
  decimal-halt [] rest is = halt_end (read_decimal limit end) DecimalFront rest decimal-none-yet (err_is [] rest is)
  decimal-halt (c ∷ cs) rest is =
      let P : Result (ℕ × List ℕ) (List ℕ) → Type 0 = λ r. r ≡ Err rest → Halt (read_decimal limit end) DecimalFront (c ∷ cs) rest in
      cond_both (eqb c 48) (and_then (read_literal (end ∷ []) cs) (λ r. Ok (0, r.1))) (if is_digit c then read_digits limit (c - 48) end cs else Err (c ∷ cs)) P
      (λ h at. let AtDigit : ℕ → Type 0 = λ d. Halt (read_decimal limit end) DecimalFront (d ∷ cs) rest in subst AtDigit (sym (eqb-true c 48 h)) (zero-halt cs rest (read_literal (end ∷ []) cs) refl at))
      (λ h. cond_both (is_digit c) (read_digits limit (c - 48) end cs) (Err (c ∷ cs)) P
      (λ good at.
      let bounds = digit_bounds c good in
      let low : 48 ≤ c = bounds.0 in
      let high : c ≤ 57 = bounds.1 in
      let other = eqb-false c 48 h in
      let some : 49 ≤ c = omega arith in
      halt_cons (read_decimal limit end) (read_digits limit (c - 48) end) DecimalFront (DigitsFront (c - 48)) c cs rest
      (λ tail e there. decimal-some c tail good some ∙ there)
      (λ front known. (known.0, end ∷ [], known.1, ap (λ l. (l ++ front) ++ end ∷ []) (sym (decimal-first c good)) ∙ ap (λ l. l ++ end ∷ []) known.2))
      (digits-halt (c - 48) cs rest (omega arith) (omega arith) at))
      (λ bad at. halt_here (read_decimal limit end) DecimalFront c cs rest decimal-none-yet (λ tail. rw (h, bad) refl) (err_is (c ∷ cs) rest at))) is

  pub below-law : IsFormat (decimal_below limit end)
  unfolding DecimalFront DecimalTakes
  below-law = record {
    again = λ n rest good after. decimal-again n rest good;
    takes = λ bytes rest n is. let t = decimal-takes bytes (n, rest) is in (t.0, tt, t.1);
    stops = λ bytes rest is. stops_by (decimal_below limit end) bytes rest decimal-again (decimal-halt bytes rest is);
  }

pub decimal-law : (end : ℕ) → is_digit end ≡ false → IsFormat (decimal_and end)
decimal-law end ends = below-law (2 ^ 64) end (lit≤ tt) (lit≤ tt) ends

-- a number in 16 hex digits
hex_back : (d : ℕ) → d < 16 → (is_lower_hex (hex_digit d) ≡ true) × (lower_value (hex_digit d) ≡ d)
hex_back d small = (grind (arith, nat_tests), grind (arith, nat_tests))

hex_forth : (c : ℕ) → is_lower_hex c ≡ true → (lower_value c < 16) × (hex_digit (lower_value c) ≡ c)
hex_forth c is = (grind (arith, nat_tests), grind (arith, nat_tests))

hex-step : (k n c : ℕ) (cs : List ℕ) → is_lower_hex c ≡ true → read_hex_digits (suc k) n (c ∷ cs) ≡ read_hex_digits k (16 * n + lower_value c) cs
unfolding read_hex_digits
hex-step k n c cs is = rw is refl

hex_shifted : (p m q r n : ℕ) → 16 * q + r ≡ n → 16 * (p * m + q) + r ≡ (16 * p) * m + n
hex_shifted p m q r n is = omega (arith, mul_assoc 16 p m)

pow_step : (k : ℕ) → 16 ^ suc k ≡ 16 * 16 ^ k
pow_step k = grind arith

-- the digits of n behind those of m, where j more are to follow
hex-digits-again : (j k m n : ℕ) (rest : List ℕ) → n < 16 ^ k → read_hex_digits (k + j) m (hex_digits k n ++ rest) ≡ read_hex_digits j (16 ^ k * m + n) rest
unfolding hex_digits
hex-digits-again j zero m n rest small =
    let same : 16 ^ 0 * m + n ≡ m = omega arith in
    let fuel : 0 + j ≡ j = omega arith in
    ap (λ i. read_hex_digits i m rest) fuel ∙ ap (λ x. read_hex_digits j x rest) (sym same)
hex-digits-again j (suc k) m n rest small =
    let step = pow_step k in
    let high : n / 16 < 16 ^ k = omega arith in
    let low : n % 16 < 16 = omega arith in
    let digit = hex_digit (n % 16) in
    let back = hex_back (n % 16) low in
    let front = 16 ^ k * m + n / 16 in
    let fuel : suc k + j ≡ k + suc j = omega arith in
    let number : 16 * front + n % 16 ≡ 16 ^ suc k * m + n = rw step (hex_shifted (16 ^ k) m (n / 16) (n % 16) n (div-add-mod n 16)) in
    ap (λ i. read_hex_digits i m ((hex_digits k (n / 16) ++ digit ∷ []) ++ rest)) fuel
    ∙ ap (read_hex_digits (k + suc j) m) (append_assoc (hex_digits k (n / 16)) (digit ∷ []) rest)
    ∙ hex-digits-again (suc j) k m (n / 16) (digit ∷ rest) high
    ∙ hex-step j front digit rest back.0
    ∙ ap (λ d. read_hex_digits j (16 * front + d) rest) back.1
    ∙ ap (λ x. read_hex_digits j x rest) number

hex-again : (n : ℕ) (rest : List ℕ) → n < 2 ^ 64 → read_hex_digits 16 0 (hex_digits 16 n ++ rest) ≡ Ok (n, rest)
unfolding read_hex_digits
hex-again n rest small =
    let whole : read_hex_digits (16 + 0) 0 (hex_digits 16 n ++ rest) ≡ read_hex_digits 0 (16 ^ 16 * 0 + n) rest = hex-digits-again 0 16 0 n rest small in
    whole ∙ ap (λ x. Ok (x, rest)) (let number : 16 ^ 16 * 0 + n ≡ n = omega arith in number)

-- one digit more
hex-digits-goes : (j n c : ℕ) → is_lower_hex c ≡ true → hex_digits (suc j) (16 * n + lower_value c) ≡ hex_digits j n ++ c ∷ []
unfolding hex_digits
hex-digits-goes j n c is =
    let forth = hex_forth c is in
    let small : lower_value c < 16 = forth.0 in
    let next = 16 * n + lower_value c in
    let front : next / 16 ≡ n = omega arith in
    let last : next % 16 ≡ lower_value c = omega arith in
    ap (λ m. hex_digits j m ++ hex_digit (next % 16) ∷ []) front ∙ ap (λ d. hex_digits j n ++ hex_digit d ∷ []) last ∙ ap (λ d. hex_digits j n ++ d ∷ []) forth.1

hex_grows : (j n d : ℕ) → n < 16 ^ j → d < 16 → 16 * n + d < 16 ^ suc j
hex_grows j n d small digit = let step = pow_step j in omega arith

-- of k digits to be read behind j that were
hex-takes : (k j i n : ℕ) (bytes : List ℕ) (q : ℕ × List ℕ) → k + j ≡ i → n < 16 ^ j → read_hex_digits k n bytes ≡ Ok q
    → (q.0 < 16 ^ i) × (hex_digits j n ++ bytes ≡ hex_digits i q.0 ++ q.1)
unfolding read_hex_digits
hex-takes zero j i n bytes q sum small is =
    let Takes : ℕ × List ℕ → Type 0 = λ q. (q.0 < 16 ^ i) × (hex_digits j n ++ bytes ≡ hex_digits i q.0 ++ q.1) in
    let same : j ≡ i = omega arith in
    subst Takes (ok_is (n, bytes) q is) (let AtPlace : ℕ → Type 0 = λ i. n < 16 ^ i in subst AtPlace same small, ap (λ i. hex_digits i n ++ bytes) same)
hex-takes (suc k) j i n [] q sum small is = absurd (let none : ⊥ = cc in none)
hex-takes (suc k) j i n (c ∷ cs) q sum small is =
    let P : Result (ℕ × List ℕ) (List ℕ) → Type 0 = λ r. r ≡ Ok q → (q.0 < 16 ^ i) × (hex_digits j n ++ c ∷ cs ≡ hex_digits i q.0 ++ q.1) in
    let next = 16 * n + lower_value c in
    cond_both (is_lower_hex c) (read_hex_digits k next cs) (Err (c ∷ cs)) P
    (λ good at.
    let more = hex-takes k (suc j) i next cs q (omega arith) (hex_grows j n (lower_value c) small (hex_forth c good).0) at in
    (more.0, sym (append_assoc (hex_digits j n) (c ∷ []) cs) ∙ ap (λ l. l ++ cs) (sym (hex-digits-goes j n c good)) ∙ more.1))
    (λ bad at. absurd (let none : ⊥ = cc in none)) is

-- digits can follow
hex-filled : (k j i n : ℕ) → k + j ≡ i → n < 16 ^ j → (m : ℕ) × (tail : List ℕ) × (m < 16 ^ i) × (hex_digits j n ++ tail ≡ hex_digits i m)
hex-filled zero j i n sum small =
    let same : j ≡ i = omega arith in
    let AtPlace : ℕ → Type 0 = λ i. n < 16 ^ i in
    (n, [], subst AtPlace same small, append-nil (hex_digits j n) ∙ ap (λ i. hex_digits i n) same)
hex-filled (suc k) j i n sum small =
    let zero_digit : is_lower_hex 48 ≡ true = refl in
    let more = hex-filled k (suc j) i (16 * n + 0) (omega arith) (hex_grows j n 0 small (omega arith)) in
    (more.0, 48 ∷ more.1, more.2, sym (append_assoc (hex_digits j n) (48 ∷ []) more.1) ∙ ap (λ l. l ++ more.1) (sym (hex-digits-goes j n 48 zero_digit)) ∙ more.3)

HexFront : ℕ → ℕ → ℕ → List ℕ → Type 0
HexFront j i n front = (m : ℕ) × (tail : List ℕ) × (m < 16 ^ i) × (hex_digits j n ++ (front ++ tail) ≡ hex_digits i m)

hex-halt : (k j i n : ℕ) (bytes rest : List ℕ) → k + j ≡ i → n < 16 ^ j → read_hex_digits k n bytes ≡ Err rest → Halt (read_hex_digits k n) (HexFront j i n) bytes rest
unfolding read_hex_digits HexFront
hex-halt zero j i n bytes rest sum small is = absurd (ok_not_err (n, bytes) rest is)
hex-halt (suc k) j i n [] rest sum small is = halt_end (read_hex_digits (suc k) n) (HexFront j i n) rest (hex-filled (suc k) j i n sum small) (err_is [] rest is)
hex-halt (suc k) j i n (c ∷ cs) rest sum small is =
    let P : Result (ℕ × List ℕ) (List ℕ) → Type 0 = λ r. r ≡ Err rest → Halt (read_hex_digits (suc k) n) (HexFront j i n) (c ∷ cs) rest in
    let next = 16 * n + lower_value c in
    cond_both (is_lower_hex c) (read_hex_digits k next cs) (Err (c ∷ cs)) P
    (λ good at.
    halt_cons (read_hex_digits (suc k) n) (read_hex_digits k next) (HexFront j i n) (HexFront (suc j) i next) c cs rest
    (λ tail e there. hex-step k n c tail good ∙ there)
    (λ front known. (
      known.0,
      known.1,
      known.2,
      sym (append_assoc (hex_digits j n) (c ∷ []) (front ++ known.1)) ∙ ap (λ l. l ++ (front ++ known.1)) (sym (hex-digits-goes j n c good)) ∙ known.3,
    ))
    (hex-halt k (suc j) i next cs rest (omega arith) (hex_grows j n (lower_value c) small (hex_forth c good).0) at))
    (λ bad at. halt_here (read_hex_digits (suc k) n) (HexFront j i n) c cs rest (hex-filled (suc k) j i n sum small) (λ tail. rw bad refl) (err_is (c ∷ cs) rest at)) is

hex-nothing : (n : ℕ) (l : List ℕ) → hex_digits 0 n ++ l ≡ l
unfolding hex_digits
hex-nothing n l = refl

pub hex-law : IsFormat hex16
unfolding HexFront
hex-law = record {
  again = λ n rest good after. hex-again n rest good;
  takes = λ bytes rest n is.
      let t = hex-takes 16 0 16 0 bytes (n, rest) refl (omega arith) is in
      (t.0, tt, sym (hex-nothing 0 bytes) ∙ t.1);
  stops = λ bytes rest is.
      let h = hex-halt 16 0 16 0 bytes rest refl (omega arith) is in
      stops_by hex16 bytes rest hex-again (record {
        front = h.front;
        parts = h.parts;
        known = (h.known.0, h.known.1, h.known.2, sym (hex-nothing 0 (h.front ++ h.known.1)) ∙ h.known.3);
        halts = h.halts;
      });
}

-- one digit of a range
digit_inside : (low high c : ℕ) → (leb (48 + low) c && leb c (48 + high)) ≡ true → (48 + low ≤ c) × (c ≤ 48 + high)
digit_inside low high c is = (grind (arith, nat_tests), grind (arith, nat_tests))

digit_within : (low high d : ℕ) → low ≤ d → d ≤ high → (leb (48 + low) (48 + d) && leb (48 + d) (48 + high)) ≡ true
digit_within low high d above below = grind (arith, nat_tests)

digit-again : (low high d : ℕ) (rest : List ℕ) → (low ≤ d) × (d ≤ high) → read_digit low high ((48 + d) ∷ [] ++ rest) ≡ Ok (d, rest)
digit-again low high d rest good =
    let inside = digit_within low high d good.0 good.1 in
    let back : 48 + d - 48 ≡ d = omega arith in
    rw inside (ap (λ n. Ok (n, rest)) back)

DigitTakes : ℕ → ℕ → List ℕ → ℕ × List ℕ → Type 0
DigitTakes low high bytes q = ((low ≤ q.0) × (q.0 ≤ high)) × (bytes ≡ (48 + q.0) ∷ [] ++ q.1)

digit-takes : (low high : ℕ) (bytes : List ℕ) (q : ℕ × List ℕ) → read_digit low high bytes ≡ Ok q → DigitTakes low high bytes q
unfolding DigitTakes
digit-takes low high [] q is = absurd (let none : ⊥ = cc in none)
digit-takes low high (c ∷ cs) q is =
    let P : Result (ℕ × List ℕ) (List ℕ) → Type 0 = λ r. r ≡ Ok q → DigitTakes low high (c ∷ cs) q in
    cond_both (leb (48 + low) c && leb c (48 + high)) (Ok (c - 48, cs)) (Err (c ∷ cs)) P
    (λ good at.
    let inside = digit_inside low high c good in
    let above = inside.0 in
    let below = inside.1 in
    let back : c ≡ 48 + (c - 48) = omega arith in
    subst (DigitTakes low high (c ∷ cs)) (ok_is (c - 48, cs) q at) ((omega arith, omega arith), ap (λ d. d ∷ cs) back))
    (λ bad at. absurd (let none : ⊥ = cc in none)) is

digit-halt : (low high : ℕ) → low ≤ high → (bytes rest : List ℕ) → read_digit low high bytes ≡ Err rest → Halt (read_digit low high) (Begins (digit_from low high)) bytes rest
digit-halt low high some [] rest is =
    halt_end (read_digit low high) (Begins (digit_from low high)) rest (low, (48 + low) ∷ [], (omega arith, some), refl) (err_is [] rest is)
digit-halt low high some (c ∷ cs) rest is =
    let Front : List ℕ → Type 0 = Begins (digit_from low high) in
    let P : Result (ℕ × List ℕ) (List ℕ) → Type 0 = λ r. r ≡ Err rest → Halt (read_digit low high) Front (c ∷ cs) rest in
    cond_both (leb (48 + low) c && leb c (48 + high)) (Ok (c - 48, cs)) (Err (c ∷ cs)) P
    (λ good at. absurd (let none : ⊥ = cc in none))
    (λ bad at. halt_here (read_digit low high) Front c cs rest (low, (48 + low) ∷ [], (omega arith, some), refl) (λ tail. rw bad refl) (err_is (c ∷ cs) rest at)) is

pub digit-law : (low high : ℕ) → low ≤ high → IsFormat (digit_from low high)
unfolding DigitTakes
digit-law low high some = record {
  again = λ d rest good after. digit-again low high d rest good;
  takes = λ bytes rest d is. let t = digit-takes low high bytes (d, rest) is in (t.0, tt, t.1);
  stops = λ bytes rest is. stops_by (digit_from low high) bytes rest (digit-again low high) (digit-halt low high some bytes rest is);
}
