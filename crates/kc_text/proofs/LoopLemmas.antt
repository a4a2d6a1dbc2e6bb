-- One byte more in the loops that read.
use Rattle.std.proofs.Common.{◌≡◌, ℕ, zero, suc, ◌+◌, ◌-◌, ◌*◌, ◌^◌, ◌<◌, ◌≤◌, true, false, ◌&&◌, ltb, List, [], ◌∷◌, ◌++◌, length, take, drop, get_or, Option, Some, None, Result, Ok, Err, if◌then◌else◌, lit<, inl, inr, refl, sym, ap, ◌∙◌, arith, add-one, drop-cons, append_assoc}
use Rattle.std.proofs.Math.ListN.{drop_of_length-le}
use Rattle.std.proofs.Math.Nat.{pow-le-pow_right}
use Rattle.std.proofs.Math.Seq.{take-length}
use Rattle.std.proofs.lemmas.List.{length-drop, take_more, append-nil}
use Rattle.std.proofs.lemmas.Bool.{eq-eqb, ne_eqb, cond_both, cases_lt}
use Rattle.kc_text.specs.Reading.{and_then}
use Rattle.kc_text.specs.Readers.{read_literal, is_name_byte, read_name, is_digit, read_digits, is_lower_hex, lower_value, read_hex_digits}

-- bytes of a name before those that are read
abbrev pub with_front : List ℕ → Result (List ℕ × List ℕ) (List ℕ) → Result (List ℕ × List ℕ) (List ℕ)
with_front front r = and_then r (λ q. Ok (front ++ q.0, q.1))

-- what is left from a place on
pub rest_is : (i : ℕ) (bytes : List ℕ) → take (length bytes - i) (drop i bytes) ≡ drop i bytes
rest_is i bytes = ap (λ n. take n (drop i bytes)) (sym (length-drop i bytes)) ∙ take-length (drop i bytes)

at_place : (bytes : List ℕ) (i : ℕ) → i < length bytes → drop i bytes ≡ get_or bytes i 0 ∷ drop (i + 1) bytes
at_place bytes i within = rw add-one (drop-cons bytes i 0 within)

past : (bytes : List ℕ) → drop (length bytes) bytes ≡ []
past bytes = drop_of_length-le bytes (omega arith)

literal-bad : (x c : ℕ) (xs cs : List ℕ) → (x ≡ c → ⊥) → read_literal (x ∷ xs) (c ∷ cs) ≡ Err (c ∷ cs)
literal-bad x c xs cs other = rw (ne_eqb x c other) refl

-- a byte that isn't the literal's, or the end
pub literal_stops : (text bytes : List ℕ) (i : ℕ) → i < length text → i ≤ length bytes → (i < length bytes → get_or bytes i 0 ≡ get_or text i 0 → ⊥)
    → read_literal (drop i text) (drop i bytes) ≡ Err (drop i bytes)
literal_stops text bytes i within inside other =
    elim (cases_lt i (length bytes)) [
      | inl more ↦ rw (at_place text i within, at_place bytes i more) (literal-bad (get_or text i 0) (get_or bytes i 0) (drop (i + 1) text) (drop (i + 1) bytes) (λ same. other more (sym same)))
      | inr none ↦ let nothing : drop i bytes ≡ [] = drop_of_length-le bytes none in rw (at_place text i within, nothing) refl
    ]

digits-bad : (limit n end c : ℕ) (cs : List ℕ) → (c ≡ end → ⊥) → (is_digit c && ltb (10 * n + (c - 48)) limit) ≡ false → read_digits limit n end (c ∷ cs) ≡ Err (c ∷ cs)
unfolding read_digits
digits-bad limit n end c cs other bad = rw (ne_eqb c end other, bad) refl

digits-more : (limit n end c : ℕ) (cs : List ℕ) → (c ≡ end → ⊥) → (is_digit c && ltb (10 * n + (c - 48)) limit) ≡ true → read_digits limit n end (c ∷ cs) ≡ read_digits limit (10 * n + (c - 48)) end cs
unfolding read_digits
digits-more limit n end c cs other good = rw (ne_eqb c end other, good) refl

digits-end : (limit n end c : ℕ) (cs : List ℕ) → c ≡ end → read_digits limit n end (c ∷ cs) ≡ Ok (n, cs)
unfolding read_digits
digits-end limit n end c cs same = rw (eq-eqb c end same) refl

-- how a digit is added
abbrev added : ℕ → ℕ → ℕ → Option ℕ
added limit n c = if is_digit c && ltb (10 * n + (c - 48)) limit then Some (10 * n + (c - 48)) else None

added_none : (limit n c : ℕ) → None ≡ added limit n c → (is_digit c && ltb (10 * n + (c - 48)) limit) ≡ false
added_none limit n c is = let P : Option ℕ → Type 0 = λ o. None ≡ o → (is_digit c && ltb (10 * n + (c - 48)) limit) ≡ false in
    cond_both (is_digit c && ltb (10 * n + (c - 48)) limit) (Some (10 * n + (c - 48))) None P (λ h at. absurd (let none : ⊥ = cc in none)) (λ h at. h) is

added_some : (limit n c m : ℕ) → Some m ≡ added limit n c → ((is_digit c && ltb (10 * n + (c - 48)) limit) ≡ true) × (m ≡ 10 * n + (c - 48))
added_some limit n c m is = let P : Option ℕ → Type 0 = λ o. Some m ≡ o → ((is_digit c && ltb (10 * n + (c - 48)) limit) ≡ true) × (m ≡ 10 * n + (c - 48)) in
    cond_both (is_digit c && ltb (10 * n + (c - 48)) limit) (Some (10 * n + (c - 48))) None P (λ h at. (h, let same : m ≡ 10 * n + (c - 48) = cc in same)) (λ h at. absurd (let none : ⊥ = cc in none)) is

pub digits_stop : (limit n end : ℕ) (bytes : List ℕ) (i : ℕ) → i < length bytes → (get_or bytes i 0 ≡ end → ⊥) → None ≡ added limit n (get_or bytes i 0) → read_digits limit n end (drop i bytes) ≡ Err (drop i bytes)
digits_stop limit n end bytes i within other bad = rw (at_place bytes i within) (digits-bad limit n end (get_or bytes i 0) (drop (i + 1) bytes) other (added_none limit n (get_or bytes i 0) bad))

pub digits_go_on : (limit n end m : ℕ) (bytes : List ℕ) (i : ℕ) → i < length bytes → (get_or bytes i 0 ≡ end → ⊥) → Some m ≡ added limit n (get_or bytes i 0)
    → read_digits limit m end (drop (i + 1) bytes) ≡ read_digits limit n end (drop i bytes)
digits_go_on limit n end m bytes i within other good =
    let c = get_or bytes i 0 in
    let a = added_some limit n c m good in
    ap (λ k. read_digits limit k end (drop (i + 1) bytes)) a.1 ∙ sym (digits-more limit n end c (drop (i + 1) bytes) other a.0) ∙ ap (read_digits limit n end) (sym (at_place bytes i within))

pub digits_end : (limit n end : ℕ) (bytes : List ℕ) (i : ℕ) → i < length bytes → get_or bytes i 0 ≡ end → read_digits limit n end (drop i bytes) ≡ Ok (n, drop (i + 1) bytes)
digits_end limit n end bytes i within same = rw (at_place bytes i within) (digits-end limit n end (get_or bytes i 0) (drop (i + 1) bytes) same)

digits-none : (limit n end : ℕ) → read_digits limit n end [] ≡ Err []
unfolding read_digits
digits-none limit n end = refl

pub digits_past : (limit n end : ℕ) (bytes : List ℕ) → read_digits limit n end (drop (length bytes) bytes) ≡ Err (drop (length bytes) bytes)
digits_past limit n end bytes = rw (past bytes) (digits-none limit n end)

-- hex digits
hex-bad : (k n c : ℕ) (cs : List ℕ) → is_lower_hex c ≡ false → read_hex_digits (suc k) n (c ∷ cs) ≡ Err (c ∷ cs)
unfolding read_hex_digits
hex-bad k n c cs bad = rw bad refl

hex-more : (k n c : ℕ) (cs : List ℕ) → is_lower_hex c ≡ true → read_hex_digits (suc k) n (c ∷ cs) ≡ read_hex_digits k (16 * n + lower_value c) cs
unfolding read_hex_digits
hex-more k n c cs good = rw good refl

hex-none : (k n : ℕ) → read_hex_digits (suc k) n [] ≡ Err []
unfolding read_hex_digits
hex-none k n = refl

pub hex_go_on : (n : ℕ) (bytes : List ℕ) (i : ℕ) → i < 16 → i < length bytes → is_lower_hex (get_or bytes i 0) ≡ true
    → read_hex_digits (16 - (i + 1)) (16 * n + lower_value (get_or bytes i 0)) (drop (i + 1) bytes) ≡ read_hex_digits (16 - i) n (drop i bytes)
hex_go_on n bytes i few within good =
    let left : 16 - i ≡ suc (16 - (i + 1)) = omega arith in
    rw (left, at_place bytes i within) (sym (hex-more (16 - (i + 1)) n (get_or bytes i 0) (drop (i + 1) bytes) good))

pub hex_stops : (n : ℕ) (bytes : List ℕ) (i : ℕ) → i < 16 → i < length bytes → is_lower_hex (get_or bytes i 0) ≡ false → read_hex_digits (16 - i) n (drop i bytes) ≡ Err (drop i bytes)
hex_stops n bytes i few within bad =
    let left : 16 - i ≡ suc (16 - (i + 1)) = omega arith in
    rw (left, at_place bytes i within) (hex-bad (16 - (i + 1)) n (get_or bytes i 0) (drop (i + 1) bytes) bad)

pub hex_past : (n : ℕ) (bytes : List ℕ) (i : ℕ) → i < 16 → i ≡ length bytes → read_hex_digits (16 - i) n (drop i bytes) ≡ Err (drop i bytes)
hex_past n bytes i few at_end =
    let left : 16 - i ≡ suc (16 - (i + 1)) = omega arith in
    let none : drop i bytes ≡ [] = ap (λ j. drop j bytes) at_end ∙ past bytes in
    rw (left, none) (hex-none (16 - (i + 1)) n)

pub hex_done : (n : ℕ) (rest : List ℕ) → read_hex_digits (16 - 16) n rest ≡ Ok (n, rest)
unfolding read_hex_digits
hex_done n rest = refl

pow_step : (k : ℕ) → 16 ^ suc k ≡ 16 * 16 ^ k
pow_step k = grind arith

pub hex_small : (i n d : ℕ) → n < 16 ^ i → d < 16 → 16 * n + d < 16 ^ (i + 1)
hex_small i n d small digit = let step : 16 ^ (i + 1) ≡ 16 * 16 ^ i = rw add-one (pow_step i) in omega arith

power_fits : (i : ℕ) → i < 16 → 16 ^ i ≤ 16 ^ 15
power_fits i few = let small : i ≤ 15 = omega arith in pow-le-pow_right {n = 16} (lit< tt) small

pub hex_fits : (i n d : ℕ) → i < 16 → n < 16 ^ i → d < 16 → 16 * n + d < 2 ^ 64
hex_fits i n d few small digit = let most = power_fits i few in omega arith

-- bytes of a name
name-bad : (room end c : ℕ) (cs : List ℕ) → (c ≡ end → ⊥) → is_name_byte c ≡ false → read_name room end (c ∷ cs) ≡ Err (c ∷ cs)
unfolding read_name
name-bad zero end c cs other bad = rw (ne_eqb c end other) refl
name-bad (suc room) end c cs other bad = rw (ne_eqb c end other, bad) refl

name-full : (end c : ℕ) (cs : List ℕ) → (c ≡ end → ⊥) → read_name 0 end (c ∷ cs) ≡ Err (c ∷ cs)
unfolding read_name
name-full end c cs other = rw (ne_eqb c end other) refl

name-more : (room end c : ℕ) (cs : List ℕ) → (c ≡ end → ⊥) → is_name_byte c ≡ true → read_name (suc room) end (c ∷ cs) ≡ with_front (c ∷ []) (read_name room end cs)
unfolding read_name
name-more room end c cs other good = rw (ne_eqb c end other, good) refl

name-end : (room end c : ℕ) (cs : List ℕ) → c ≡ end → read_name room end (c ∷ cs) ≡ Ok ([], cs)
unfolding read_name
name-end zero end c cs same = rw (eq-eqb c end same) refl
name-end (suc room) end c cs same = rw (eq-eqb c end same) refl

name-none : (room end : ℕ) → read_name room end [] ≡ Err []
unfolding read_name
name-none zero end = refl
name-none (suc room) end = refl

fronts : (front : List ℕ) (c : ℕ) (r : Result (List ℕ × List ℕ) (List ℕ)) → with_front (front ++ c ∷ []) r ≡ with_front front (with_front (c ∷ []) r)
fronts front c (Ok q) = ap (λ l. Ok (l, q.1)) (append_assoc front (c ∷ []) q.0)
fronts front c (Err e) = refl

pub name_go_on : (end : ℕ) (bytes : List ℕ) (i : ℕ) → i < length bytes → i < 63 → (get_or bytes i 0 ≡ end → ⊥) → is_name_byte (get_or bytes i 0) ≡ true
    → with_front (take (i + 1) bytes) (read_name (63 - (i + 1)) end (drop (i + 1) bytes)) ≡ with_front (take i bytes) (read_name (63 - i) end (drop i bytes))
name_go_on end bytes i within few other good =
    let c = get_or bytes i 0 in
    let room = 63 - (i + 1) in
    let left : suc room ≡ 63 - i = omega arith in
    let front : take (i + 1) bytes ≡ take i bytes ++ c ∷ [] = take_more bytes i 0 within in
    ap (λ l. with_front l (read_name room end (drop (i + 1) bytes))) front
    ∙ fronts (take i bytes) c (read_name room end (drop (i + 1) bytes))
    ∙ ap (with_front (take i bytes)) (sym (name-more room end c (drop (i + 1) bytes) other good) ∙ ap (read_name (suc room) end) (sym (at_place bytes i within)) ∙ ap (λ r. read_name r end (drop i bytes)) left)

pub name_ends : (end : ℕ) (bytes : List ℕ) (i : ℕ) → i < length bytes → get_or bytes i 0 ≡ end
    → with_front (take i bytes) (read_name (63 - i) end (drop i bytes)) ≡ Ok (take i bytes, drop (i + 1) bytes)
name_ends end bytes i within same =
    ap (with_front (take i bytes)) (ap (read_name (63 - i) end) (at_place bytes i within) ∙ name-end (63 - i) end (get_or bytes i 0) (drop (i + 1) bytes) same)
    ∙ ap (λ l. Ok (l, drop (i + 1) bytes)) (append-nil (take i bytes))

pub name_stops : (end : ℕ) (bytes : List ℕ) (i : ℕ) → i < length bytes → (get_or bytes i 0 ≡ end → ⊥) → is_name_byte (get_or bytes i 0) ≡ false
    → with_front (take i bytes) (read_name (63 - i) end (drop i bytes)) ≡ Err (drop i bytes)
name_stops end bytes i within other bad =
    ap (with_front (take i bytes)) (ap (read_name (63 - i) end) (at_place bytes i within) ∙ name-bad (63 - i) end (get_or bytes i 0) (drop (i + 1) bytes) other bad)
    ∙ ap (λ l. Err l) (sym (at_place bytes i within))

pub name_full : (end : ℕ) (bytes : List ℕ) (i : ℕ) → i < length bytes → (get_or bytes i 0 ≡ end → ⊥) → i ≡ 63
    → with_front (take i bytes) (read_name (63 - i) end (drop i bytes)) ≡ Err (drop i bytes)
name_full end bytes i within other full =
    let room : 63 - i ≡ 0 = omega arith in
    ap (with_front (take i bytes)) (ap (read_name (63 - i) end) (at_place bytes i within) ∙ ap (λ r. read_name r end (get_or bytes i 0 ∷ drop (i + 1) bytes)) room ∙ name-full end (get_or bytes i 0) (drop (i + 1) bytes) other)
    ∙ ap (λ l. Err l) (sym (at_place bytes i within))

pub name_past : (room end : ℕ) (front bytes : List ℕ) → with_front front (read_name room end (drop (length bytes) bytes)) ≡ Err (drop (length bytes) bytes)
name_past room end front bytes = rw (past bytes, name-none room end) refl
