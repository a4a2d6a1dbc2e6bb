-- The lines of a text whose lines hold no byte below a space.
use Rattle.std.proofs.Common.{◌≡◌, ℕ, zero, suc, ◌+◌, ◌-◌, ◌<◌, ◌≤◌, ◌==◌, nat_lt, Bool, true, false, ◌&&◌, cond, List, [], ◌∷◌, ◌++◌, length, length-append, get_or, take, drop, refl, sym, ap, ◌∙◌, append_assoc, arith}
use Rattle.std.proofs.lemmas.Bool.Decides.{nat_tests}
use Rattle.std.proofs.Math.Seq.{drop-append_seam, get_or-append_seam, take-append_seam}
use Rattle.bstr.specs.Text.{line_len, lines_of, no_cr, without_terminator}
use Rattle.bstr.proofs.lemmas.LineLemmas.{lines-step}

-- no byte is below a space
abbrev pub High : List ℕ → Type 0
High [] = Unit {0}
High (c ∷ cs) = (32 ≤ c) × High cs

pub high-append : (xs ys : List ℕ) → High xs → High ys → High (xs ++ ys)
high-append [] ys first more = more
high-append (x ∷ xs) ys first more = (first.0, high-append xs ys first.1 more)

high_at : (xs : List ℕ) (i : ℕ) → High xs → i < length xs → 32 ≤ get_or xs i 0
high_at [] i high lt = absurd (omega arith)
high_at (x ∷ xs) zero high lt = high.0
high_at (x ∷ xs) (suc i) high lt = high_at xs i high.1 (omega arith)

not_feed : (c : ℕ) → 32 ≤ c → (c == 10) ≡ false
not_feed c high = grind (arith, nat_tests)

line_long : (body rest : List ℕ) → High body → line_len (body ++ 10 ∷ rest) ≡ length body + 1
unfolding line_len
line_long [] rest high = refl
line_long (c ∷ cs) rest high = rw (not_feed c high.0) (ap suc (line_long cs rest high.1) ∙ omega arith)

plain_end : (b : Bool) (body : List ℕ) → b ≡ false → cond b (take (length body - 1) body) body ≡ body
plain_end b body is = rw is refl

not_return : (n c : ℕ) → (0 < n → 32 ≤ c) → (nat_lt 0 n && (c == 13)) ≡ false
not_return zero c high = refl
not_return (suc n) c high = let some : 32 ≤ c = high (omega arith) in grind (arith, nat_tests)

kept : (body : List ℕ) → High body → no_cr body ≡ body
kept body high =
    plain_end (nat_lt 0 (length body) && (get_or body (length body - 1) 0 == 13)) body
    (not_return (length body) (get_or body (length body - 1) 0) (λ some. high_at body (length body - 1) high (omega arith)))

ended : (b : Bool) (x y : List ℕ) → b ≡ true → cond b x y ≡ x
ended b x y is = rw is refl

is_feed : (n c : ℕ) → 0 < n → c ≡ 10 → (nat_lt 0 n && (c == 10)) ≡ true
is_feed n c some is = grind (arith, nat_tests)

bare : (body : List ℕ) → High body → without_terminator (body ++ 10 ∷ []) ≡ body
bare body high =
    let long : length (body ++ 10 ∷ []) ≡ length body + 1 = length-append body (10 ∷ []) in
    let less : length (body ++ 10 ∷ []) - 1 ≡ length body = omega (arith, long) in
    let last : get_or (body ++ 10 ∷ []) (length (body ++ 10 ∷ []) - 1) 0 ≡ 10 = ap (λ i. get_or (body ++ 10 ∷ []) i 0) less ∙ get_or-append_seam body 10 [] 0 in
    let front : take (length (body ++ 10 ∷ []) - 1) (body ++ 10 ∷ []) ≡ body = ap (λ i. take i (body ++ 10 ∷ [])) less ∙ take-append_seam body (10 ∷ []) in
    ended (nat_lt 0 (length (body ++ 10 ∷ [])) && (get_or (body ++ 10 ∷ []) (length (body ++ 10 ∷ []) - 1) 0 == 10)) (no_cr (take (length (body ++ 10 ∷ []) - 1) (body ++ 10 ∷ []))) (body ++ 10 ∷ [])
    (is_feed (length (body ++ 10 ∷ [])) (get_or (body ++ 10 ∷ []) (length (body ++ 10 ∷ []) - 1) 0) (omega (arith, long)) last)
    ∙ ap no_cr front ∙ kept body high

-- the first line and those after it
pub first_line : (body rest : List ℕ) → High body → lines_of ((body ++ 10 ∷ []) ++ rest) ≡ (body ++ 10 ∷ []) ∷ lines_of rest
first_line body rest high =
    let whole = (body ++ 10 ∷ []) ++ rest in
    let same : whole ≡ body ++ 10 ∷ rest = append_assoc body (10 ∷ []) rest in
    let size : line_len whole ≡ length (body ++ 10 ∷ []) = ap line_len same ∙ line_long body rest high ∙ sym (length-append body (10 ∷ [])) in
    let some : 0 < length whole = omega (arith, length-append (body ++ 10 ∷ []) rest, length-append body (10 ∷ [])) in
    lines-step whole some
    ∙ ap (λ n. take n whole ∷ lines_of (drop n whole)) size
    ∙ ap (λ (l : List ℕ). l ∷ lines_of (drop (length (body ++ 10 ∷ [])) whole)) (take-append_seam (body ++ 10 ∷ []) rest)
    ∙ ap (λ (l : List ℕ). (body ++ 10 ∷ []) ∷ lines_of l) (drop-append_seam (body ++ 10 ∷ []) rest)

pub bare_line : (body : List ℕ) → High body → without_terminator (body ++ 10 ∷ []) ≡ body
bare_line body high = bare body high
