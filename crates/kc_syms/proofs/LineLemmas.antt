-- The first line of some bytes, where it is a plain row.
use Rattle.std.proofs.Common.{◌≡◌, ◌≢◌, ℕ, suc, ◌+◌, ◌-◌, ◌<◌, ◌==◌, Bool, true, false, ◌&&◌, cond, nat_lt, List, [], ◌∷◌, ◌++◌, length, take, drop, map, Option, Some, None, Ok, Err, nat_eq, refl, sym, subst, ap, ◌∙◌, arith, append_assoc, length-append, if◌then◌else◌}
use Rattle.std.specs.Prelude.{slice_index}
use Rattle.std.specs.List.{list_all}
use Rattle.std.proofs.lemmas.Bool.Decides.{nat_tests}
use Rattle.std.proofs.lemmas.List.{drop_at, length-take-le, take-append-drop, take_at}
use Rattle.std.proofs.lemmas.List.Folds.{list_all-append, list_all_at}
use Rattle.std.proofs.Math.Seq.{get_or-append_seam, take-append_seam}
use Rattle.bstr.specs.Text.{line_len, lines_of, no_cr, without_terminator}
use Rattle.bstr.proofs.lemmas.LineLemmas.{lines-nil, lines-step}
use Rattle.kc_word.specs.Hex.{hex_number}
use Rattle.std.specs.Str.{bytes_eq}
use Rattle.kc_syms.specs.Answers.{Stands}
use Rattle.kc_syms.specs.Listed.{put_behind}
use Rattle.kc_syms.specs.Reading.{BeginsWithNone, IsFirstRow, behind_kind, behind_newline}
use Rattle.kc_syms.specs.Rows.{RowText, is_digit, is_kind, is_name_byte, lines, listed_in, name_behind, name_in, row_of, rows}
use Rattle.kc_syms.proofs.HexBack.{both}
use Rattle.kc_syms.proofs.ReadLemmas.{IsReadTo, reads_all, reads_bad, reads_row}

-- no newline and no carriage return
abbrev is_inner : ℕ → Bool
is_inner c = nat_lt 13 c

all_inner : (p : ℕ → Bool) → ((c : ℕ) → p c ≡ true → is_inner c ≡ true) → (cs : List ℕ) → list_all p cs ≡ true → list_all is_inner cs ≡ true
all_inner p inner [] all = refl
all_inner p inner (c ∷ cs) all =
    let parts = both (p c) (list_all p cs) all in
    rw (inner c parts.0, all_inner p inner cs parts.1)

digit_inner : (c : ℕ) → is_digit c ≡ true → is_inner c ≡ true
digit_inner c is = grind (arith, nat_tests)

kind_inner : (c : ℕ) → is_kind c ≡ true → is_inner c ≡ true
kind_inner c is = grind (arith, nat_tests)

name_inner : (c : ℕ) → is_name_byte c ≡ true → is_inner c ≡ true
name_inner c is = grind (arith, nat_tests)

unequal : (c k : ℕ) → is_inner c ≡ true → k < 14 → (c == k) ≡ false
unequal c k is low = grind (arith, nat_tests)

line-long : (front behind : List ℕ) → list_all is_inner front ≡ true → line_len (front ++ 10 ∷ behind) ≡ suc (length front)
unfolding line_len
line-long [] behind all = refl
line-long (c ∷ cs) behind all =
    let parts = both (is_inner c) (list_all is_inner cs) all in
    ap (λ b. cond b 1 (suc (line_len (cs ++ 10 ∷ behind)))) (unequal c 10 parts.0 (omega arith)) ∙ ap suc (line-long cs behind parts.1)

and_false : (a b : Bool) → b ≡ false → (a && b) ≡ false
and_false true b is = is
and_false false b is = refl

-- no carriage return is at the end
kept : (front : List ℕ) → list_all is_inner front ≡ true → no_cr front ≡ front
kept [] all = refl
kept (c ∷ cs) all =
    let front = c ∷ cs in
    let n = length front - 1 in
    ap (λ b. cond b (take n front) front) (and_false (nat_lt 0 (length front)) (slice_index front n == 13) (by (is_inner (slice_index front n)) refl))
  where
    by : (b : Bool) → is_inner (slice_index (c ∷ cs) (length (c ∷ cs) - 1)) ≡ b → (slice_index (c ∷ cs) (length (c ∷ cs) - 1) == 13) ≡ false
    by true is = unequal (slice_index (c ∷ cs) (length (c ∷ cs) - 1)) 13 is (omega arith)
    by false is = let none : list_all is_inner (c ∷ cs) ≡ false = list_all_at is_inner (c ∷ cs) (length (c ∷ cs) - 1) 0 (omega arith) is in cc

cut : (t u : List ℕ) (n : ℕ) → length t ≡ suc n → slice_index t n ≡ 10 → take n t ≡ u → no_cr u ≡ u → without_terminator t ≡ u
cut t u n long last front plain =
    let place : length t - 1 ≡ n = omega arith in
    let some : nat_lt 0 (length t) ≡ true = grind (arith, nat_tests) in
    let ends : (nat_lt 0 (length t) && (slice_index t (length t - 1) == 10)) ≡ true = rw (some, place, last) in
    ap (λ b. cond b (no_cr (take (length t - 1) t)) t) ends ∙ ap (λ k. no_cr (take k t)) place ∙ ap no_cr front ∙ plain

-- a line up to its newline, and the lines behind it
first-line : (front behind : List ℕ) → list_all is_inner front ≡ true → lines (front ++ 10 ∷ behind) ≡ front ∷ lines behind
first-line front behind inner =
    let bytes = front ++ 10 ∷ behind in
    let line = front ++ 10 ∷ [] in
    let n = suc (length front) in
    let long : length line ≡ n = omega (arith, length-append front (10 ∷ [])) in
    let whole : bytes ≡ line ++ behind = sym (append_assoc front (10 ∷ []) behind) in
    let some : 0 < length bytes = omega (arith, length-append front (10 ∷ behind)) in
    let step : lines_of bytes ≡ line ∷ lines_of behind =
    lines-step bytes some ∙ ap (λ k. take k bytes ∷ lines_of (drop k bytes)) (line-long front behind inner)
    ∙ ap (λ t. t ∷ lines_of (drop n bytes)) (ap (take n) whole ∙ take_at line behind n long)
    ∙ ap (λ t. line ∷ lines_of t) (ap (drop n) whole ∙ drop_at line behind n long) in
    ap (map without_terminator) step
    ∙ ap (λ l. l ∷ lines behind) (cut line front (length front) long (get_or-append_seam front 10 [] 0) (take-append_seam front (10 ∷ [])) (kept front inner))

digits_in : (digits : List ℕ) (listed : ℕ) → listed_in digits ≡ Some listed → list_all is_digit digits ≡ true
digits_in digits listed is = by (list_all is_digit digits) (hex_number digits) is
  where
    by : (b : Bool) (o : Option ℕ) → (if b then o else None) ≡ Some listed → b ≡ true
    by true o same = refl
    by false o same = cc

name_is : (name : List ℕ) → name ≢ [] → list_all is_name_byte name ≡ true → name_in name ≡ Some name
name_is [] some all = absurd (some refl)
name_is (c ∷ cs) some all = rw all

module _ (digits name : List ℕ) (kind listed : ℕ) (long : length digits ≡ 16) (number : listed_in digits ≡ Some listed) (letter : is_kind kind ≡ true)
    (some : name ≢ []) (all : list_all is_name_byte name ≡ true) where
  abbrev behind_digits : List ℕ
  behind_digits = 32 ∷ kind ∷ 32 ∷ name

  row_is : row_of (digits ++ behind_digits) ≡ Some (record { listed = listed; name = name })
  unfolding row_of
  row_is =
      let enough : nat_lt (length (digits ++ behind_digits)) 16 ≡ false = rw (length-append digits behind_digits, long) (grind (arith, nat_tests)) in
      let front : take 16 (digits ++ behind_digits) ≡ digits = take_at digits behind_digits 16 long in
      let rest : drop 16 (digits ++ behind_digits) ≡ behind_digits = drop_at digits behind_digits 16 long in
      let word : name_behind behind_digits ≡ Some name = rw letter (name_is name some all) in
      rw (enough, front, rest, number, word)

  inner : list_all is_inner (digits ++ behind_digits) ≡ true
  inner =
      list_all-append is_inner digits behind_digits
      ∙ rw (all_inner is_digit digit_inner digits (digits_in digits listed number), kind_inner kind letter, all_inner is_name_byte name_inner name all)

  -- bytes that begin with a row's parts and a newline
  plain_row : (bytes behind : List ℕ) → bytes ≡ digits ++ 32 ∷ kind ∷ 32 ∷ (name ++ 10 ∷ behind) → IsFirstRow bytes (record { listed = listed; name = name }) behind
  plain_row bytes behind is = record {
    line = digits ++ behind_digits;
    split = ap lines (is ∙ sym (append_assoc digits behind_digits (10 ∷ behind))) ∙ first-line (digits ++ behind_digits) behind inner;
    is = row_is;
  }

-- no bytes have no lines
no_lines : (bytes : List ℕ) → length bytes ≡ 0 → lines bytes ≡ []
no_lines [] none = ap (map without_terminator) lines-nil
no_lines (c ∷ cs) none = absurd (omega arith)

-- the first line of some bytes
some_line : (bytes : List ℕ) → 0 < length bytes → lines bytes ≡ without_terminator (take (line_len bytes) bytes) ∷ lines (drop (line_len bytes) bytes)
some_line bytes some = ap (map without_terminator) (lines-step bytes some)

-- what is behind a kind
record IsBehindKind (behind text : List ℕ) : Type 0 where
  pub kind : ℕ
  pub split : behind ≡ 32 ∷ kind ∷ 32 ∷ text
  pub letter : is_kind kind ≡ true

found_where : {A : Type 0} (b : Bool) (x y : A) → Some x ≡ (if b then Some y else None) → (b ≡ true) × (x ≡ y)
found_where true x y is = (refl, cc)
found_where false x y is = cc

kind_found : (behind text : List ℕ) → Some text ≡ behind_kind behind → IsBehindKind behind text
kind_found [] text is = cc
kind_found (a ∷ []) text is = cc
kind_found (a ∷ kind ∷ []) text is = cc
kind_found (a ∷ kind ∷ b ∷ rest) text is =
    let parts = found_where ((a == 32) && is_kind kind && (b == 32)) text rest is in
    let outer = both ((a == 32) && is_kind kind) (b == 32) parts.0 in
    let inside = both (a == 32) (is_kind kind) outer.0 in
    let first : a ≡ 32 = grind (arith, nat_tests, inside.0) in
    let second : b ≡ 32 = grind (arith, nat_tests, outer.1) in
    record { kind = kind; split = rw (first, second, parts.1); letter = inside.1 }

newline_found : (left rest : List ℕ) → Some rest ≡ behind_newline left → left ≡ 10 ∷ rest
newline_found [] rest is = cc
newline_found (c ∷ cs) rest is =
    let parts = found_where (c == 10) rest cs is in
    let here : c ≡ 10 = grind (arith, nat_tests, parts.0) in
    rw (here, parts.1)

some_name : (name : List ℕ) (empty : Bool) → empty ≡ nat_eq (length name) 0 → empty ≡ false → name ≢ []
some_name [] empty is other none = cc
some_name (c ∷ cs) empty is other none = cc

-- a plain row as it is read, part by part
pub plain_read : (bytes digits behind text name left rest : List ℕ) (listed n : ℕ) {empty : Bool}
    → digits ≡ take 16 bytes → behind ≡ drop 16 bytes → length behind + 16 ≡ length bytes → Some listed ≡ listed_in digits → Some text ≡ behind_kind behind
    → name ≡ take n text → left ≡ drop n text → list_all is_name_byte (take n text) ≡ true → empty ≡ nat_eq (length name) 0 → empty ≡ false
    → Some rest ≡ behind_newline left → IsFirstRow bytes (record { listed = listed; name = name }) rest
plain_read bytes digits behind text name left rest listed n {empty} digits_are behind_is longer number kinded name_is left_is all empty_is some newline =
    let found = kind_found behind text kinded in
    let many : length digits ≡ 16 = ap length digits_are ∙ length-take-le 16 bytes (omega arith) in
    let whole : text ≡ name ++ 10 ∷ rest =
    sym (take-append-drop n text) ∙ ap (λ t. t ++ drop n text) (sym name_is) ∙ ap (λ t. name ++ t) (sym left_is ∙ newline_found left rest newline) in
    plain_row digits name found.kind listed many (sym number) found.letter (some_name name empty empty_is some) (ap (list_all is_name_byte) name_is ∙ all) bytes rest
    (sym (take-append-drop 16 bytes) ∙ ap (λ d. d ++ drop 16 bytes) (sym digits_are)
    ∙ ap (λ b. digits ++ b) (sym behind_is ∙ found.split ∙ ap (λ t. 32 ∷ found.kind ∷ 32 ∷ t) whole))

module _ (listed : List ℕ → List ℕ) (number : ℕ) (rest bytes : List ℕ) (so_far : IsReadTo listed number (lines rest) (rows bytes)) where
  -- the first of the bytes that are left is no row
  pub ends_bad : 0 < length rest → BeginsWithNone (lines rest) → rows bytes ≡ Err number
  ends_bad some none =
      let first = some_line rest some in
      reads_bad listed number _ _ (rows bytes) (subst (λ ls. IsReadTo listed number ls (rows bytes)) first so_far) (subst BeginsWithNone first none)

  -- no bytes are left
  pub ends_whole : length rest ≡ 0 → (read : List RowText) × (rows bytes ≡ Ok read) × Stands listed read
  ends_whole none = reads_all listed number (rows bytes) (subst (λ ls. IsReadTo listed number ls (rows bytes)) (no_lines rest none) so_far)

  -- a row, and what is behind its line
  pub goes_on : (row : RowText) (behind : List ℕ) (after : List ℕ → List ℕ) → IsFirstRow rest row behind
      → ((name : List ℕ) → after name ≡ put_behind (bytes_eq row.name name) (listed name) row.listed) → IsReadTo after (number + 1) (lines behind) (rows bytes)
  goes_on row behind after first put =
      reads_row listed after number first.line (lines behind) (rows bytes) row (subst (λ ls. IsReadTo listed number ls (rows bytes)) first.split so_far) first.is put
