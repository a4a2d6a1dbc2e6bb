-- Names and type numbers in joined types.
use Rattle.std.proofs.Common.{◌≡◌, ℕ, zero, suc, ◌+◌, ◌-◌, ◌<◌, ◌≤◌, true, false, ◌&&◌, ◌==◌, List, [], ◌∷◌, ◌++◌, length, drop, take, slice_get, slice_index, ap, ◌∙◌, sym, refl, arith}
use Rattle.std.specs.Prelude.{nat_lt}
use Rattle.std.specs.List.{before_first, position_or_len}
use Rattle.std.proofs.lemmas.Bool.Decides.{nat_tests}
use Rattle.std.proofs.lemmas.Bool.{and_parts, eqb-true}
use Rattle.std.proofs.lemmas.List.{length-drop, drop-append-le, drop-drop, drop_at, get_or-drop}
use Rattle.kc_btf.specs.Btf.{Types}
use Rattle.kc_btf.specs.Header.{string_section, are_strings}
use Rattle.kc_btf.specs.Readers.{name_at, record_numbered}
use Rattle.kc_btf.specs.Records.{Record}
use Rattle.kc_split.specs.Join.{with_module}
use Rattle.kc_split.specs.Laws.{GoOn}

one_more : (n : ℕ) → 1 + n ≡ suc n
one_more n = omega arith

first_is : (x : ℕ) (xs : List ℕ) → before_first (λ c. c == 0) (suc x ∷ xs) ≡ suc x ∷ before_first (λ c. c == 0) xs
first_is x xs =
    let no : (suc x == 0) ≡ false = grind (arith, nat_tests) in
    rw no (ap (λ n. take n (suc x ∷ xs)) (one_more (position_or_len (λ c. c == 0) xs)))

-- a list that has a NUL at its end has its first one wherever it stands
first_stays : (xs ys : List ℕ) → 0 < length xs → slice_index xs (length xs - 1) ≡ 0 → before_first (λ c. c == 0) (xs ++ ys) ≡ before_first (λ c. c == 0) xs
first_stays [] ys some ended = absurd (omega arith)
first_stays (zero ∷ xs) ys some ended = refl
first_stays (suc x ∷ []) ys some ended = let none : ⊥ = omega (arith, ended) in absurd none
first_stays (suc x ∷ y ∷ xs) ys some ended =
    let last : length (suc x ∷ y ∷ xs) - 1 ≡ suc (length (y ∷ xs) - 1) = omega arith in
    let rest = first_stays (y ∷ xs) ys (omega arith) (ap (slice_index (suc x ∷ y ∷ xs)) (sym last) ∙ ended) in
    first_is x (y ∷ xs ++ ys) ∙ ap (λ r. suc x ∷ r) rest ∙ sym (first_is x (y ∷ xs))

stays : (xs ys : List ℕ) (off : ℕ) → are_strings xs ≡ true → off < length xs → name_at (xs ++ ys) off ≡ name_at xs off
stays xs ys off are within =
    let outer = and_parts (nat_lt 0 (length xs) && (slice_index xs 0 == 0)) (slice_index xs (length xs - 1) == 0) are in
    let size = length-drop off xs in
    let place : off + (length (drop off xs) - 1) ≡ length xs - 1 = omega arith in
    let ended : slice_index (drop off xs) (length (drop off xs) - 1) ≡ 0 =
    get_or-drop off xs (length (drop off xs) - 1) 0 ∙ ap (slice_index xs) place ∙ eqb-true (slice_index xs (length xs - 1)) 0 outer.1 in
    ap (before_first (λ c. c == 0)) (drop-append-le off xs ys (omega arith)) ∙ first_stays (drop off xs) ys (omega arith) ended

goes_on : (xs ys : List ℕ) (off : ℕ) → name_at (xs ++ ys) (length xs + off) ≡ name_at ys off
goes_on xs ys off = ap (before_first (λ c. c == 0)) (sym (drop-drop off (length xs) (xs ++ ys)) ∙ ap (drop off) (drop_at xs ys (length xs) refl))

-- the records by their numbers
got : (xs ys : List Record) (i : ℕ) → i < length xs → slice_get (xs ++ ys) i ≡ slice_get xs i
got [] ys i within = absurd (omega arith)
got (x ∷ xs) ys zero within = refl
got (x ∷ xs) ys (suc i) within = got xs ys i (omega arith)

got_more : (xs ys : List Record) (i : ℕ) → slice_get (xs ++ ys) (length xs + i) ≡ slice_get ys i
got_more [] ys i = let same : 0 + i ≡ i = omega arith in rw same refl
got_more (x ∷ xs) ys i = let same : suc (length xs) + i ≡ suc (length xs + i) = omega arith in rw same (got_more xs ys i)

numbered : (base : Types) (bytes : List ℕ) (records : List Record) (id : ℕ) → id ≤ length base.records → record_numbered (with_module base bytes records) id ≡ record_numbered base id
numbered base bytes records zero within = refl
numbered base bytes records (suc i) within = got base.records records i (omega arith)

numbered_more : (base : Types) (bytes : List ℕ) (records : List Record) (i : ℕ) → record_numbered (with_module base bytes records) (length base.records + suc i) ≡ slice_get records i
numbered_more base bytes records i =
    let same : length base.records + suc i ≡ suc (length base.records + i) = omega arith in
    rw same (got_more base.records records i)

pub go_on : GoOn
go_on base bytes records are = record {
  ty = numbered base bytes records;
  more_ty = numbered_more base bytes records;
  name = λ off within. stays base.strings (string_section bytes) off are within;
  more_name = goes_on base.strings (string_section bytes);
}
