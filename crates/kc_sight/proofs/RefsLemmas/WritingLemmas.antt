-- A word that holds an encoded value does so by one random number alone, which the word tells.
use Rattle.std.proofs.Common.{◌≡◌, ℕ, ◌+◌, ◌%◌, ◌^◌, ◌<◌, Bool, true, false, nat_eq, if◌then◌else◌, [], ◌∷◌, List, length, get_or, slice_set, take, Some, None, option_map, inl, inr, refl, sym, ap, subst, ◌∙◌, ◌||◌}
use Rattle.std.specs.List.{find, list_all}
use Rattle.std.specs.Int.{swap_bytes, w64}
use Rattle.std.specs.Int.Bits.{bit_xor, xor_assoc, xor_self, xor_zero_l, xor_zero_r}
use Rattle.std.proofs.lemmas.Bool.{and_from, and_parts}
use Rattle.std.proofs.lemmas.Bool.Decides.{eqb_tells}
use Rattle.std.proofs.lemmas.List.{get_or-set_same, get_or-set_other, take_more}
use Rattle.std.proofs.lemmas.List.Folds.{list_all-append}
use Rattle.kc_found.specs.FreeLists.{decoded}
use Rattle.kc_sight.specs.declared.refs.sought.Writing.TheVariants.{Encoded}
use Rattle.kc_sight.specs.Refs.Writings.{Sought, has_bit, is_among, is_encoded}

-- the word, the number that encodes and the value tell each other
pub xor_back : (w r s : ℕ) → bit_xor (bit_xor w (bit_xor (bit_xor w r) s)) s ≡ r
xor_back w r s =
    ap (λ (x : ℕ). bit_xor x s) (sym (xor_assoc w (bit_xor w r) s) ∙ ap (λ (x : ℕ). bit_xor x s) (sym (xor_assoc w w r) ∙ ap (λ (x : ℕ). bit_xor x r) (xor_self w) ∙ xor_zero_l r))
    ∙ xor_assoc r s s ∙ ap (bit_xor r) (xor_self s) ∙ xor_zero_r r

decoded_back : (w r at value : ℕ) → decoded w r at ≡ value → decoded w value at ≡ r
decoded_back w r at value is = ap (λ (v : ℕ). decoded w v at) (sym is) ∙ xor_back w r (swap_bytes w64 at)

same_test : (s : Sought) (w pa r : ℕ) → is_encoded s w pa r ≡ nat_eq r (decoded w s.value ((s.direct + pa) % 2 ^ 64))
same_test s w pa r =
    let at = (s.direct + pa) % 2 ^ 64 in
    elim (eqb_tells (decoded w r at) s.value) [
      | inl one ↦ elim (eqb_tells r (decoded w s.value at)) [
        | inl other ↦ one.0 ∙ sym other.0
        | inr other ↦ absurd (other.1 (sym (decoded_back w r at s.value one.1)))
      ]
      | inr one ↦ elim (eqb_tells r (decoded w s.value at)) [
        | inl other ↦ absurd (one.1 (decoded_back w s.value at r (sym other.1)))
        | inr other ↦ one.0 ∙ sym other.0
      ]
    ]

-- so the first one that does is that number, where it is one of them
found_from : (s : Sought) (w pa : ℕ) (randoms : List ℕ) (r : ℕ) → decoded w s.value ((s.direct + pa) % 2 ^ 64) ≡ r
    → find (is_encoded s w pa) randoms ≡ (if is_among r randoms then Some r else None)
found_from s w pa [] r is = refl
found_from s w pa (x ∷ xs) r is =
    let test : is_encoded s w pa x ≡ nat_eq x r = same_test s w pa x ∙ ap (nat_eq x) is in
    elim (eqb_tells x r) [
      | inl same ↦
          ap (λ (b : Bool). if b then Some x else find (is_encoded s w pa) xs) (test ∙ same.0)
          ∙ ap (λ (n : ℕ). Some n) same.1
          ∙ sym (ap (λ (b : Bool). if b || is_among r xs then Some r else None) same.0)
      | inr other ↦
          ap (λ (b : Bool). if b then Some x else find (is_encoded s w pa) xs) (test ∙ other.0)
          ∙ found_from s w pa xs r is
          ∙ sym (ap (λ (b : Bool). if b || is_among r xs then Some r else None) other.0)
    ]

pub is_one : (s : Sought) (w pa r : ℕ) → decoded w s.value ((s.direct + pa) % 2 ^ 64) ≡ r → is_among r s.randoms ≡ true
    → option_map Encoded (find (is_encoded s w pa) s.randoms) ≡ Some (Encoded r)
is_one s w pa r is among = ap (option_map Encoded) (found_from s w pa s.randoms r is ∙ ap (λ (b : Bool). if b then Some r else None) among)

pub is_no_one : (s : Sought) (w pa r : ℕ) → decoded w s.value ((s.direct + pa) % 2 ^ 64) ≡ r → is_among r s.randoms ≡ false
    → option_map Encoded (find (is_encoded s w pa) s.randoms) ≡ None
is_no_one s w pa r is among = ap (option_map Encoded) (found_from s w pa s.randoms r is ∙ ap (λ (b : Bool). if b then Some r else None) among)

-- a number that the filter lacks is none of them
pub filtered : (filter : List Bool) (randoms : List ℕ) (r : ℕ) → list_all (has_bit filter) randoms ≡ true → has_bit filter r ≡ false → is_among r randoms ≡ false
filtered filter [] r all lacks = refl
filtered filter (x ∷ xs) r all lacks =
    let parts = and_parts (has_bit filter x) (list_all (has_bit filter) xs) all in
    elim (eqb_tells x r) [
      | inl same ↦ let has : has_bit filter r ≡ true = subst (λ (n : ℕ). has_bit filter n ≡ true) same.1 parts.0 in absurd (let both : ⊥ = cc in both)
      | inr other ↦ ap (λ (b : Bool). b || is_among r xs) other.0 ∙ filtered filter xs r parts.1 lacks
    ]

-- one bit more in a filter
kept : (filter : List Bool) (i x : ℕ) → i < length filter → has_bit filter x ≡ true → has_bit (slice_set filter i true) x ≡ true
kept filter i x inside has =
    elim (eqb_tells (x % 65536) i) [
      | inl same ↦ ap (λ (j : ℕ). get_or (slice_set filter i true) j false) same.1 ∙ get_or-set_same filter i true false inside
      | inr other ↦ get_or-set_other filter i (x % 65536) true false other.1 ∙ has
    ]

all_kept : (filter : List Bool) (i : ℕ) (randoms : List ℕ) → i < length filter → list_all (has_bit filter) randoms ≡ true → list_all (has_bit (slice_set filter i true)) randoms ≡ true
all_kept filter i [] inside all = refl
all_kept filter i (x ∷ xs) inside all =
    let parts = and_parts (has_bit filter x) (list_all (has_bit filter) xs) all in
    and_from (has_bit (slice_set filter i true) x) (list_all (has_bit (slice_set filter i true)) xs) (kept filter i x inside parts.0) (all_kept filter i xs inside parts.1)

pub one_bit_more : (filter : List Bool) (randoms : List ℕ) (k : ℕ) → k < length randoms → get_or randoms k 0 % 65536 < length filter
    → list_all (has_bit filter) (take k randoms) ≡ true
    → list_all (has_bit (slice_set filter (get_or randoms k 0 % 65536) true)) (take (k + 1) randoms) ≡ true
one_bit_more filter randoms k below inside all =
    let i = get_or randoms k 0 % 65536 in
    ap (list_all (has_bit (slice_set filter i true))) (take_more randoms k 0 below)
    ∙ list_all-append (has_bit (slice_set filter i true)) (take k randoms) (get_or randoms k 0 ∷ [])
    ∙ and_from (list_all (has_bit (slice_set filter i true)) (take k randoms)) (list_all (has_bit (slice_set filter i true)) (get_or randoms k 0 ∷ []))
    (all_kept filter i (take k randoms) inside all)
    (and_from (has_bit (slice_set filter i true) (get_or randoms k 0)) true (get_or-set_same filter i true false inside) refl)
