-- From a mask of 16 bytes to those in front that are bytes of a name.
use Rattle.std.proofs.Common.{◌≡◌, ℕ, suc, ◌+◌, ◌%◌, ◌^◌, ◌≤◌, eqb, ltb, Bool, true, false, not, cond, bit_or, List, [], ◌∷◌, map, length, take, drop, replicate, refl, sym, ap, ◌∙◌, arith}
use Rattle.std.proofs.lemmas.Bool.Decides.{nat_tests}
use Rattle.std.proofs.lemmas.Simd.{first_set_mask_l, length-chunk, map-map, mask_l-mod, splat_is_map, zip2_of_maps, zip2_splat}
use Rattle.std.proofs.lemmas.List.{length-map, map-id, take-take}
use Rattle.std.proofs.lemmas.List.Folds.{list_all-append}
use Rattle.std.proofs.lemmas.List.Sums.{prefix_len-le-length}
use Rattle.std.proofs.Math.Seq.{take-add}
use Rattle.std.specs.Int.{trailing_zeros, w64}
use Rattle.std.specs.List.{list_all, prefix_len}
use lib.Lanes.{chunk, mask_l, top, zip2}
use Rattle.kc_syms.specs.Rows.{is_name_byte}

-- those in front that pass a test pass a wider one
passing : (p q : ℕ → Bool) → ((x : ℕ) → p x ≡ true → q x ≡ true) → (xs : List ℕ) → list_all q (take (prefix_len p xs) xs) ≡ true
passing p q wider [] = refl
passing p q wider (x ∷ xs) = one (p x) (prefix_len p xs) refl (passing p q wider xs)
  where
    one : (b : Bool) (n : ℕ) → p x ≡ b → list_all q (take n xs) ≡ true → list_all q (take (cond b (1 + n) 0) (x ∷ xs)) ≡ true
    one true n is rest = let next : 1 + n ≡ suc n = omega arith in rw next (rw (wider x is, rest))
    one false n is rest = refl

-- a lane whose test holds
abbrev lane : Bool → ℕ
lane test = cond test 255 0

-- the lane of a byte that ends a name
abbrev stops : ℕ → ℕ
stops x = bit_or (lane (ltb x 33)) (lane (ltb 126 x))

neither : (a b : Bool) → not (top 7 (bit_or (lane a) (lane b))) ≡ true → (a ≡ false) × (b ≡ false)
neither true true is = cc
neither true false is = cc
neither false true is = cc
neither false false is = (refl, refl)

goes_on : (x : ℕ) → not (top 7 (stops x)) ≡ true → is_name_byte x ≡ true
goes_on x is =
    let both = neither (ltb x 33) (ltb 126 x) is in
    let low : ltb x 33 ≡ false = both.0 in
    let high : ltb 126 x ≡ false = both.1 in
    grind (arith, nat_tests)

module _ (d : List ℕ) (i r : ℕ) (room : i + 16 ≤ length d) where
  -- the lanes of the 16 bytes
  abbrev lanes : List ℕ
  lanes =
      zip2 bit_or (zip2 (λ a b. lane (ltb a b)) (chunk i 16 d) (replicate 16 33)) (zip2 (λ a b. lane (ltb a b)) (replicate 16 126) (chunk i 16 d))

  module _ (found : r ≡ cond (eqb (mask_l (map (top 7) lanes) % 2 ^ 64) 0) 16 (trailing_zeros w64 (mask_l (map (top 7) lanes) % 2 ^ 64))) where
    counted : r ≡ prefix_len (λ x. not (top 7 (stops x))) (chunk i 16 d)
    counted =
        let v = chunk i 16 d in
        let long : length v ≡ 16 = length-chunk i 16 d room in
        let above = zip2_of_maps (λ a b. lane (ltb a b)) (λ _. 126) (λ x. x) v (splat_is_map v 16 126 long) (sym (map-id v)) in
        let whole : lanes ≡ map stops v = zip2_of_maps bit_or (λ x. lane (ltb x 33)) (λ x. lane (ltb 126 x)) v (zip2_splat (λ a b. lane (ltb a b)) v 16 33 long) above in
        let mask : mask_l (map (top 7) lanes) % 2 ^ 64 ≡ mask_l (map (λ x. top 7 (stops x)) v) =
        ap (λ l. mask_l l % 2 ^ 64) (ap (map (top 7)) whole ∙ map-map (top 7) stops v)
        ∙ mask_l-mod (map (λ x. top 7 (stops x)) v) 64 (omega (arith, length-map v (λ x. top 7 (stops x)), long)) in
        found ∙ ap (λ m. cond (eqb m 0) 16 (trailing_zeros w64 m)) mask ∙ first_set_mask_l (λ x. top 7 (stops x)) v 16 long (omega arith)

    pub run-within : r ≤ 16
    run-within = omega (arith, counted, length-chunk i 16 d room, prefix_len-le-length (λ x. not (top 7 (stops x))) (chunk i 16 d))

    pub run-names : list_all is_name_byte (take r (drop i d)) ≡ true
    run-names =
        ap (list_all is_name_byte) (sym (take-take r 16 (drop i d) run-within))
        ∙ ap (λ n. list_all is_name_byte (take n (chunk i 16 d))) counted
        ∙ passing (λ x. not (top 7 (stops x))) is_name_byte goes_on (chunk i 16 d)

-- a run behind a run
pub run-longer : (d : List ℕ) (i r : ℕ) → list_all is_name_byte (take i d) ≡ true → list_all is_name_byte (take r (drop i d)) ≡ true → list_all is_name_byte (take (i + r) d) ≡ true
run-longer d i r front more = rw (take-add i r d, list_all-append is_name_byte (take i d) (take r (drop i d)), front, more)
