-- One row more in the index of names.
use Rattle.std.proofs.Common.{◌≡◌, ◌≢◌, ℕ, zero, suc, ◌+◌, ◌<◌, Bool, true, false, List, [], ◌∷◌, ◌++◌, Result, Ok, Err, OnOk, map, length, get_or, replicate, ◌⊎◌, refl, sym, ap, ◌∙◌, arith, inl, inr}
use Rattle.std.proofs.Math.ListN.{set}
use Rattle.std.specs.Global.{Vec}
use Rattle.std.specs.Str.{bytes_eq}
use Rattle.std.proofs.lemmas.Bool.{cases_eq}
use Rattle.std.proofs.lemmas.List.{get_or-map, get_or-set_other, get_or-set_same, length-map, map-append, map-set, replicate-append-replicate}
use Rattle.std.proofs.lemmas.Slice.Eq.{bytes_eq-Decides}
use Rattle.kc_syms.specs.declared.row.Row.{Row}
use Rattle.kc_syms.specs.Listed.{part_of, parts, put_behind}
use Rattle.kc_syms.specs.Rows.{RowText, addresses}
use Rattle.kc_syms.specs.Views.{row_text}
use Rattle.kc_syms.proofs.ReadLemmas.{addresses-more}

abbrev rows_of : Vec Row → List RowText
rows_of rows = map row_text rows.items

-- names of two parts differ
differ : (name query : List ℕ) → part_of query ≢ part_of name → bytes_eq name query ≡ false
differ name query apart = by (bytes_eq name query) refl
  where
    by : (b : Bool) → bytes_eq name query ≡ b → b ≡ false
    by false is = refl
    by true is = absurd (apart (sym (ap part_of ((bytes_eq-Decides name query).0 is))))

module _ (items : List (Vec Row)) (row : Row) (old now : Vec Row) (query : List ℕ) (part : ℕ) (room : part < length items) where
  -- what a name of the row's part finds
  put_here : part_of query ≡ part → old ≡ get_or items part old → now.items ≡ old.items ++ row ∷ []
      → addresses query (get_or (set (parts items) part (rows_of now)) (part_of query) [])
      ≡ put_behind (bytes_eq row.name.now query) (addresses query (get_or (parts items) (part_of query) [])) row.listed
  put_here here found longer =
      let more : rows_of now ≡ rows_of old ++ row_text row ∷ [] = ap (map row_text) longer ∙ map-append row_text old.items (row ∷ []) in
      let had : get_or (parts items) part [] ≡ rows_of old = get_or-map rows_of items part old [] room ∙ ap rows_of (sym found) in
      let inside : part < length (parts items) = omega (arith, length-map items rows_of) in
      ap (λ i. addresses query (get_or (set (parts items) part (rows_of now)) i [])) here
      ∙ ap (addresses query) (get_or-set_same (parts items) part (rows_of now) [] inside ∙ more)
      ∙ addresses-more query (rows_of old) (row_text row)
      ∙ ap (λ l. put_behind (bytes_eq row.name.now query) (addresses query l) row.listed) (sym had ∙ ap (λ i. get_or (parts items) i []) (sym here))

  -- a row after those of its part
  pub listed-put : part ≡ part_of row.name.now → old ≡ get_or items part old → now.items ≡ old.items ++ row ∷ []
      → addresses query (get_or (parts (set items part now)) (part_of query) [])
      ≡ put_behind (bytes_eq row.name.now query) (addresses query (get_or (parts items) (part_of query) [])) row.listed
  listed-put in_part found longer =
      ap (λ ps. addresses query (get_or ps (part_of query) [])) (map-set rows_of items part now) ∙ by (cases_eq (part_of query) part)
    where
      by : (part_of query ≡ part) ⊎ (part_of query ≡ part → ⊥)
          → addresses query (get_or (set (parts items) part (rows_of now)) (part_of query) [])
          ≡ put_behind (bytes_eq row.name.now query) (addresses query (get_or (parts items) (part_of query) [])) row.listed
      by (inl here) = put_here here found longer
      by (inr apart) =
          ap (addresses query) (get_or-set_other (parts items) part (part_of query) (rows_of now) [] apart)
          ∙ sym (ap (λ b. put_behind b (addresses query (get_or (parts items) (part_of query) [])) row.listed) (differ row.name.now query (λ is. apart (is ∙ sym in_part))))

-- a part more, with no row
pub part-more : (items : List (Vec Row)) (part : Vec Row) (n : ℕ) → parts items ≡ replicate n [] → part.items ≡ [] → parts (items ++ part ∷ []) ≡ replicate (n + 1) []
part-more items part n so_far none =
    let one : parts (part ∷ []) ≡ [] ∷ [] = ap (λ rows. map row_text rows ∷ []) none in
    map-append rows_of items (part ∷ []) ∙ ap (λ ps. ps ++ parts (part ∷ [])) so_far
    ∙ ap (λ ps. replicate n [] ++ ps) one ∙ replicate-append-replicate n 1 []

no_part : (n i : ℕ) → get_or {A = List RowText} (replicate n []) i [] ≡ []
no_part zero i = refl
no_part (suc n) zero = refl
no_part (suc n) (suc i) = no_part n i

-- parts with no row list nothing
pub none_listed : (items : List (Vec Row)) (query : List ℕ) (n : ℕ) → parts items ≡ replicate n [] → addresses query (get_or (parts items) (part_of query) []) ≡ []
none_listed items query n none = ap (λ ps. addresses query (get_or ps (part_of query) [])) none ∙ ap (addresses query) (no_part n (part_of query))

-- what is said on Ok leads to more
pub on_ok : {X E : Type 0} {P Q : Type 0} (result : Result X E) → OnOk result P → (P → Q) → OnOk result Q
on_ok (Ok x) said more = more said
on_ok (Err e) said more = tt
