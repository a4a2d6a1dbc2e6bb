-- From the parts of a reading to the types of the file.
use Rattle.std.proofs.Common.{Result, ◌≡◌, ℕ, zero, suc, ◌+◌, ◌-◌, ◌<◌, ◌≤◌, Bool, true, false, not, List, [], ◌∷◌, length, map, get_or, drop, slice_range, subst, Option, Some, None, option_map, cond, Ok, ap, ◌∙◌, sym, refl, arith}
use Rattle.std.specs.List.{find, flat_map}
use Rattle.std.proofs.lemmas.List.{length-map, length-take, length-take-le, length-drop}
use Rattle.std.proofs.lemmas.Simd.{map-map}
use Rattle.kc_btf.specs.declared.header.Header.{Header}
use Rattle.kc_btf.specs.declared.stop.BtfFault.{BtfFault}
use Rattle.kc_btf.specs.declared.stop.BRule.TheVariants.{B8}
use Rattle.kc_btf.specs.Answers.{unless}
use Rattle.kc_btf.specs.Header.{header_fault, types_at, types_end, strings_end, string_section, type_section, IsHeader, IsInside}
use Rattle.kc_btf.specs.Records.{Record, record_at, places, refers_inside, IsRecord}
use Rattle.kc_btf.specs.Btf.{Types, btf, types_of, outside_fault, RefersInside}
use Rattle.kc_btf.specs.Kept.{kept}
use Rattle.kc_btf.specs.Spelling.{spelled, HasForm}
use Rattle.kc_btf.proofs.SpellingLemmas.{IsBytes, spelled-places, form-record_at}
use Rattle.std.specs.Prelude.{All, IsTrue}
use Rattle.std.proofs.lemmas.List.Elements.{All-map}
use Rattle.std.proofs.lemmas.List.Folds.{flat_map-map}

-- what is known once the places of the records are in a table
pub record IsTabled (bytes : List ℕ) (header : Header) (table : List ℕ) : Type 0 where
  pub read : IsHeader bytes header
  pub inside : IsInside bytes header
  pub sound : header_fault bytes ≡ None
  pub places : places (length bytes) bytes header.types header.types_end ≡ Ok (map (λ place. header.types + place) table)

-- a header that breaks no rule
pub btf-header : (bytes : List ℕ) (header : Header) → IsHeader bytes header → header_fault bytes ≡ None → btf bytes ≡ types_of bytes (places (length bytes) bytes header.types header.types_end)
btf-header bytes header is none =
    ap (λ (fault : Option BtfFault). unless fault (types_of bytes (places (length bytes) bytes (types_at bytes) (types_end bytes)))) none
    ∙ ap (λ at. types_of bytes (places (length bytes) bytes at (types_end bytes))) (sym is.types)
    ∙ ap (λ end. types_of bytes (places (length bytes) bytes header.types end)) (sym is.types_end)

-- the strings by the header
section : (bytes : List ℕ) (header : Header) → IsHeader bytes header → string_section bytes ≡ slice_range bytes header.strings header.strings_end
section bytes header is =
    ap (λ at. slice_range bytes at (strings_end bytes)) (sym is.strings) ∙ ap (λ end. slice_range bytes header.strings end) (sym is.strings_end)

pub length-strings : (bytes : List ℕ) (header : Header) → IsInside bytes header → length (slice_range bytes header.strings header.strings_end) ≡ header.strings_end - header.strings
length-strings bytes header is = length-take-le (header.strings_end - header.strings) (drop header.strings bytes) (simp length-drop (omega arith))

-- a part of a file is no longer than the file
pub part_short : (at end : ℕ) (bytes : List ℕ) → length (slice_range bytes at end) ≤ length bytes
part_short at end bytes = omega (arith, length-take (end - at) (drop at bytes), length-drop at bytes)

-- the records of a table
pub btf-table : (bytes : List ℕ) (header : Header) (table : List ℕ) → IsTabled bytes header table →
    btf bytes ≡ unless (outside_fault bytes (header.strings_end - header.strings) (length table) (map (λ place. header.types + place) table)) (Ok (kept bytes header table))
btf-table bytes header table is =
    let shift : ℕ → ℕ = λ place. header.types + place in
    let there = map (record_at bytes) (map shift table) in
    let judged : ℕ → ℕ → List Record → List ℕ → Result Types BtfFault = λ limit count rs ss. unless (outside_fault bytes limit count (map shift table)) (Ok (record { records = rs; strings = ss })) in
    let count : length (map shift table) ≡ length table = simp length-map in
    let records : there ≡ map (λ place. record_at bytes (header.types + place)) table = simp map-map in
    let strings = section bytes header is.read in
    let limit = ap length strings ∙ length-strings bytes header is.inside in
    btf-header bytes header is.read is.sound
    ∙ ap (types_of bytes) is.places
    ∙ ap (λ n. judged n (length (map shift table)) there (string_section bytes)) limit
    ∙ ap (λ n. judged (header.strings_end - header.strings) n there (string_section bytes)) count
    ∙ ap (λ rs. judged (header.strings_end - header.strings) (length table) rs (string_section bytes)) records
    ∙ ap (judged (header.strings_end - header.strings) (length table) (map (λ place. record_at bytes (header.types + place)) table)) strings

-- the first of places, where no fault was found
passes : (b : Bool) (place : ℕ) (rest : Option ℕ) (fault : ℕ → BtfFault) → option_map fault (cond (not b) (Some place) rest) ≡ None → (b ≡ true) × (option_map fault rest ≡ None)
passes true place rest fault none = (refl, none)
passes false place rest fault none = let no_fault : ⊥ = cc in absurd no_fault

-- no record refers outside
pub none-outside : (bytes : List ℕ) (strings count types : ℕ) (table : List ℕ) → outside_fault bytes strings count (map (λ place. types + place) table) ≡ None →
    (k d : ℕ) → k < length table → refers_inside strings count (record_at bytes (types + get_or table k d)) ≡ true
none-outside bytes strings count types [] none k d more = absurd (omega arith)
none-outside bytes strings count types (x ∷ xs) none zero d more = (passes (refers_inside strings count (record_at bytes (types + x))) (types + x)
    (find (λ place. not (refers_inside strings count (record_at bytes place))) (map (λ place. types + place) xs)) (λ place. record { rule = B8; at = place }) none).0
none-outside bytes strings count types (x ∷ xs) none (suc k) d more =
    let rest = passes (refers_inside strings count (record_at bytes (types + x))) (types + x)
    (find (λ place. not (refers_inside strings count (record_at bytes place))) (map (λ place. types + place) xs)) (λ place. record { rule = B8; at = place }) none in
    none-outside bytes strings count types xs rest.1 k d (omega arith)

-- the records of a table, written out
pub spelled-table : (bytes : List ℕ) (types end : ℕ) (table : List ℕ) → IsBytes bytes → types ≤ end → end ≤ length bytes → places (length bytes) bytes types end ≡ Ok (map (λ place. types + place) table) →
    flat_map spelled (map (λ place. record_at bytes (types + place)) table) ≡ slice_range bytes types end
spelled-table bytes types end table fit order within found =
    let shift : ℕ → ℕ = λ place. types + place in
    flat_map-map spelled (λ place. record_at bytes (types + place)) table
    ∙ sym (flat_map-map (λ place. spelled (record_at bytes place)) shift table)
    ∙ spelled-places (length bytes) types end bytes (map shift table) fit within order (omega arith) found

-- and each has a form
pub form-table : (bytes : List ℕ) (types : ℕ) (table : List ℕ) → IsBytes bytes → All (λ place. IsRecord bytes (types + place)) table → All HasForm (map (λ place. record_at bytes (types + place)) table)
form-table bytes types table fit found =
    All-map HasForm (λ place. record_at bytes (types + place)) table (λ k d more. form-record_at bytes (types + get_or table k d) fit (found k d more))

-- the types that are kept, written out
pub spelled-kept : (bytes : List ℕ) (header : Header) (table : List ℕ) → IsBytes bytes → IsTabled bytes header table → flat_map spelled (kept bytes header table).records ≡ type_section bytes
spelled-kept bytes header table fit is =
    spelled-table bytes header.types header.types_end table fit is.inside.types is.inside.types_end is.places
    ∙ ap (λ at. slice_range bytes at header.types_end) is.read.types
    ∙ ap (λ end. slice_range bytes (types_at bytes) end) is.read.types_end

-- a record stands at each place of a table
abbrev pub AreRecords : List ℕ → Header → List ℕ → Type 0
AreRecords bytes header table = All (λ place. IsRecord bytes (header.types + place)) table

-- and refers to what is there
abbrev pub ReferInside : List ℕ → Header → List ℕ → Type 0
ReferInside bytes header table =
    All (λ place. IsTrue (refers_inside (length (slice_range bytes header.strings header.strings_end)) (length table) (record_at bytes (header.types + place)))) table

pub form-kept : (bytes : List ℕ) (header : Header) (table : List ℕ) → IsBytes bytes → AreRecords bytes header table → All HasForm (kept bytes header table).records
form-kept bytes header table fit found = form-table bytes header.types table fit found

pub inside-kept : (bytes : List ℕ) (header : Header) (table : List ℕ) → ReferInside bytes header table → All (RefersInside (kept bytes header table)) (kept bytes header table).records
inside-kept bytes header table refer =
    let count : length (kept bytes header table).records ≡ length table = simp length-map in
    let strings = length (kept bytes header table).strings in
    All-map (RefersInside (kept bytes header table)) (λ place. record_at bytes (header.types + place)) table
    (λ k d more. subst (λ n. refers_inside strings n (record_at bytes (header.types + get_or table k d)) ≡ true) (sym count) (refer k d more))
