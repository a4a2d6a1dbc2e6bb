-- From the parts of a reading to the records of a module.
use Rattle.std.proofs.Common.{Result, ◌≡◌, ℕ, ◌+◌, ◌-◌, List, length, map, drop, slice_range, subst, Option, None, Ok, ap, ◌∙◌, sym, arith}
use Rattle.std.specs.Prelude.{All, IsTrue}
use Rattle.std.specs.List.{flat_map}
use Rattle.std.proofs.lemmas.List.{length-map, length-take-le, length-drop}
use Rattle.std.proofs.lemmas.List.Elements.{All-map}
use Rattle.std.proofs.lemmas.Simd.{map-map}
use Rattle.kc_btf.specs.declared.header.Header.{Header}
use Rattle.kc_btf.specs.declared.stop.BtfFault.{BtfFault}
use Rattle.kc_btf.specs.Answers.{unless, first_of}
use Rattle.kc_btf.specs.Btf.{Types, outside_fault}
use Rattle.kc_btf.specs.Header.{types_at, types_end, strings_at, type_section, string_section, sections_fault, strings_fault, IsHeader, AreInside}
use Rattle.kc_btf.specs.Records.{Record, record_at, places, refers_inside}
use Rattle.kc_btf.specs.Spelling.{spelled, HasForm}
use Rattle.kc_split.specs.Split.{are_more_strings, records_of, split, IsSplit}

-- what is known once the places of the records are in a table
pub record IsTabled (bytes : List ℕ) (header : Header) (table : List ℕ) : Type 0 where
  pub read : IsHeader bytes header
  pub inside : AreInside bytes header
  pub sound : first_of (sections_fault bytes) (strings_fault are_more_strings bytes) ≡ None
  pub places : places (length bytes) bytes header.types header.types_end ≡ Ok (map (λ place. header.types + place) table)

-- the sections by the header
pub types-section : (bytes : List ℕ) (header : Header) → IsHeader bytes header → slice_range bytes header.types header.types_end ≡ type_section bytes
types-section bytes header is = ap (λ at. slice_range bytes at header.types_end) is.types ∙ ap (λ end. slice_range bytes (types_at bytes) end) is.types_end

pub strings-section : (bytes : List ℕ) (header : Header) → IsHeader bytes header → slice_range bytes header.strings header.strings_end ≡ string_section bytes
strings-section bytes header is = ap (λ at. slice_range bytes at header.strings_end) is.strings ∙ ap (λ end. slice_range bytes (strings_at bytes) end) is.strings_end

pub length-strings : (bytes : List ℕ) (header : Header) → IsHeader bytes header → AreInside bytes header → length (string_section bytes) ≡ header.strings_end - header.strings
length-strings bytes header is inside =
    ap length (sym (strings-section bytes header is)) ∙ length-take-le (header.strings_end - header.strings) (drop header.strings bytes) (simp length-drop (omega (arith, inside.strings_end)))

-- the records of a table
abbrev pub there : List ℕ → Header → List ℕ → List Record
there bytes header table = map (λ place. record_at bytes (header.types + place)) table

pub split-table : (base : Types) (bytes : List ℕ) (header : Header) (table : List ℕ) → IsTabled bytes header table →
    split base bytes ≡ unless (outside_fault bytes (length base.strings + (header.strings_end - header.strings)) (length base.records + length table) (map (λ place. header.types + place) table)) (Ok (there bytes header table))
split-table base bytes header table is =
    let shift : ℕ → ℕ = λ place. header.types + place in
    let at : ℕ → ℕ → Result (List Record) BtfFault = λ at end. records_of base bytes (places (length bytes) bytes at end) in
    let judged : ℕ → ℕ → List Record → Result (List Record) BtfFault = λ limit count rs. unless (outside_fault bytes (length base.strings + limit) (length base.records + count) (map shift table)) (Ok rs) in
    let count : length (map shift table) ≡ length table = simp length-map in
    let records : map (record_at bytes) (map shift table) ≡ there bytes header table = simp map-map in
    ap (λ (fault : Option BtfFault). unless fault (at (types_at bytes) (types_end bytes))) is.sound
    ∙ ap (λ x. at x (types_end bytes)) (sym is.read.types)
    ∙ ap (λ x. at header.types x) (sym is.read.types_end)
    ∙ ap (records_of base bytes) is.places
    ∙ ap (λ n. judged n (length (map shift table)) (map (record_at bytes) (map shift table))) (length-strings bytes header is.read is.inside)
    ∙ ap (λ n. judged (header.strings_end - header.strings) n (map (record_at bytes) (map shift table))) count
    ∙ ap (λ rs. judged (header.strings_end - header.strings) (length table) rs) records

-- what is known of the records where none refers to what isn't there
pub are_split : (base : Types) (bytes : List ℕ) (header : Header) (table : List ℕ) → IsTabled bytes header table →
    flat_map spelled (there bytes header table) ≡ slice_range bytes header.types header.types_end → All HasForm (there bytes header table) →
    outside_fault bytes (length base.strings + (header.strings_end - header.strings)) (length base.records + length table) (map (λ place. header.types + place) table) ≡ None →
    All (λ place. IsTrue (refers_inside (length base.strings + (header.strings_end - header.strings)) (length base.records + length table) (record_at bytes (header.types + place)))) table →
    IsSplit base bytes
are_split base bytes header table is written form none refer =
    let rs = there bytes header table in
    let count : length table ≡ length rs = sym (length-map table (λ place. record_at bytes (header.types + place))) in
    let limit = sym (length-strings bytes header is.read is.inside) in
    let inside : ℕ → ℕ → Record → Type 0 = λ strings types r. IsTrue (refers_inside (length base.strings + strings) (length base.records + types) r) in
    let here : All (inside (header.strings_end - header.strings) (length table)) rs = All-map (inside (header.strings_end - header.strings) (length table)) (λ place. record_at bytes (header.types + place)) table refer in (
      rs,
      record {
        read = split-table base bytes header table is ∙ ap (λ (f : Option BtfFault). unless f (Ok rs)) none;
        spelled = written ∙ types-section bytes header is.read;
        form = form;
        inside = subst (λ n. All (inside n (length rs)) rs) limit (subst (λ n. All (inside (header.strings_end - header.strings) n) rs) count here);
      },
    )
