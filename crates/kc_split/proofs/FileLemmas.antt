-- What a file of two sections is read as.
use Rattle.std.proofs.Common.{◌≡◌, ℕ, zero, suc, ◌+◌, ◌-◌, ◌^◌, ◌<◌, true, false, List, ◌++◌, length, get_or, map, drop, take, slice_range, subst, Option, Some, None, Result, Ok, cond, ap, ◌∙◌, sym, refl, arith, nat_le, nat_lt}
use Rattle.std.specs.Prelude.{All, IsTrue}
use Rattle.std.specs.List.{flat_map}
use Rattle.std.proofs.lemmas.List.{length-append, length-map, drop-drop, drop_at, take_all}
use Rattle.std.proofs.lemmas.Bool.{le-ltb, le-leb}
use Rattle.kc_btf.specs.declared.stop.BtfFault.{BtfFault}
use Rattle.kc_btf.specs.declared.stop.BRule.TheVariants.{B5}
use Rattle.kc_btf.specs.Numbers.{word, words}
use Rattle.kc_btf.specs.Answers.{unless, first_of}
use Rattle.kc_btf.specs.Header.{types_at, types_end, strings_at, strings_end, string_section, are_strings, are_sections_inside, sections_fault, strings_fault, header_fault}
use Rattle.kc_btf.specs.Records.{Record, record_at, places, refers_inside}
use Rattle.kc_btf.specs.Btf.{Types, btf, types_of, outside_fault}
use Rattle.kc_btf.specs.Spelling.{spelled, HasForm}
use Rattle.kc_split.specs.File.{header_numbers, header_bytes, file_of}
use Rattle.kc_split.proofs.BackLemmas.{words-back, length-numbers, placed}
use Rattle.kc_split.proofs.MoreLemmas.{none_outside}

small : (types strings : ℕ) → types < 2 ^ 32 → strings < 2 ^ 32 → All (λ n. n < 2 ^ 32) (header_numbers types strings)
small types strings a b zero d within = omega arith
small types strings a b (suc zero) d within = omega arith
small types strings a b (suc (suc zero)) d within = omega arith
small types strings a b (suc (suc (suc zero))) d within = a
small types strings a b (suc (suc (suc (suc zero)))) d within = a
small types strings a b (suc (suc (suc (suc (suc zero))))) d within = b
small types strings a b (suc (suc (suc (suc (suc (suc k)))))) d within = absurd (omega arith)

-- where the sections of the file lie
pub record AreSections (types strings : List ℕ) : Type 0 where
  pub header : word (file_of types strings) 4 ≡ 24
  pub types_at : types_at (file_of types strings) ≡ 24
  pub types_end : types_end (file_of types strings) ≡ 24 + length types
  pub strings_at : strings_at (file_of types strings) ≡ 24 + length types
  pub strings_end : strings_end (file_of types strings) ≡ 24 + length types + length strings

pub are_sections : (types strings : List ℕ) → length types < 2 ^ 32 → length strings < 2 ^ 32 → AreSections types strings
unfolding words
are_sections types strings a b =
    let file = file_of types strings in
    let all : words 6 file 0 ≡ header_numbers (length types) (length strings) = words-back (header_numbers (length types) (length strings)) 0 file (types ++ strings) (small (length types) (length strings) a b) refl in
    let header : word file 4 ≡ 24 = ap (λ ns. get_or ns 1 0) all in
    let type_off : word file 8 ≡ 0 = ap (λ ns. get_or ns 2 0) all in
    let type_len : word file 12 ≡ length types = ap (λ ns. get_or ns 3 0) all in
    let str_off : word file 16 ≡ length types = ap (λ ns. get_or ns 4 0) all in
    let str_len : word file 20 ≡ length strings = ap (λ ns. get_or ns 5 0) all in
    record {
      header = header;
      types_at = omega arith;
      types_end = omega arith;
      strings_at = omega arith;
      strings_end = omega arith;
    }

-- what stands behind the header
rest_of : (types strings : List ℕ) → drop 24 (file_of types strings) ≡ types ++ strings
rest_of types strings = drop_at (header_bytes (length types) (length strings)) (types ++ strings) 24 (length-numbers (header_numbers (length types) (length strings)))

length-file : (types strings : List ℕ) → length (file_of types strings) ≡ 24 + (length types + length strings)
length-file types strings =
    omega (arith, length-append (header_bytes (length types) (length strings)) (types ++ strings), length-numbers (header_numbers (length types) (length strings)), length-append types strings)

strings-back : (types strings : List ℕ) → AreSections types strings → string_section (file_of types strings) ≡ strings
strings-back types strings is =
    let file = file_of types strings in
    let size : 24 + length types + length strings - (24 + length types) ≡ length strings = omega arith in
    ap (λ at. slice_range file at (strings_end file)) is.strings_at
    ∙ ap (λ end. slice_range file (24 + length types) end) is.strings_end
    ∙ ap (λ n. take n (drop (24 + length types) file)) size
    ∙ ap (take (length strings)) (sym (drop-drop (length types) 24 file))
    ∙ ap (λ xs. take (length strings) (drop (length types) xs)) (rest_of types strings)
    ∙ ap (take (length strings)) (drop_at types strings (length types) refl)
    ∙ take_all (length strings) strings (omega arith)

-- its header breaks no rule
sound : (types strings : List ℕ) → AreSections types strings → sections_fault (file_of types strings) ≡ None
unfolding sections_fault
sound types strings is =
    let file = file_of types strings in
    let size = length-file types strings in
    let long : nat_lt (length file) 24 ≡ false = le-ltb (length file) 24 (omega arith) in
    let header : nat_le 24 (word file 4) ≡ true = le-leb 24 (word file 4) (omega (arith, is.header)) in
    let types_inside : nat_le (types_end file) (length file) ≡ true = le-leb (types_end file) (length file) (omega (arith, is.types_end)) in
    let strings_inside : nat_le (strings_end file) (length file) ≡ true = le-leb (strings_end file) (length file) (omega (arith, is.strings_end)) in
    let inside : are_sections_inside file ≡ true = rw (header, types_inside, strings_inside) refl in
    rw (long, inside) refl

headed : (types strings : List ℕ) → AreSections types strings → are_strings strings ≡ true → header_fault (file_of types strings) ≡ None
unfolding header_fault
headed types strings is are =
    let file = file_of types strings in
    let fault : strings_fault are_strings file ≡ None =
    ap (λ s. cond (are_strings s) None (Some (record { rule = B5; at = strings_at file }))) (strings-back types strings is)
    ∙ ap (λ t. cond t None (Some (record { rule = B5; at = strings_at file }))) are in
    ap (λ f. first_of f (strings_fault are_strings file)) (sound types strings is) ∙ fault

-- records and strings in a file are read as those
pub read_back : (rs : List Record) (strings : List ℕ) → All HasForm rs → All (λ r. IsTrue (refers_inside (length strings) (length rs) r)) rs → are_strings strings ≡ true →
    length (flat_map spelled rs) < 2 ^ 32 → length strings < 2 ^ 32 → btf (file_of (flat_map spelled rs) strings) ≡ Ok (record { records = rs; strings = strings })
read_back rs strings form inside are a b =
    let types = flat_map spelled rs in
    let file = file_of types strings in
    let is = are_sections types strings a b in
    let size = length-file types strings in
    let here = placed rs (length file) 24 (24 + length types) file strings form (rest_of types strings) refl (omega arith) in
    let ps = here.0 in
    let same = here.1.same in
    let count : length ps ≡ length rs = sym (length-map ps (record_at file)) ∙ ap length same in
    let text = strings-back types strings is in
    let refer : List Record → Type 0 = λ xs. All (λ r. IsTrue (refers_inside (length strings) (length rs) r)) xs in
    let none = none_outside file (length strings) (length rs) ps (subst refer (sym same) inside) in
    let judged : ℕ → ℕ → List Record → List ℕ → Result Types BtfFault = λ limit n xs ss. unless (outside_fault file limit n ps) (Ok (record { records = xs; strings = ss })) in
    let at : ℕ → ℕ → Result Types BtfFault = λ at end. types_of file (places (length file) file at end) in
    ap (λ (f : Option BtfFault). unless f (at (types_at file) (types_end file))) (headed types strings is are)
    ∙ ap (λ x. at x (types_end file)) is.types_at
    ∙ ap (λ x. at 24 x) is.types_end
    ∙ ap (types_of file) here.1.found
    ∙ ap (λ ss. judged (length ss) (length ps) (map (record_at file) ps) ss) text
    ∙ ap (λ n. judged (length strings) n (map (record_at file) ps) strings) count
    ∙ ap (λ xs. judged (length strings) (length rs) xs strings) same
    ∙ ap (λ (f : Option BtfFault). unless f (Ok (record { records = rs; strings = strings }))) none
