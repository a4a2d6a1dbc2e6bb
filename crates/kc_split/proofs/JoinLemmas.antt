-- The file of a kernel's sections with a module's is read as the types of both.
use Rattle.std.proofs.Common.{◌≡◌, ℕ, ◌+◌, ◌^◌, ◌<◌, Bool, true, false, ◌||◌, List, ◌++◌, length, get_or, slice_range, Result, Ok, Err, cond, ap, ◌∙◌, sym, refl, arith, subst}
use Rattle.std.specs.Prelude.{All, IsTrue}
use Rattle.std.specs.List.{flat_map}
use Rattle.std.proofs.lemmas.List.{length-append}
use Rattle.std.proofs.lemmas.List.Elements.{All-append}
use Rattle.std.proofs.lemmas.Grind.{flat_map-append}
use Rattle.std.proofs.lemmas.Bool.Decides.{nat_tests}
use Rattle.kc_btf.specs.declared.stop.BtfFault.{BtfFault}
use Rattle.kc_btf.specs.Btf.{Types, btf, RefersInside}
use Rattle.kc_btf.specs.Header.{type_section, string_section, are_strings, IsHeader}
use Rattle.kc_btf.specs.Records.{Record, refers_inside}
use Rattle.kc_btf.specs.Spelling.{spelled, HasForm}
use Rattle.kc_split.specs.Split.{are_more_strings, string_limit, type_limit, AreSplit}
use Rattle.kc_split.specs.declared.stop.SplitStop.{SplitStop}
use Rattle.kc_split.specs.Join.{with_module, is_too_long, are_too_long}
use Rattle.kc_split.specs.File.{file_of}
use Rattle.kc_split.proofs.MoreLemmas.{refers-more, strings-more}
use Rattle.kc_split.proofs.FileLemmas.{read_back}
use Rattle.kc_split.proofs.SplitLemmas.{types-section, strings-section}
use Rattle.kc_split.specs.declared.stop.SplitStop.TheVariants.{TooLong}
use Rattle.kc_btf.specs.declared.header.Header.{Header}
use Rattle.kc_btf.specs.Whole.{AreOfAFile}

pub joined : (base : Types) (bytes : List ℕ) (records : List Record) → All HasForm base.records → All (RefersInside base) base.records → are_strings base.strings ≡ true →
    AreSplit base bytes records → are_more_strings (string_section bytes) ≡ true →
    length (flat_map spelled base.records) + length (type_section bytes) < 2 ^ 32 → length base.strings + length (string_section bytes) < 2 ^ 32 →
    btf (file_of (flat_map spelled base.records ++ type_section bytes) (base.strings ++ string_section bytes)) ≡ Ok (with_module base bytes records)
joined base bytes records form inside are is more a b =
    let rs = base.records ++ records in
    let strings = base.strings ++ string_section bytes in
    let Inside : ℕ → ℕ → Record → Type 0 = λ s t r. IsTrue (refers_inside s t r) in
    let text = length-append base.strings (string_section bytes) in
    let count = length-append base.records records in
    let own : All (Inside (string_limit base bytes) (type_limit base (length records))) base.records = λ k d within.
    refers-more (length base.strings) (length base.records) (string_limit base bytes) (type_limit base (length records)) (get_or base.records k d) (omega arith) (omega arith) (inside k d within) in
    let both : All (Inside (string_limit base bytes) (type_limit base (length records))) rs = All-append (Inside (string_limit base bytes) (type_limit base (length records))) base.records records own is.inside in
    let here : All (Inside (length strings) (length rs)) rs =
    subst (λ t. All (Inside (length strings) t) rs) (sym count) (subst (λ s. All (Inside s (type_limit base (length records))) rs) (sym text) both) in
    let types : flat_map spelled rs ≡ flat_map spelled base.records ++ type_section bytes = flat_map-append spelled base.records records ∙ ap (λ xs. flat_map spelled base.records ++ xs) is.spelled in
    let size = length-append (flat_map spelled base.records) (type_section bytes) in
    let sizes : length (flat_map spelled rs) ≡ length (flat_map spelled base.records ++ type_section bytes) = ap length types in
    ap (λ ts. btf (file_of ts strings)) (sym types)
    ∙ read_back rs strings (All-append HasForm base.records records form is.form) here (strings-more base.strings (string_section bytes) are more) (omega arith) (omega arith)

-- lengths that fit
pub fit : (a b c d : ℕ) → (is_too_long a b || is_too_long c d) ≡ false → (a + b < 2 ^ 32) × (c + d < 2 ^ 32)
fit a b c d short = (grind (arith, nat_tests), grind (arith, nat_tests))

-- a file that was made
pub made : (long : Bool) (file items : List ℕ) (stop : SplitStop) → cond long (Err stop) (Ok file) ≡ Ok items → (long ≡ false) × (file ≡ items)
made true file items stop is = let none : ⊥ = cc in absurd none
made false file items stop is = (refl, cc)

-- a reading has one answer
pub answered : (r : Result Types BtfFault) (x y : Types) → r ≡ Ok x → r ≡ Ok y → x ≡ y
answered r x y is too = cc

pub refused : (r : Result Types BtfFault) (x : Types) (fault : BtfFault) → r ≡ Ok x → r ≡ Err fault → ⊥
refused r x fault is too = cc

-- a file that was made of both is read as the types of both
pub record IsMade (base : Types) (bytes items : List ℕ) (records : List Record) : Type 0 where
  pub short : are_too_long base bytes ≡ false
  pub read : btf items ≡ Ok (with_module base bytes records)

pub is_made : (base : Types) (bytes items : List ℕ) (header : Header) (records : List Record) → AreOfAFile base → are_strings base.strings ≡ true →
    IsHeader bytes header → AreSplit base bytes records → are_more_strings (string_section bytes) ≡ true →
    (let types = slice_range bytes header.types header.types_end in
    let strings = slice_range bytes header.strings header.strings_end in
    cond (is_too_long (length (flat_map spelled base.records)) (length types) || is_too_long (length base.strings) (length strings)) (Err TooLong)
    (Ok (file_of (flat_map spelled base.records ++ types) (base.strings ++ strings))) ≡ Ok items) →
    IsMade base bytes items records
is_made base bytes items header records own are head is more gave =
    let types = types-section bytes header head in
    let strings = strings-section bytes header head in
    let long = is_too_long (length (flat_map spelled base.records)) (length (type_section bytes)) || is_too_long (length base.strings) (length (string_section bytes)) in
    let file = file_of (flat_map spelled base.records ++ type_section bytes) (base.strings ++ string_section bytes) in
    let given : cond long (Err TooLong) (Ok file) ≡ Ok items = rw (types, strings) at gave in
    let it = made long file items TooLong given in
    let fits = fit (length (flat_map spelled base.records)) (length (type_section bytes)) (length base.strings) (length (string_section bytes)) it.0 in
    record {
      short = it.0;
      read = ap btf (sym it.1) ∙ joined base bytes records own.1.form own.1.inside are is more fits.0 fits.1;
    }
