-- That the lines of a map spell its symbols.
use Rattle.std.proofs.Common.{◌≡◌, ◌≢◌, ◌⊎◌, ℕ, codes, zero, suc, ◌+◌, ◌-◌, ◌/◌, ◌%◌, ◌^◌, ◌<◌, ◌≤◌, ◌==◌, nat_le, nat_lt, Bool, true, false, ◌&&◌, ◌||◌, if◌then◌else◌, List, [], ◌∷◌, ◌++◌, All, length, map, Option, Some, None, is_some, Result, Ok, Err, inl, inr, refl, sym, ap, subst, ◌∙◌, arith}
use Rattle.std.proofs.lemmas.Bool.Decides.{nat_tests}
use Rattle.std.proofs.lemmas.List.Elements.{All-cons, All-nil}
use Rattle.std.specs.List.{list_all}
use Rattle.bstr.specs.Text.{lines_of, without_terminator}
use Rattle.bstr.proofs.lemmas.LineLemmas.{lines-nil}
use Rattle.kc_word.specs.Hex.{hex_digit, hex_digits}
use Rattle.kc_memory.specs.Image.{Image}
use Rattle.kc_text.specs.Text.{hex}
use Rattle.kc_syms.specs.Rows.{is_kind, is_name_byte, lines as rows_lines, name_in}
use Rattle.kc_syms.specs.Spelling.{IsKind, IsNameByte, SpellAll, Spells}
use Rattle.kc_kallsyms.specs.declared.fault.TableFault.{TableFault}
use Rattle.kc_kallsyms.specs.declared.fault.TableFault.TheVariants.{S7, S8}
use Rattle.kc_kallsyms.specs.declared.frame.RowFrame.{RowFrame}
use Rattle.kc_kallsyms.specs.declared.places.Places.{Places}
use Rattle.kc_kallsyms.specs.declared.reading.Reading.{Reading}
use Rattle.kc_kallsyms.specs.declared.reading.Reading.TheVariants.{Absolute, Relative}
use Rattle.kc_kallsyms.specs.Addresses.{address, offset_of, reading_by}
use Rattle.kc_kallsyms.specs.Map.{Kernel, is_of_processors, kernel_at, kernel_by, letter, line, lines, listed, map_at}
use Rattle.kc_kallsyms.specs.Reading.{◌>>=◌, Why, judged}
use Rattle.kc_kallsyms.specs.Symbols.{Spot, Symbol, entry_at, symbol_of, symbols_at, symbols_in}
use Rattle.kc_kallsyms.specs.Tables.{tables_at}
use Rattle.kc_files.specs.Laws.{MapSpellsSymbols, row_of}
use Rattle.kc_files.proofs.FileLaws.{went}
use Rattle.kc_files.proofs.LineLaws.{High, bare_line, first_line, high-append}

both : (a b : Bool) → (a && b) ≡ true → (a ≡ true) × (b ≡ true)
both true b is = (refl, is)
both false b is = cc

either : (a b : Bool) → (a || b) ≡ true → (a ≡ true) ⊎ (b ≡ true)
either true b is = inl refl
either false b is = inr is

within : (low high c : ℕ) → (nat_le low c && nat_le c high) ≡ true → (low ≤ c) × (c ≤ high)
within low high c is =
    let parts = both (nat_le low c) (nat_le c high) is in
    (grind (arith, nat_tests, parts.0), grind (arith, nat_tests, parts.1))

kind_from : (c : ℕ) → is_kind c ≡ true → IsKind c
kind_from c is =
    elim (either ((nat_le 65 c && nat_le c 90) || (nat_le 97 c && nat_le c 122)) (c == 63) is) [
      | inl letter ↦ elim (either (nat_le 65 c && nat_le c 90) (nat_le 97 c && nat_le c 122) letter) [
        | inl upper ↦ inl (within 65 90 c upper)
        | inr lower ↦ inr (inl (within 97 122 c lower))
      ]
      | inr mark ↦ inr (inr (grind (arith, nat_tests)))
    ]

names_from : (name : List ℕ) → list_all is_name_byte name ≡ true → All IsNameByte name × High name
names_from [] all = (All-nil IsNameByte, tt)
names_from (c ∷ cs) all =
    let parts = both (is_name_byte c) (list_all is_name_byte cs) all in
    let here = within 33 126 c parts.0 in
    let low : 33 ≤ c = here.0 in
    let more = names_from cs parts.1 in
    (All-cons IsNameByte c cs here more.0, (omega arith, more.1))

-- a symbol that was read
pub record IsGood (s : Symbol) : Type 0 where
  pub kind : IsKind s.letter
  pub named : s.name ≢ []
  pub visible : All IsNameByte s.name
  pub high : High s.name

abbrev AllGood : List Symbol → Type 0
AllGood [] = Unit {0}
AllGood (s ∷ ss) = IsGood s × AllGood ss

chosen : (k n : Bool) (s t : Symbol) (f g : TableFault) → (if k then (if n then Ok s else Err f) else Err g) ≡ Ok t → (k ≡ true) × (n ≡ true) × (s ≡ t)
chosen true true s t f g is = (refl, refl, cc)
chosen true false s t f g is = absurd (let none : ⊥ = cc in none)
chosen false n s t f g is = absurd (let none : ⊥ = cc in none)

visible_by : (b : Bool) (name : List ℕ) → is_some (if b then Some name else None) ≡ true → b ≡ true
visible_by true name is = refl
visible_by false name is = absurd (let none : ⊥ = cc in none)

good : (letter : ℕ) (name : List ℕ) (offset : ℕ) → is_kind letter ≡ true → is_some (name_in name) ≡ true → IsGood (record { letter = letter; name = name; offset = offset })
good letter [] offset kind is = absurd (let none : ⊥ = cc in none)
good letter (c ∷ cs) offset kind is =
    let names = names_from (c ∷ cs) (visible_by (list_all is_name_byte (c ∷ cs)) (c ∷ cs) is) in
    record { kind = kind_from letter kind; named = λ e. cc; visible = names.0; high = names.1 }

symbol_good : (number : ℕ) (text : List ℕ) (offset : ℕ) (s : Symbol) → symbol_of number text offset ≡ Ok s → IsGood s
unfolding symbol_of
symbol_good number [] offset s is = absurd (let none : ⊥ = cc in none)
symbol_good number (letter ∷ name) offset s is =
    let parts = chosen (is_kind letter) (is_some (name_in name) && nat_lt (length name) 512) (record { letter = letter; name = name; offset = offset }) s (S7 number) (S8 number) is in
    subst IsGood parts.2 (good letter name offset parts.0 (both (is_some (name_in name)) (nat_lt (length name) 512) parts.1).0)

judged_by : (r : Result Symbol TableFault) (s : Symbol) → judged r ≡ Ok s → r ≡ Ok s
judged_by (Ok t) s is = cc
judged_by (Err f) s is = absurd (let none : ⊥ = cc in none)

abbrev read : List Symbol → Result (List Symbol) Why
read ss = Ok ss

same_symbols : (xs ys : List Symbol) → read xs ≡ Ok ys → xs ≡ ys
same_symbols xs ys is = cc

symbols_good : (image : Image) (tokens : List (List ℕ)) (count number : ℕ) (spot : Spot) (ss : List Symbol) → symbols_at image tokens count number spot ≡ Ok ss → AllGood ss
unfolding symbols_at
symbols_good image tokens zero number spot ss is = subst AllGood (same_symbols [] ss is) tt
symbols_good image tokens (suc count) number spot ss is =
    let e = went (entry_at image tokens spot) (λ entry. judged (symbol_of number entry.text entry.offset) >>= (λ symbol. symbols_at image tokens count (number + 1) entry.next >>= (λ rest. Ok (symbol ∷ rest)))) ss is in
    let s = went (judged (symbol_of number e.first.text e.first.offset)) (λ symbol. symbols_at image tokens count (number + 1) e.first.next >>= (λ rest. Ok (symbol ∷ rest))) ss e.then_was in
    let r = went (symbols_at image tokens count (number + 1) e.first.next) (λ rest. read (s.first ∷ rest)) ss s.then_was in
    subst AllGood (same_symbols (s.first ∷ r.first) ss r.then_was)
    (symbol_good number e.first.text e.first.offset s.first (judged_by (symbol_of number e.first.text e.first.offset) s.first s.was), symbols_good image tokens count (number + 1) e.first.next r.first r.was)

-- the line of a symbol without its newline
abbrev body : RowFrame → Symbol → List ℕ
body frame s = hex (listed frame s) ++ 32 ∷ letter frame s ∷ 32 ∷ s.name

letter_kind : (b : Bool) (c : ℕ) → IsKind c → IsKind (if b then 68 else c)
letter_kind true c kind = inl (omega arith, omega arith)
letter_kind false c kind = kind

kind_high : (c : ℕ) → IsKind c → 32 ≤ c
kind_high c is = elim is [
  | inl upper ↦ let low : 65 ≤ c = upper.0 in omega arith
  | inr other ↦ elim other [
    | inl lower ↦ let low : 97 ≤ c = lower.0 in omega arith
    | inr mark ↦ let same : c ≡ 63 = mark in omega arith
  ]
]

digit_high : (d : ℕ) → 32 ≤ hex_digit d
digit_high d = grind (arith, nat_tests)

digits_high : (k n : ℕ) → High (hex_digits k n)
unfolding hex_digits
digits_high zero n = tt
digits_high (suc k) n = high-append (hex_digits k (n / 16)) (hex_digit (n % 16) ∷ []) (digits_high k (n / 16)) (digit_high (n % 16), tt)

body_high : (frame : RowFrame) (s : Symbol) → IsGood s → High (body frame s)
body_high frame s is =
    let kind = kind_high (letter frame s) (letter_kind (is_of_processors frame.reading frame.processors s) s.letter is.kind) in
    high-append (hex (listed frame s)) (32 ∷ letter frame s ∷ 32 ∷ s.name) (digits_high 16 (listed frame s)) (omega arith, (kind, (omega arith, is.high)))

small_by : (b : Bool) (o m : ℕ) → (b ≡ true → o < 2 ^ 31) → m < 2 ^ 64 → (if b then o else m) < 2 ^ 64
small_by true o m low small = let less : o < 2 ^ 31 = low refl in omega arith
small_by false o m low small = small

address_small : (reading : Reading) (base offset : ℕ) → address reading base offset < 2 ^ 64
address_small Absolute base offset = small_by (nat_lt offset (2 ^ 31)) offset ((base + (2 ^ 32 - 1 - offset)) % 2 ^ 64) (λ is. grind (arith, nat_tests)) (omega arith)
address_small Relative base offset = omega arith

linked_small : (b : Bool) (kaslr at : ℕ) → at < 2 ^ 64 → (if b then at - kaslr else at) < 2 ^ 64
linked_small true kaslr at small = omega arith
linked_small false kaslr at small = small

spells : (frame : RowFrame) (s : Symbol) → IsGood s → Spells (body frame s) (row_of frame s)
spells frame s is = record {
  kind = letter frame s;
  text = refl;
  fits = linked_small (nat_le (0xffffffff80000000 + frame.kaslr) (address frame.reading frame.base s.offset)) frame.kaslr (address frame.reading frame.base s.offset) (address_small frame.reading frame.base s.offset);
  is_kind = letter_kind (is_of_processors frame.reading frame.processors s) s.letter is.kind;
  named = is.named;
  visible = is.visible;
}

line_is : (frame : RowFrame) (s : Symbol) → line frame s ≡ body frame s ++ 10 ∷ []
line_is frame s = refl

spelled : (frame : RowFrame) (ss : List Symbol) → AllGood ss → SpellAll (rows_lines (lines frame ss)) (map (row_of frame) ss)
spelled frame [] good = subst (λ (ls : List (List ℕ)). SpellAll (map without_terminator ls) []) (sym lines-nil) tt
spelled frame (s ∷ ss) good =
    let high = body_high frame s good.0 in
    let broken : lines_of (lines frame (s ∷ ss)) ≡ (body frame s ++ 10 ∷ []) ∷ lines_of (lines frame ss) = ap (λ (l : List ℕ). lines_of (l ++ lines frame ss)) (line_is frame s) ∙ first_line (body frame s) (lines frame ss) high in
    subst (λ (ls : List (List ℕ)). SpellAll (map without_terminator ls) (map (row_of frame) (s ∷ ss))) (sym broken)
    (subst (λ (l : List ℕ). Spells l (row_of frame s)) (sym (bare_line (body frame s) high)) (spells frame s good.0), spelled frame ss good.1)

-- the symbols of a kernel were read
found_by : (base kaslr : ℕ) (symbols : List Symbol) (reading : Option Reading) (k : Kernel) → kernel_by base kaslr symbols reading ≡ Ok k → symbols ≡ k.symbols
found_by base kaslr symbols (Some r) k is = cc
found_by base kaslr symbols None k is = absurd (let none : ⊥ = cc in none)

kernel_good : (image : Image) (kaslr : ℕ) (places : Places) (k : Kernel) → kernel_at image kaslr places ≡ Ok k → AllGood k.symbols
unfolding kernel_at
kernel_good image kaslr places k is =
    let t = went (tables_at image places) (λ tables. symbols_in image places tables >>= (λ symbols. kernel_by tables.base kaslr symbols (reading_by places.text tables.base (offset_of (codes "_stext") symbols)))) k is in
    let s = went (symbols_in image places t.first) (λ symbols. kernel_by t.first.base kaslr symbols (reading_by places.text t.first.base (offset_of (codes "_stext") symbols))) k t.then_was in
    subst AllGood (found_by t.first.base kaslr s.first (reading_by places.text t.first.base (offset_of (codes "_stext") s.first)) k s.then_was)
    (symbols_good image t.first.tokens t.first.count 0 (record { name = places.names; offset = places.offsets }) s.first s.was)

abbrev text_read : List ℕ → Result (List ℕ) Why
text_read t = Ok t

same_text : (xs ys : List ℕ) → text_read xs ≡ Ok ys → xs ≡ ys
same_text xs ys is = cc

pub map_spells : MapSpellsSymbols
unfolding map_at
map_spells image kaslr places text is =
    let k = went (kernel_at image kaslr places) (λ k. text_read (lines k.frame k.symbols)) text is in (
      k.first,
      k.was,
      subst (λ (t : List ℕ). SpellAll (rows_lines t) (map (row_of k.first.frame) k.first.symbols)) (same_text (lines k.first.frame k.first.symbols) text k.then_was)
          (spelled k.first.frame k.first.symbols (kernel_good image kaslr places k.first k.was)),
    )
