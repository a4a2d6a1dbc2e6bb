-- That a line states a fact exactly where it spells it.
use Rattle.std.proofs.Common.{◌≡◌, ◌≢◌, ℕ, suc, ◌+◌, ◌<◌, ◌≤◌, ◌==◌, nat_lt, Bool, true, false, cond, codes, List, [], ◌∷◌, ◌++◌, length, get_or, take, drop, position, All, Option, Some, None, option_map, option_and_then, inl, inr, refl, sym, ap, ◌∙◌, subst, append_assoc, arith}
use Rattle.std.specs.Prelude.{ℤ, ◌⊎◌}
use Rattle.std.specs.List.{position_or_len, before_first, after_first}
use Rattle.std.specs.Option.{option_or}
use Rattle.std.specs.Str.{bytes_eq}
use Rattle.std.proofs.Math.Seq.{take-append_seam, drop-append_seam}
use Rattle.std.proofs.lemmas.Bool.{eqb-true}
use Rattle.std.proofs.lemmas.Bool.Decides.{nat_tests}
use Rattle.std.proofs.lemmas.List.{get_or-take, length-take-le, take-append-drop, length-append, drop-drop}
use Rattle.std.proofs.lemmas.List.Sums.{fails_before_first, passes_at_first, split_at_first}
use Rattle.std.proofs.lemmas.Slice.Eq.{bytes_eq-Decides}
use Rattle.kc_word.specs.Decimal.{decimal_number}
use Rattle.kc_word.specs.Hex.{hex_number}
use Rattle.kc_match.specs.Facts.{Fact, Symbol, Size, Offset, behind, closed, entry, fact_in, offset_at, offset_in, parted, size_in, size_of, symbol_in, symbol_of}
use Rattle.kc_match.specs.Spelling.{FactsAreSpelled, IsEntry, Spells}

-- what stands behind a head
kept : {X : Type 0} (b : Bool) (x y : X) → cond b (Some x) None ≡ Some y → (b ≡ true) × (x ≡ y)
kept true x y is = (refl, cc)
kept false x y is = absurd (let none : ⊥ = cc in none)

same_bytes : (xs ys : List ℕ) → bytes_eq xs ys ≡ true → xs ≡ ys
same_bytes xs ys is = (bytes_eq-Decides xs ys).0 is

bytes_eq-refl : (xs : List ℕ) → bytes_eq xs xs ≡ true
bytes_eq-refl xs = (bytes_eq-Decides xs xs).1 refl

behind-sound : (head text rest : List ℕ) → behind head text ≡ Some rest → text ≡ head ++ rest
behind-sound head text rest is =
    let parts = kept (bytes_eq (take (length head) text) head) (drop (length head) text) rest is in
    sym (take-append-drop (length head) text) ∙ ap (λ front. front ++ drop (length head) text) (same_bytes (take (length head) text) head parts.0) ∙ ap (λ back. head ++ back) parts.1

behind-complete : (head rest : List ℕ) → behind head (head ++ rest) ≡ Some rest
behind-complete head rest = rw (take-append_seam head rest, drop-append_seam head rest, bytes_eq-refl head) refl

-- the parts around a mark
module _ (mark : ℕ) where
  abbrev is_mark : ℕ → Bool
  is_mark c = c == mark

  first-ends : (a b : List ℕ) → All (λ c. c ≢ mark) a → position_or_len is_mark (a ++ mark ∷ b) ≡ length a
  first-ends [] b none = let here : (mark == mark) ≡ true = grind (arith, nat_tests) in rw here refl
  first-ends (x ∷ a) b none =
      let other : x ≢ mark = none 0 0 (omega arith) in
      let here : (x == mark) ≡ false = grind (arith, nat_tests) in
      let more = first-ends a b (λ k d less. none (suc k) d (omega arith)) in
      rw (here, more) (omega arith)

  parted-complete : (a b : List ℕ) → All (λ c. c ≢ mark) a → parted mark (a ++ mark ∷ b) ≡ Some (a, b)
  parted-complete a b none =
      let text = a ++ mark ∷ b in
      let size : position_or_len is_mark text ≡ length a = first-ends a b none in
      let within : nat_lt (length a) (length text) ≡ true = grind (arith, nat_tests, length-append a (mark ∷ b)) in
      let back : drop (length a + 1) text ≡ b = sym (drop-drop 1 (length a) text) ∙ ap (drop 1) (drop-append_seam a (mark ∷ b)) in
      rw (size, within, take-append_seam a (mark ∷ b), back) refl

  parted-sound : (text : List ℕ) (p : List ℕ × List ℕ) → parted mark text ≡ Some p → (text ≡ p.0 ++ mark ∷ p.1) × All (λ c. c ≢ mark) p.0
  parted-sound text p is =
      let n = position_or_len is_mark text in
      let found = cut_at (nat_lt n (length text)) (λ at. (take at text, drop (at + 1) text)) n p is in
      let within : n < length text = grind (arith, nat_tests) in
      let here : get_or text n 0 ≡ mark = eqb-true (get_or text n 0) mark (passes_at_first is_mark text 0 within) in
      let P : List ℕ × List ℕ → Type 0 = λ p. (text ≡ p.0 ++ mark ∷ p.1) × All (λ c. c ≢ mark) p.0 in
      subst P found.1 (split_at_first is_mark text 0 within ∙ ap (λ c. take n text ++ c ∷ drop (n + 1) text) here, unmarked text n within (λ k d less. fails_before_first is_mark text k d less))
    where
      cut_at : {X : Type 0} (b : Bool) (f : ℕ → X) (n : ℕ) (y : X) → option_map f (cond b (Some n) None) ≡ Some y → (b ≡ true) × (f n ≡ y)
      cut_at true f n y is = (refl, cc)
      cut_at false f n y is = absurd (let none : ⊥ = cc in none)

      unmarked : (text : List ℕ) (n : ℕ) → n < length text → ((k d : ℕ) → k < n → (get_or text k d == mark) ≡ false) → All (λ c. c ≢ mark) (take n text)
      unmarked text n within fails k d less =
          let size : length (take n text) ≡ n = length-take-le n text (omega arith) in
          let short : k < n = omega arith in
          let one : get_or (take n text) k d ≡ get_or text k d = get_or-take n text k d short in
          let other = fails k d short in
          λ e. grind (arith, nat_tests)

-- what an option is made of
mapped : {X Y : Type 0} (o : Option X) (f : X → Y) (y : Y) → option_map f o ≡ Some y → (x : X) × (o ≡ Some x) × (f x ≡ y)
mapped None f y is = absurd (let none : ⊥ = cc in none)
mapped (Some x) f y is = (x, refl, (cc))

chained : {X Y : Type 0} (o : Option X) (f : X → Option Y) (y : Y) → option_and_then f o ≡ Some y → (x : X) × (o ≡ Some x) × (f x ≡ Some y)
chained None f y is = absurd (let none : ⊥ = cc in none)
chained (Some x) f y is = (x, refl, is)

either : {X : Type 0} (o p : Option X) (x : X) → option_or o p ≡ Some x → (o ≡ Some x) ⊎ (p ≡ Some x)
either None p x is = inr is
either (Some y) p x is = inl is

-- a head, what stands up to the first `)`, and what stands behind `)=`
entry-sound : (head line : List ℕ) (e : List ℕ × List ℕ) → entry head line ≡ Some e → IsEntry head e.0 e.1 line
unfolding entry
entry-sound head line e is =
    let cut = chained (option_and_then (parted 41) (behind head line)) closed e is in
    let rest = chained (behind head line) (parted 41) cut.0 cut.1 in
    let value = mapped (behind (codes "=") cut.0.1) (λ (v : List ℕ). (cut.0.0, v)) e cut.2 in
    let parts = parted-sound 41 rest.0 cut.0 rest.2 in
    let P : List ℕ × List ℕ → Type 0 = λ e. IsEntry head e.0 e.1 line in
    subst P value.2 (record {
      text = behind-sound head line rest.0 rest.1
          ∙ ap (λ r. head ++ r) (parts.0 ∙ ap (λ v. cut.0.0 ++ 41 ∷ v) (behind-sound (codes "=") cut.0.1 value.0 value.1))
          ∙ sym (append_assoc head cut.0.0 (41 ∷ 61 ∷ value.0));
      inside = parts.1;
    })

entry-complete : (head inner value line : List ℕ) → IsEntry head inner value line → entry head line ≡ Some (inner, value)
unfolding entry
entry-complete head inner value line is =
    let rest = inner ++ 41 ∷ 61 ∷ value in
    ap (λ l. option_and_then closed (option_and_then (parted 41) (behind head l))) (is.text ∙ append_assoc head inner (41 ∷ 61 ∷ value))
    ∙ ap (λ o. option_and_then closed (option_and_then (parted 41) o)) (behind-complete head rest)
    ∙ ap (option_and_then closed) (parted-complete 41 inner (61 ∷ value) is.inside)
    ∙ ap (option_map (λ (v : List ℕ). (inner, v))) (behind-complete (codes "=") value)

-- each kind of line
symbol-sound : (line : List ℕ) (fact : Fact) → symbol_in line ≡ Some fact → Spells line fact
unfolding symbol_in
symbol-sound line fact is =
    let parts = chained (entry (codes "SYMBOL(") line) symbol_of fact is in
    let number = mapped (hex_number parts.0.1) (λ address. Symbol parts.0.0 address) fact parts.2 in
    subst (Spells line) number.2 (parts.0.1, entry-sound (codes "SYMBOL(") line parts.0 parts.1, number.1)

size-sound : (line : List ℕ) (fact : Fact) → size_in line ≡ Some fact → Spells line fact
unfolding size_in
size-sound line fact is =
    let parts = chained (entry (codes "SIZE(") line) size_of fact is in
    let number = mapped (decimal_number parts.0.1) (λ size. Size parts.0.0 size) fact parts.2 in
    subst (Spells line) number.2 (parts.0.1, entry-sound (codes "SIZE(") line parts.0 parts.1, number.1)

offset-sound : (line : List ℕ) (fact : Fact) → offset_in line ≡ Some fact → Spells line fact
unfolding offset_in
offset-sound line fact is =
    let parts = chained (entry (codes "OFFSET(") line) (λ (e : List ℕ × List ℕ). option_and_then (offset_at e.1) (parted 46 e.0)) fact is in
    let names = chained (parted 46 parts.0.0) (offset_at parts.0.1) fact parts.2 in
    let number = mapped (decimal_number parts.0.1) (λ byte. Offset names.0.0 names.0.1 byte) fact names.2 in
    let dotted = parted-sound 46 parts.0.0 names.0 names.1 in
    let P : List ℕ → Type 0 = λ inner. IsEntry (codes "OFFSET(") inner parts.0.1 line in
    subst (Spells line) number.2 (parts.0.1, subst P dotted.0 (entry-sound (codes "OFFSET(") line parts.0 parts.1), dotted.1, number.1)

fact-sound : (line : List ℕ) (fact : Fact) → fact_in line ≡ Some fact → Spells line fact
fact-sound line fact is =
    elim (either (symbol_in line) (option_or (size_in line) (offset_in line)) fact is) [
      | inl symbol ↦ symbol-sound line fact symbol
      | inr more ↦ elim (either (size_in line) (offset_in line) fact more) [ inl size ↦ size-sound line fact size | inr offset ↦ offset-sound line fact offset ]
    ]

-- no line of another kind is a symbol's or a size's
no_symbol-size : (inner rest : List ℕ) → symbol_in (codes "SIZE(" ++ inner ++ rest) ≡ None
unfolding symbol_in entry
no_symbol-size inner rest = refl

no_symbol-offset : (inner rest : List ℕ) → symbol_in (codes "OFFSET(" ++ inner ++ rest) ≡ None
unfolding symbol_in entry
no_symbol-offset inner rest = refl

no_size-offset : (inner rest : List ℕ) → size_in (codes "OFFSET(" ++ inner ++ rest) ≡ None
unfolding size_in entry
no_size-offset inner rest = refl

symbol-complete : (line name value : List ℕ) (address : ℕ) → IsEntry (codes "SYMBOL(") name value line → hex_number value ≡ Some address → symbol_in line ≡ Some (Symbol name address)
unfolding symbol_in
symbol-complete line name value address is number =
    ap (option_and_then symbol_of) (entry-complete (codes "SYMBOL(") name value line is) ∙ ap (option_map (λ a. Symbol name a)) number

size-complete : (line name value : List ℕ) (size : ℤ) → IsEntry (codes "SIZE(") name value line → decimal_number value ≡ Some size → size_in line ≡ Some (Size name size)
unfolding size_in
size-complete line name value size is number =
    ap (option_and_then size_of) (entry-complete (codes "SIZE(") name value line is) ∙ ap (option_map (λ n. Size name n)) number

offset-complete : (line name member value : List ℕ) (byte : ℤ) → IsEntry (codes "OFFSET(") (name ++ 46 ∷ member) value line → All (λ c. c ≢ 46) name → decimal_number value ≡ Some byte
    → offset_in line ≡ Some (Offset name member byte)
unfolding offset_in
offset-complete line name member value byte is undotted number =
    ap (option_and_then (λ (e : List ℕ × List ℕ). option_and_then (offset_at e.1) (parted 46 e.0))) (entry-complete (codes "OFFSET(") (name ++ 46 ∷ member) value line is)
    ∙ ap (option_and_then (offset_at value)) (parted-complete 46 name member undotted) ∙ ap (option_map (λ n. Offset name member n)) number

fact-complete : (line : List ℕ) (fact : Fact) → Spells line fact → fact_in line ≡ Some fact
fact-complete line (Symbol name address) is =
    ap (λ o. option_or o (option_or (size_in line) (offset_in line))) (symbol-complete line name is.0 address is.1 is.2)
fact-complete line (Size name size) is =
    ap (λ o. option_or o (option_or (size_in line) (offset_in line))) (ap symbol_in is.1.text ∙ no_symbol-size name (41 ∷ 61 ∷ is.0))
    ∙ ap (λ o. option_or o (offset_in line)) (size-complete line name is.0 size is.1 is.2)
fact-complete line (Offset name member byte) is =
    ap (λ o. option_or o (option_or (size_in line) (offset_in line))) (ap symbol_in is.1.text ∙ no_symbol-offset (name ++ 46 ∷ member) (41 ∷ 61 ∷ is.0))
    ∙ ap (λ o. option_or o (offset_in line)) (ap size_in is.1.text ∙ no_size-offset (name ++ 46 ∷ member) (41 ∷ 61 ∷ is.0))
    ∙ offset-complete line name member is.0 byte is.1 is.2 is.3

pub facts_are_spelled : FactsAreSpelled
facts_are_spelled line fact = (fact-sound line fact, fact-complete line fact)
