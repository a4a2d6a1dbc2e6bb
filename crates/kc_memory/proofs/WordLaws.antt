-- The first segment that holds a word, and the tails that have it.
use Rattle.std.proofs.Common.{◌≡◌, ℕ, zero, suc, ◌+◌, ◌-◌, ◌<◌, ◌≤◌, Bool, true, false, cond, List, [], ◌∷◌, drop, Option, Some, None, option_map, arith, refl, sym, ap, ◌∙◌, subst}
use Rattle.std.specs.Prelude.{◌&&◌, ◌||◌, if◌then◌else◌}
use Rattle.std.specs.List.{find, list_any}
use Rattle.std.specs.Option.{option_or}
use Rattle.byteorder.specs.Endian.{little_number}
use Rattle.std.proofs.lemmas.Bool.Decides.{nat_tests}
use Rattle.kc_word.specs.declared.plain.Segment.{Segment}
use Rattle.kc_word.specs.declared.plain.Tail.{Tail as TailMeaning}
use Rattle.kc_word.specs.declared.plain.Tail.TheVariants.{Absent, Zero}
use Rattle.kc_memory.specs.declared.words.Origin.TheVariants.{File, Tail}
use Rattle.kc_memory.specs.declared.words.PWord.{PWord}
use Rattle.kc_memory.specs.Image.{Physical, holds, holder, in_tail, offset_in, reads_zero, word_at, zero_word}
use Rattle.kc_memory.specs.Laws.{HoldsAt, HoldsFirst, TailAt, WordsStandFirst, TailsAreZero, AbsentWhereNone}

holds_true : (pa : ℕ) (s : Segment) → holds pa s ≡ true → (s.paddr ≤ pa) × (pa + 8 ≤ s.paddr + s.filesz)
holds_true pa s is = (grind (arith, nat_tests), grind (arith, nat_tests))

holds_false : (pa : ℕ) (s : Segment) → holds pa s ≡ false → s.paddr ≤ pa → pa + 8 ≤ s.paddr + s.filesz → ⊥
holds_false pa s is begins ends = grind (arith, nat_tests)

-- a first segment that doesn't hold the word puts the others one place later
later : (pa : ℕ) (s : Segment) (ss : List Segment) (i : ℕ) (t : Segment) → holds pa s ≡ false → HoldsFirst ss pa i t → HoldsFirst (s ∷ ss) pa (suc i) t
later pa s ss i t fails first = record {
  here = record { stands = first.here.stands; begins = first.here.begins; ends = first.here.ends };
  none_before = λ j u lt at_j. before j u lt at_j;
}
  where
    before : (j : ℕ) (u : Segment) → j < suc i → HoldsAt (s ∷ ss) pa j u → ⊥
    before zero u lt at_j = let same : s ≡ u = cc in holds_false pa s fails (subst (λ (v : Segment). v.paddr ≤ pa) (sym same) at_j.begins) (subst (λ (v : Segment). pa + 8 ≤ v.paddr + v.filesz) (sym same) at_j.ends)
    before (suc j) u lt at_j = first.none_before j u (omega arith) (record { stands = at_j.stands; begins = at_j.begins; ends = at_j.ends })

found_first : (pa : ℕ) (ss : List Segment) (s : Segment) → find (holds pa) ss ≡ Some s → (i : ℕ) × HoldsFirst ss pa i s
found_first pa [] s is = let none : ⊥ = cc in absurd none
found_first pa (t ∷ ss) s is = by_test (holds pa t) refl is (λ there. found_first pa ss s there)
  where
    by_test : (b : Bool) → holds pa t ≡ b → cond b (Some t) (find (holds pa) ss) ≡ Some s → (find (holds pa) ss ≡ Some s → (i : ℕ) × HoldsFirst ss pa i s) → (i : ℕ) × HoldsFirst (t ∷ ss) pa i s
    by_test true passes here there =
        let same : t ≡ s = cc in
        let both = holds_true pa t passes in (
          0,
          record {
            here = record { stands = ap (λ (x : Segment). Some x) same; begins = subst (λ (v : Segment). v.paddr ≤ pa) same both.0; ends = subst (λ (v : Segment). pa + 8 ≤ v.paddr + v.filesz) same both.1 };
            none_before = λ j u lt at_j. absurd (omega arith);
          },
        )
    by_test false fails next there = let rest = there next in (suc rest.0, later pa t ss rest.0 s fails rest.1)

none_found : (pa : ℕ) (ss : List Segment) (i : ℕ) (s : Segment) → find (holds pa) ss ≡ None → HoldsAt ss pa i s → ⊥
none_found pa [] i s is at_i = let none : ⊥ = cc in none
none_found pa (t ∷ ss) i s is at_i = by_test (holds pa t) refl is (λ next j at_j. none_found pa ss j s next at_j) i at_i
  where
    by_test : (b : Bool) → holds pa t ≡ b → cond b (Some t) (find (holds pa) ss) ≡ None → (find (holds pa) ss ≡ None → (j : ℕ) → HoldsAt ss pa j s → ⊥) → (k : ℕ) → HoldsAt (t ∷ ss) pa k s → ⊥
    by_test true passes here rest k at_k = let none : ⊥ = cc in none
    by_test false fails next rest zero at_k =
        let same : t ≡ s = cc in
        holds_false pa t fails (subst (λ (v : Segment). v.paddr ≤ pa) (sym same) at_k.begins) (subst (λ (v : Segment). pa + 8 ≤ v.paddr + v.filesz) (sym same) at_k.ends)
    by_test false fails next rest (suc k) at_k = rest next k (record { stands = at_k.stands; begins = at_k.begins; ends = at_k.ends })

tail_true : (pa : ℕ) (s : Segment) → in_tail pa s ≡ true → (s.paddr + s.filesz ≤ pa) × (pa + 8 ≤ s.paddr + s.memsz)
tail_true pa s is = (grind (arith, nat_tests), grind (arith, nat_tests))

tail_false : (pa : ℕ) (s : Segment) → in_tail pa s ≡ false → s.paddr + s.filesz ≤ pa → pa + 8 ≤ s.paddr + s.memsz → ⊥
tail_false pa s is begins ends = grind (arith, nat_tests)

-- a segment with a tail that has the word
some_tail : (pa : ℕ) (ss : List Segment) → list_any (in_tail pa) ss ≡ true → (i : ℕ) × (s : Segment) × TailAt ss pa i s
some_tail pa [] is = absurd (cc)
some_tail pa (t ∷ ss) is = by_test (in_tail pa t) refl is (some_tail pa ss)
  where
    by_test : (b : Bool) → in_tail pa t ≡ b → (b || list_any (in_tail pa) ss) ≡ true → (list_any (in_tail pa) ss ≡ true → (i : ℕ) × (s : Segment) × TailAt ss pa i s) → (i : ℕ) × (s : Segment) × TailAt (t ∷ ss) pa i s
    by_test true passes here there = let both = tail_true pa t passes in (0, t, record { stands = refl; begins = both.0; ends = both.1 })
    by_test false fails next there = let rest = there next in (suc rest.0, rest.1, record { stands = rest.2.stands; begins = rest.2.begins; ends = rest.2.ends })

-- and none
no_tail : (pa : ℕ) (ss : List Segment) (i : ℕ) (s : Segment) → list_any (in_tail pa) ss ≡ false → TailAt ss pa i s → ⊥
no_tail pa [] i s is at_i = let none : ⊥ = cc in none
no_tail pa (t ∷ ss) i s is at_i = by_test (in_tail pa t) refl is (λ next j at_j. no_tail pa ss j s next at_j) i at_i
  where
    by_test : (b : Bool) → in_tail pa t ≡ b → (b || list_any (in_tail pa) ss) ≡ false → (list_any (in_tail pa) ss ≡ false → (j : ℕ) → TailAt ss pa j s → ⊥) → (k : ℕ) → TailAt (t ∷ ss) pa k s → ⊥
    by_test true passes here rest k at_k = absurd (cc)
    by_test false fails next rest zero at_k =
        let same : t ≡ s = cc in
        tail_false pa t fails (subst (λ (v : Segment). v.paddr + v.filesz ≤ pa) (sym same) at_k.begins) (subst (λ (v : Segment). pa + 8 ≤ v.paddr + v.memsz) (sym same) at_k.ends)
    by_test false fails next rest (suc k) at_k = rest next k (record { stands = at_k.stands; begins = at_k.begins; ends = at_k.ends })

-- the word that a segment has
abbrev Stands : Physical → ℕ → ℕ → ℕ → Type 0
Stands physical pa value offset =
    (i : ℕ) × (s : Segment) × HoldsFirst physical.segments pa i s × (offset ≡ s.offset + (pa - s.paddr)) × (value ≡ little_number 8 (drop offset physical.bytes))

-- the word where the first segment that holds it is this one, or none is, and where some tail has it
abbrev worded : Physical → ℕ → Option Segment → Bool → Option PWord
worded physical pa o tailed = option_or (option_map (λ s. word_at physical.bytes (offset_in pa s)) o) (if tailed then Some zero_word else None)

abbrev has_tail : Physical → ℕ → Bool
has_tail physical pa = reads_zero physical.tail && list_any (in_tail pa) physical.segments

stands_by : (physical : Physical) (pa value offset : ℕ) (o : Option Segment) (tailed : Bool) → holder pa physical.segments ≡ o → worded physical pa o tailed ≡ Some (record { value = value; off = File offset }) → Stands physical pa value offset
stands_by physical pa value offset None true held is =
    let same : zero_word ≡ record { value = value; off = File offset } = cc in
    let apart : Tail ≡ File offset = ap (λ (w : PWord). w.off) same in
    let none : ⊥ = cc in
    absurd none
stands_by physical pa value offset None false held is = let none : ⊥ = cc in absurd none
stands_by physical pa value offset (Some s) tailed held is =
    let first = found_first pa physical.segments s held in
    let same : word_at physical.bytes (offset_in pa s) ≡ record { value = value; off = File offset } = cc in
    let from : File (offset_in pa s) ≡ File offset = ap (λ (w : PWord). w.off) same in
    let there : offset_in pa s ≡ offset = cc in
    let number : little_number 8 (drop (offset_in pa s) physical.bytes) ≡ value = ap (λ (w : PWord). w.value) same in
    (first.0, s, first.1, sym there, sym number ∙ ap (λ n. little_number 8 (drop n physical.bytes)) there)

pub words_stand_first : WordsStandFirst
words_stand_first physical pa value offset is = stands_by physical pa value offset (holder pa physical.segments) (has_tail physical pa) refl is

-- the word of a tail
abbrev OfTail : Physical → ℕ → ℕ → Type 0
OfTail physical pa value = (value ≡ 0) × (physical.tail ≡ Zero) × ((i : ℕ) (s : Segment) → HoldsAt physical.segments pa i s → ⊥) × (i : ℕ) × (s : Segment) × TailAt physical.segments pa i s

is_zero : (t : TailMeaning) (b : Bool) → (reads_zero t && b) ≡ true → (t ≡ Zero) × (b ≡ true)
is_zero Absent b is = absurd (cc)
is_zero Zero b is = (refl, is)

tail_by : (physical : Physical) (pa value : ℕ) (o : Option Segment) (tailed : Bool) → holder pa physical.segments ≡ o → has_tail physical pa ≡ tailed → worded physical pa o tailed ≡ Some (record { value = value; off = Tail }) → OfTail physical pa value
tail_by physical pa value None true held has is =
    let tailed = is_zero physical.tail (list_any (in_tail pa) physical.segments) has in
    let same : record { value = value; off = Tail } ≡ zero_word = cc in
    let there = some_tail pa physical.segments tailed.1 in
    (ap (λ (w : PWord). w.value) same, tailed.0, λ i s at_i. none_found pa physical.segments i s held at_i, there.0, there.1, there.2)
tail_by physical pa value None false held has is = let none : ⊥ = cc in absurd none
tail_by physical pa value (Some s) tailed held has is =
    let same : word_at physical.bytes (offset_in pa s) ≡ record { value = value; off = Tail } = cc in
    let apart : File (offset_in pa s) ≡ Tail = ap (λ (w : PWord). w.off) same in
    let none : ⊥ = cc in
    absurd none

pub tails_are_zero : TailsAreZero
tails_are_zero physical pa value is = tail_by physical pa value (holder pa physical.segments) (has_tail physical pa) refl refl is

-- where neither is
abbrev Nowhere : Physical → ℕ → Type 0
Nowhere physical pa = ((i : ℕ) (s : Segment) → HoldsAt physical.segments pa i s → ⊥) × (physical.tail ≡ Zero → (i : ℕ) (s : Segment) → TailAt physical.segments pa i s → ⊥)

not_zero : (t : TailMeaning) (b : Bool) → (reads_zero t && b) ≡ false → t ≡ Zero → b ≡ false
not_zero Absent b is tailed = let none : ⊥ = cc in absurd none
not_zero Zero b is tailed = is

absent_by : (physical : Physical) (pa : ℕ) (o : Option Segment) (tailed : Bool) → holder pa physical.segments ≡ o → has_tail physical pa ≡ tailed → worded physical pa o tailed ≡ None → Nowhere physical pa
absent_by physical pa None true held has is = let none : ⊥ = cc in absurd none
absent_by physical pa None false held has is = (
  λ i s at_i. none_found pa physical.segments i s held at_i,
  λ tailed i s at_i. no_tail pa physical.segments i s (not_zero physical.tail (list_any (in_tail pa) physical.segments) has tailed) at_i,
)
absent_by physical pa (Some s) tailed held has is = let none : ⊥ = cc in absurd none

pub absent_where_none : AbsentWhereNone
absent_where_none physical pa is = absent_by physical pa (holder pa physical.segments) (has_tail physical pa) refl refl is
