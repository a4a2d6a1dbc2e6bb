-- The words of a dump with changes.
use Rattle.std.proofs.Common.{◌≡◌, ℕ, ◌+◌, ◌≤◌, max, Bool, true, false, cond, List, [], ◌∷◌, find, Option, Some, None, option_map, Ok, refl, sym, ap, ◌∙◌, subst, arith}
use Rattle.std.specs.Prelude.{◌&&◌, nat_le}
use Rattle.std.specs.List.{list_any}
use Rattle.std.proofs.lemmas.Bool.Decides.{nat_tests}
use Rattle.kc_word.specs.declared.plain.Segment.{Segment}
use Rattle.kc_word.specs.declared.plain.Tail.{Tail as TailOf}
use Rattle.kc_memory.specs.declared.words.Origin.{Origin}
use Rattle.kc_memory.specs.declared.words.Origin.TheVariants.{File, Tail}
use Rattle.kc_memory.specs.declared.words.PWord.{PWord}
use Rattle.kc_memory.specs.Frames.{ReadsWord}
use Rattle.kc_memory.specs.Image.{Physical, holder, holds, in_tail, offset_in, pword, reads_zero, tail_word, word_at, zero_word}
use Rattle.kc_phys.specs.Blocks.{reach}
use Rattle.kc_phys.specs.Stored.{stored}
use Rattle.kc_phys.specs.declared.patch.change.Change.{Change}
use Rattle.kc_phys.specs.Patch.Changed.{changed_at, patched_all, share_any}
use Rattle.kc_phys.proofs.PatchLemmas.Laying.{word-other_all}

-- the segment that holds a word ends before the greatest end
found_reach : (segments : List Segment) (pa : ℕ) (s : Segment) → holder pa segments ≡ Some s → offset_in pa s + 8 ≤ reach segments
found_reach [] pa s is = let none : ⊥ = cc in absurd none
found_reach (x ∷ rest) pa s is = at_test (holds pa x) refl is (λ later. found_reach rest pa s later)
  where
    at_test : (b : Bool) → holds pa x ≡ b → cond b (Some x) (find (holds pa) rest) ≡ Some s → (find (holds pa) rest ≡ Some s → offset_in pa s + 8 ≤ reach rest)
        → offset_in pa s + 8 ≤ max (x.offset + x.filesz) (reach rest)
    at_test true e is later =
        let same : x ≡ s = cc in
        let begins : x.paddr ≤ pa = grind (arith, nat_tests) in
        let ends : pa + 8 ≤ x.paddr + x.filesz = grind (arith, nat_tests) in
        subst (λ (t : Segment). offset_in pa t + 8 ≤ max (x.offset + x.filesz) (reach rest)) same (omega arith)
    at_test false e is later = let behind = later is in omega arith

-- where a word of the file stands
pub record Stands (physical : Physical) (pa off : ℕ) : Type 0 where
  pub by : Segment
  pub here : holder pa physical.segments ≡ Some by
  pub at : off ≡ offset_in pa by

zero_is : (b : Bool) (w : PWord) → cond b (Some zero_word) None ≡ Some w → w.off ≡ Tail
zero_is true w is = let same : zero_word ≡ w = cc in ap (λ (x : PWord). x.off) (sym same)
zero_is false w is = let none : ⊥ = cc in absurd none

stands : (physical : Physical) (pa off : ℕ) (w : PWord) → pword physical pa ≡ Some w → w.off ≡ File off → Stands physical pa off
stands physical pa off w is file = by_holder (holder pa physical.segments) refl is
  where
    by_holder : (h : Option Segment) → holder pa physical.segments ≡ h → pword physical pa ≡ Some w → Stands physical pa off
    by_holder None e is =
        let none : tail_word physical.tail pa physical.segments ≡ Some w = rw e at is in
        let tail = zero_is (reads_zero physical.tail && list_any (in_tail pa) physical.segments) w none in
        let never : ⊥ = cc in absurd never
    by_holder (Some s) e is =
        let here : Some (word_at physical.bytes (offset_in pa s)) ≡ Some w = rw e at is in
        let same : word_at physical.bytes (offset_in pa s) ≡ w = cc in
        let there : File (offset_in pa s) ≡ File off = ap (λ (x : PWord). x.off) same ∙ file in
        record { by = s; here = e; at = (let back : off ≡ offset_in pa s = cc in back) }

file_word : (physical : Physical) (pa off : ℕ) → Stands physical pa off → pword physical pa ≡ Some (word_at physical.bytes off)
file_word physical pa off st = rw (st.here, st.at) refl

-- no byte of a word that lies before the end is changed
none_shared : (is_inside shared : Bool) (off : ℕ) → is_inside ≡ true → cond (is_inside && shared) (Some off) None ≡ None → shared ≡ false
none_shared true true off e none = absurd (let never : ⊥ = cc in never)
none_shared true false off e none = refl
none_shared false shared off e none = absurd (let never : ⊥ = cc in never)

-- a word outside the changes
pub past_change : (content : Option (List ℕ)) (segments : List Segment) (tail : TailOf) (pa end : ℕ) (changes : List Change) (w : PWord)
    → end ≡ reach segments → changed_at changes end w.off ≡ None → ReadsWord (stored segments tail content) pa (Ok w)
    → ReadsWord (option_map (patched_all changes) (stored segments tail content)) pa (Ok w)
past_change None segments tail pa end changes w ends past read = tt
past_change (Some bytes) segments tail pa end changes w ends past read = at_origin w.off refl
  where
    old : Physical
    old = record { bytes = bytes; segments = segments; tail = tail }

    at_origin : (o : Origin) → w.off ≡ o → pword (patched_all changes (record { bytes = bytes; segments = segments; tail = tail })) pa ≡ Some w
    at_origin (File off) e =
        let st : Stands (record { bytes = bytes; segments = segments; tail = tail }) pa off = stands _ pa off w read e in
        let lies : off + 8 ≤ reach segments = rw (st.at) (found_reach segments pa st.by st.here) in
        let none : changed_at changes end (File off) ≡ None = rw e at past in
        let within : off + 8 ≤ end = omega arith in
        let inside : nat_le (off + 8) end ≡ true = grind (arith, nat_tests) in
        let away : share_any changes off ≡ false = none_shared (nat_le (off + 8) end) (share_any changes off) off inside none in
        file_word (patched_all changes old) pa off (record { by = st.by; here = st.here; at = st.at })
        ∙ ap (λ (v : ℕ). Some (record { value = v; off = File off })) (word-other_all changes off bytes away)
        ∙ sym (file_word old pa off st)
        ∙ read
    at_origin Tail e = by_holder (holder pa segments) refl read
      where
        by_holder : (h : Option Segment) → holder pa segments ≡ h → pword old pa ≡ Some w → pword (patched_all changes old) pa ≡ Some w
        by_holder None h is = rw h (rw h at is)
        by_holder (Some s) h is =
            let here : Some (word_at bytes (offset_in pa s)) ≡ Some w = rw h at is in
            let same : word_at bytes (offset_in pa s) ≡ w = cc in
            let there : File (offset_in pa s) ≡ Tail = ap (λ (x : PWord). x.off) same ∙ e in
            let never : ⊥ = cc in absurd never
