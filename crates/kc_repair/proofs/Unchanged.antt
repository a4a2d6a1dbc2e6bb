-- A word that is left stands in the dump as it is.
use Rattle.std.proofs.Common.{◌≡◌, ℕ, Bool, true, false, List, [], ◌∷◌, map, Option, Some, None, Result, Ok, refl, sym, ap, ◌∙◌, subst}
use Rattle.std.specs.Prelude.{◌||◌, not}
use Rattle.std.specs.List.{list_any}
use Rattle.kc_word.specs.declared.plain.Segment.{Segment}
use Rattle.kc_memory.specs.declared.words.Origin.TheVariants.{File}
use Rattle.kc_memory.specs.declared.words.PWord.{PWord}
use Rattle.kc_memory.specs.declared.words.VWord.{VWord}
use Rattle.kc_memory.specs.Image.{Physical, holder, offset_in, pword, word_at}
use Rattle.kc_memory.specs.Laws.{PlacesStand}
use Rattle.kc_memory.specs.Places.{AllStandIn, places_of}
use Rattle.kc_memory.specs.Stopped.{Stopped}
use Rattle.kc_phys.specs.declared.patch.change.Change.{Change}
use Rattle.kc_phys.specs.Patch.Changed.{changed_all, patched_all, share, share_any}
use Rattle.kc_phys.proofs.PatchLemmas.Laying.{word-other_all}
use Rattle.kc_repair.specs.declared.suspect.suspect.Suspect.{Suspect}
use Rattle.kc_repair.specs.Laws.{LeftStandInFile}
use Rattle.kc_repair.specs.Repairs.{change_of, with_words}

-- the changes share a byte with a word where the words do
changes_share : (words : List Suspect) (off : ℕ) → share_any (map change_of words) off ≡ list_any (λ (word : Suspect). share off word.off) words
changes_share [] off = refl
changes_share (w ∷ words) off = ap (λ (b : Bool). share off w.off || b) (changes_share words off)

is_no : (b : Bool) → not b ≡ true → b ≡ false
is_no true e = absurd (let never : ⊥ = cc in never)
is_no false e = refl

-- a word of the file that shares no byte with a change is that of the file without them
unchanged : (changes : List Change) (physical : Physical) (pa off value : ℕ) → share_any changes off ≡ false
    → pword (patched_all changes physical) pa ≡ Some (record { value = value; off = File off }) → pword physical pa ≡ Some (record { value = value; off = File off })
unchanged changes physical pa off value away is = by_holder (holder pa physical.segments) refl is
  where
    by_holder : (h : Option Segment) → holder pa physical.segments ≡ h
        → pword (patched_all changes physical) pa ≡ Some (record { value = value; off = File off }) → pword physical pa ≡ Some (record { value = value; off = File off })
    by_holder None h is = rw h (rw h at is)
    by_holder (Some s) h is =
        let here : Some (word_at (changed_all changes physical.bytes) (offset_in pa s)) ≡ Some (record { value = value; off = File off }) = rw h at is in
        let same : word_at (changed_all changes physical.bytes) (offset_in pa s) ≡ record { value = value; off = File off } = cc in
        let there : File (offset_in pa s) ≡ File off = ap (λ (w : PWord). w.off) same in
        let at : offset_in pa s ≡ off = cc in
        let apart : share_any changes (offset_in pa s) ≡ false = subst (λ (n : ℕ). share_any changes n ≡ false) (sym at) away in
        let old : Some (word_at physical.bytes (offset_in pa s)) ≡ Some (word_at (changed_all changes physical.bytes) (offset_in pa s)) =
        ap (λ (v : ℕ). Some (record { value = v; off = File (offset_in pa s) })) (sym (word-other_all changes (offset_in pa s) physical.bytes apart)) in
        rw h (old ∙ here)

pub left-stand_in_file : PlacesStand → LeftStandInFile
left-stand_in_file places image earlier s left =
    let away : share_any (map change_of earlier) s.off ≡ false = changes_share earlier s.off ∙ is_no (list_any (λ (word : Suspect). share s.off word.off) earlier) left.apart in
    let there : AllStandIn (with_words image earlier) (places_of (Ok (record { va = s.va; pa = s.pa; off = File s.off; value = s.now }))) =
    subst (λ (r : Result VWord Stopped). AllStandIn (with_words image earlier) (places_of r)) left.there.there (places (with_words image earlier) s.va) in
    unchanged (map change_of earlier) image.physical s.pa s.off s.now away there.0.physically
