-- What an answer shows is true of the dump.
use Rattle.std.proofs.Common.{◌≡◌, ℕ, zero, suc, Bool, true, false, if◌then◌else◌, ◌%◌, nat_eq, Option, Some, None, IfSome, Result, Ok, Err, refl, ap, ◌∙◌, subst}
use Rattle.kc_memory.specs.declared.rule.Rule.{Rule}
use Rattle.kc_memory.specs.declared.rule.Rule.TheVariants.{M1, M2, M3, M6}
use Rattle.kc_memory.specs.declared.words.PWord.{PWord}
use Rattle.kc_memory.specs.declared.words.VWord.{VWord}
use Rattle.kc_memory.specs.Stopped.{Stopped}
use Rattle.kc_memory.specs.Image.{Physical, Image, pword}
use Rattle.kc_memory.specs.Translation.{Way, Table, Large, entered, entered_by, entry_address, judged, refusal, cleared, follow, and_then, xlate, translated, word_or_stop, stop, vword, is_canonical, levels}
use Rattle.kc_memory.specs.Places.{AllStandIn, places_of, entry_places}
use Rattle.kc_memory.specs.Laws.{PlacesStand}

-- the entry that a stop has stands in the dump
EntryStands : Physical → Stopped → Type 0
EntryStands physical s = IfSome s.entry (λ e. pword physical s.pa ≡ Some e)

judged_entry : (physical : Physical) (va level pa : ℕ) (word : PWord) (entry : ℕ) (r : Option Rule) (s : Stopped) → pword physical pa ≡ Some word → judged va level pa word entry r ≡ Err s → EntryStands physical s
unfolding EntryStands
judged_entry physical va level pa word entry None s there is = let none : ⊥ = cc in absurd none
judged_entry physical va level pa word entry (Some rule) s there is =
    let same : record { va = va; rule = rule; level = level; pa = pa; entry = Some word } ≡ s = cc in
    let P : Stopped → Type 0 = λ t. IfSome t.entry (λ e. pword physical t.pa ≡ Some e) in
    subst P same there

entered_entry : (physical : Physical) (mask va level pa : ℕ) (o : Option PWord) (s : Stopped) → pword physical pa ≡ o → entered_by mask va level pa o ≡ Err s → EntryStands physical s
unfolding EntryStands
entered_entry physical mask va level pa None s there is =
    let same : record { va = va; rule = M3; level = level; pa = pa; entry = None } ≡ s = cc in
    let P : Stopped → Type 0 = λ t. IfSome t.entry (λ e. pword physical t.pa ≡ Some e) in
    subst P same tt
entered_entry physical mask va level pa (Some word) s there is = judged_entry physical va level pa word (cleared mask word.value) (refusal level (cleared mask word.value)) s there is

xlate_entry : (physical : Physical) (mask va level table : ℕ) (s : Stopped) → xlate physical mask va level table ≡ Err s → EntryStands physical s
unfolding xlate
xlate_entry physical mask va zero table s is = let none : ⊥ = cc in absurd none
xlate_entry physical mask va (suc level) table s is =
    by_entry (entered physical mask va (suc level) table) refl is (λ t next. xlate_entry physical mask va level t s next)
  where
    by_entry : (r : Result Way Stopped) → entered physical mask va (suc level) table ≡ r → and_then r (λ w. follow w (xlate physical mask va level)) ≡ Err s → ((t : ℕ) → xlate physical mask va level t ≡ Err s → EntryStands physical s) → EntryStands physical s
    by_entry (Err t) came stops below =
        let same : t ≡ s = cc in
        subst (EntryStands physical) same (entered_entry physical mask va (suc level) (entry_address (suc level) table va) (pword physical (entry_address (suc level) table va)) t refl came)
    by_entry (Ok (Table t)) came stops below = below t stops
    by_entry (Ok (Large pa)) came stops below = let none : ⊥ = cc in absurd none

translated_entry : (image : Image) (va : ℕ) (b : Bool) (s : Stopped) → (if b then xlate image.physical image.paging.sme va (levels image.paging) image.paging.table else stop va M2 0 0 None) ≡ Err s → EntryStands image.physical s
unfolding EntryStands
translated_entry image va true s is = xlate_entry image.physical image.paging.sme va (levels image.paging) image.paging.table s is
translated_entry image va false s is =
    let same : record { va = va; rule = M2; level = 0; pa = 0; entry = None } ≡ s = cc in
    let P : Stopped → Type 0 = λ t. IfSome t.entry (λ e. pword image.physical t.pa ≡ Some e) in
    subst P same tt

-- the word at the end of the way
last_entry : (physical : Physical) (va pa : ℕ) (o : Option PWord) (s : Stopped) → word_or_stop va pa o ≡ Err s → EntryStands physical s
unfolding EntryStands
last_entry physical va pa None s is =
    let same : record { va = va; rule = M6; level = 0; pa = pa; entry = None } ≡ s = cc in
    let P : Stopped → Type 0 = λ t. IfSome t.entry (λ e. pword physical t.pa ≡ Some e) in
    subst P same tt
last_entry physical va pa (Some w) s is = let none : ⊥ = cc in absurd none

behind_entry : (image : Image) (va : ℕ) (r : Result ℕ Stopped) (s : Stopped) → translated image va ≡ r → and_then r (λ pa. word_or_stop va pa (pword image.physical pa)) ≡ Err s → EntryStands image.physical s
behind_entry image va (Ok pa) s came is = last_entry image.physical va pa (pword image.physical pa) s is
behind_entry image va (Err t) s came is =
    let same : t ≡ s = cc in
    subst (EntryStands image.physical) same (translated_entry image va (is_canonical image.paging va) t came)

stop_entry : (image : Image) (va : ℕ) (b : Bool) (s : Stopped) → (if b then and_then (translated image va) (λ pa. word_or_stop va pa (pword image.physical pa)) else stop va M1 0 0 None) ≡ Err s → EntryStands image.physical s
unfolding EntryStands
stop_entry image va true s is = behind_entry image va (translated image va) s refl is
stop_entry image va false s is =
    let same : record { va = va; rule = M1; level = 0; pa = 0; entry = None } ≡ s = cc in
    let P : Stopped → Type 0 = λ t. IfSome t.entry (λ e. pword image.physical t.pa ≡ Some e) in
    subst P same tt

-- a word that is read stands where it says
pub record WordStands (image : Image) (va : ℕ) (w : VWord) : Type 0 where
  pub asked : w.va ≡ va
  pub stands : pword image.physical w.pa ≡ Some (record { value = w.value; off = w.off })

last_word : (image : Image) (va pa : ℕ) (o : Option PWord) (w : VWord) → pword image.physical pa ≡ o → word_or_stop va pa o ≡ Ok w → WordStands image va w
last_word image va pa None w there is = let none : ⊥ = cc in absurd none
last_word image va pa (Some word) w there is =
    let same : record { va = va; pa = pa; off = word.off; value = word.value } ≡ w = cc in
    subst (λ v. WordStands image va v) same (record { asked = refl; stands = there })

behind_word : (image : Image) (va : ℕ) (r : Result ℕ Stopped) (w : VWord) → and_then r (λ pa. word_or_stop va pa (pword image.physical pa)) ≡ Ok w → WordStands image va w
behind_word image va (Ok pa) w is = last_word image va pa (pword image.physical pa) w refl is
behind_word image va (Err t) w is = let none : ⊥ = cc in absurd none

by_test : (image : Image) (va : ℕ) (b : Bool) (w : VWord) → (if b then and_then (translated image va) (λ pa. word_or_stop va pa (pword image.physical pa)) else stop va M1 0 0 None) ≡ Ok w → WordStands image va w
by_test image va true w is = behind_word image va (translated image va) w is
by_test image va false w is = let none : ⊥ = cc in absurd none

pub word_stands : (image : Image) (va : ℕ) (w : VWord) → vword image va ≡ Ok w → WordStands image va w
unfolding vword
word_stands image va w is = by_test image va (nat_eq (va % 8) 0) w is

entry_stands : (image : Image) (pa : ℕ) (o : Option PWord) → IfSome o (λ e. pword image.physical pa ≡ Some e) → AllStandIn image (entry_places pa o)
entry_stands image pa None there = tt
entry_stands image pa (Some word) there = (record { physically = there; virtually = tt }, tt)

refused_entry : (image : Image) (va : ℕ) (s : Stopped) → vword image va ≡ Err s → EntryStands image.physical s
unfolding vword
refused_entry image va s is = stop_entry image va (nat_eq (va % 8) 0) s is

places_of_answer : (image : Image) (va : ℕ) (r : Result VWord Stopped) → vword image va ≡ r → AllStandIn image (places_of r)
unfolding EntryStands
places_of_answer image va (Err s) is = entry_stands image s.pa s.entry (refused_entry image va s is)
places_of_answer image va (Ok w) is =
    let there = word_stands image va w is in
    (record { physically = there.stands; virtually = ap (vword image) there.asked ∙ is }, tt)

pub places_stand : PlacesStand
places_stand image va = places_of_answer image va (vword image va) refl
