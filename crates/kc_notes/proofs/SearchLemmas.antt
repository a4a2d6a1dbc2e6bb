-- The search for a note, step by step.
use Rattle.std.proofs.Common.{◌≡◌, ℕ, zero, suc, ◌+◌, ◌-◌, ◌<◌, ◌≤◌, true, false, List, ◌∷◌, length, drop, Option, Some, None, Result, Ok, Err, refl, sym, ap, ◌∙◌, arith, if◌then◌else◌}
use Rattle.std.specs.List.{slice_get}
use Rattle.std.proofs.lemmas.Bool.Decides.{nat_tests}
use Rattle.std.proofs.lemmas.List.{drop_more}
use Rattle.std.proofs.lemmas.Option.{get_or_from_slice_get}
use Rattle.kc_notes.specs.declared.fault.NoteFault.TheVariants.{V1}
use Rattle.kc_notes.specs.declared.note.Note.{Note}
use Rattle.kc_notes.specs.declared.note.Step.{Step}
use Rattle.kc_notes.specs.declared.note.Step.TheVariants.{End, Broken, Whole}
use Rattle.kc_notes.specs.Notes.{note_at, note_by, note_end, is_vmcoreinfo, note_text, on_step, search_from, part_text, on_part, text_from}

-- behind the part's last byte there is no note
pub past_end : (bytes : List ℕ) (place : ℕ) → length bytes ≤ place → note_at bytes place ≡ End
past_end bytes place past = grind (arith, nat_tests)

-- a note has at least its header
pub further : (bytes : List ℕ) (place : ℕ) (note : Note) → note_at bytes place ≡ Whole note → place + 12 ≤ note_end (length bytes) note
unfolding note_by
further bytes place note is = grind (arith, nat_tests)

same_step : (bytes : List ℕ) (place : ℕ) (step : Step) (h k : ℕ → Result (Option (List ℕ)) ℕ)
    → ((note : Note) → step ≡ Whole note → h (note_end (length bytes) note) ≡ k (note_end (length bytes) note))
    → on_step bytes place step h ≡ on_step bytes place step k
same_step bytes place End h k same = refl
same_step bytes place Broken h k same = refl
same_step bytes place (Whole note) h k same =
    ap (λ r. if is_vmcoreinfo bytes note then Ok (Some (note_text bytes note)) else r) (same note refl)

-- any counts that reach the end find the same
enough : (m n : ℕ) (bytes : List ℕ) (place : ℕ) → length bytes ≤ place + m → length bytes ≤ place + n → search_from m bytes place ≡ search_from n bytes place
unfolding search_from
enough zero zero bytes place a b = refl
enough zero (suc n) bytes place a b = sym (ap (λ s. on_step bytes place s (λ next. search_from n bytes next)) (past_end bytes place (omega arith)))
enough (suc m) zero bytes place a b = ap (λ s. on_step bytes place s (λ next. search_from m bytes next)) (past_end bytes place (omega arith))
enough (suc m) (suc n) bytes place a b =
    same_step bytes place (note_at bytes place) (λ next. search_from m bytes next) (λ next. search_from n bytes next)
    (λ note is. let far = further bytes place note is in enough m n bytes (note_end (length bytes) note) (omega arith) (omega arith))

-- where the part ends
pub search_ends : (n : ℕ) (bytes : List ℕ) (place : ℕ) → note_at bytes place ≡ End → search_from n bytes place ≡ Ok None
unfolding search_from
search_ends zero bytes place is = refl
search_ends (suc n) bytes place is = ap (λ s. on_step bytes place s (λ next. search_from n bytes next)) is

-- at a broken note
pub search_breaks : (n : ℕ) (bytes : List ℕ) (place : ℕ) → length bytes ≤ place + n → note_at bytes place ≡ Broken → search_from n bytes place ≡ Err place
unfolding search_from
search_breaks zero bytes place enough is = absurd (let none : End ≡ Broken = sym (past_end bytes place (omega arith)) ∙ is in cc)
search_breaks (suc n) bytes place enough is = ap (λ s. on_step bytes place s (λ next. search_from n bytes next)) is

-- at a whole note
search_steps : (m n : ℕ) (bytes : List ℕ) (place : ℕ) (note : Note) → length bytes ≤ place + m → length bytes ≤ note_end (length bytes) note + n → note_at bytes place ≡ Whole note
    → search_from m bytes place ≡ (if is_vmcoreinfo bytes note then Ok (Some (note_text bytes note)) else search_from n bytes (note_end (length bytes) note))
unfolding search_from
search_steps zero n bytes place note a b is = absurd (let none : End ≡ Whole note = sym (past_end bytes place (omega arith)) ∙ is in cc)
search_steps (suc m) n bytes place note a b is =
    let far = further bytes place note is in
    ap (λ s. on_step bytes place s (λ next. search_from m bytes next)) is
    ∙ ap (λ r. if is_vmcoreinfo bytes note then Ok (Some (note_text bytes note)) else r)
    (enough m n bytes (note_end (length bytes) note) (omega arith) b)

-- at the note that is searched
pub search_finds : (bytes : List ℕ) (place : ℕ) (note : Note) → note_at bytes place ≡ Whole note → is_vmcoreinfo bytes note ≡ true
    → search_from (length bytes - place) bytes place ≡ Ok (Some (note_text bytes note))
search_finds bytes place note is found =
    let behind = search_from (length bytes) bytes (note_end (length bytes) note) in
    search_steps (length bytes - place) (length bytes) bytes place note (omega arith) (omega arith) is
    ∙ ap (λ b. if b then Ok (Some (note_text bytes note)) else behind) found

-- at another note
pub search_passes : (bytes : List ℕ) (place : ℕ) (note : Note) → note_at bytes place ≡ Whole note → is_vmcoreinfo bytes note ≡ false
    → search_from (length bytes - place) bytes place ≡ search_from (length bytes - note_end (length bytes) note) bytes (note_end (length bytes) note)
search_passes bytes place note is other =
    let end = note_end (length bytes) note in
    let behind = search_from (length bytes - end) bytes end in
    search_steps (length bytes - place) (length bytes - end) bytes place note (omega arith) (omega arith) is
    ∙ ap (λ b. if b then Ok (Some (note_text bytes note)) else behind) other

-- the parts from an index on
text_from-more : (parts : List (List ℕ)) (index : ℕ) (bytes : List ℕ) → index < length parts → slice_get parts index ≡ Some bytes
    → text_from index (drop index parts) ≡ on_part index (part_text bytes) (text_from (index + 1) (drop (index + 1) parts))
text_from-more parts index bytes below is =
    ap (text_from index) (drop_more parts index bytes below ∙ ap (λ part. part ∷ drop (index + 1) parts) (get_or_from_slice_get parts index bytes bytes is))

-- a part that has the text
pub part_found : (parts : List (List ℕ)) (index : ℕ) (bytes text : List ℕ) → index < length parts → slice_get parts index ≡ Some bytes → part_text bytes ≡ Ok (Some text)
    → text_from index (drop index parts) ≡ Ok text
part_found parts index bytes text below is found =
    text_from-more parts index bytes below is ∙ ap (λ r. on_part index r (text_from (index + 1) (drop (index + 1) parts))) found

-- a part with a broken note
pub part_broken : (parts : List (List ℕ)) (index : ℕ) (bytes : List ℕ) (place : ℕ) → index < length parts → slice_get parts index ≡ Some bytes → part_text bytes ≡ Err place
    → text_from index (drop index parts) ≡ Err (V1 index place)
part_broken parts index bytes place below is broken =
    text_from-more parts index bytes below is ∙ ap (λ r. on_part index r (text_from (index + 1) (drop (index + 1) parts))) broken

-- a part without the text
pub part_passed : (parts : List (List ℕ)) (index : ℕ) (bytes : List ℕ) → index < length parts → slice_get parts index ≡ Some bytes → part_text bytes ≡ Ok None
    → text_from index (drop index parts) ≡ text_from (index + 1) (drop (index + 1) parts)
part_passed parts index bytes below is none =
    text_from-more parts index bytes below is ∙ ap (λ r. on_part index r (text_from (index + 1) (drop (index + 1) parts))) none
