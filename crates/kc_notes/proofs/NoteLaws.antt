-- What the search of a part says in the words of the format: whole notes lead to the place where it stops,
-- none of them is VMCOREINFO, and there VMCOREINFO stands, or a broken note, or the part's end.
use Rattle.std.proofs.Common.{◌≡◌, ℕ, zero, suc, ◌+◌, ◌<◌, ◌≤◌, ◌⊎◌, min, Bool, true, false, ◌&&◌, ◌==◌, List, [], ◌∷◌, ◌++◌, All, length, take, drop, Option, Some, None, Result, Ok, Err, refl, sym, ap, ◌∙◌, subst, inl, inr, ⊎_elim, arith, length-take, length-drop, if◌then◌else◌}
use Rattle.std.specs.Str.{bytes_eq}
use Rattle.std.proofs.lemmas.Bool.Decides.{nat_tests}
use Rattle.std.proofs.lemmas.List.Elements.{All-cons}
use Rattle.std.proofs.lemmas.Slice.Eq.{bytes_eq-Decides}
use Rattle.kc_elf.specs.Headers.{number, part}
use Rattle.kc_notes.specs.declared.note.Note.{Note}
use Rattle.kc_notes.specs.declared.note.Step.{Step}
use Rattle.kc_notes.specs.declared.note.Step.TheVariants.{End, Broken, Whole}
use Rattle.kc_notes.specs.Notes.{padded, note_at, note_by, note_end, vmcoreinfo_name, is_vmcoreinfo, note_text, on_step, search_from, part_text, on_part, text_from}
use Rattle.kc_notes.specs.Spelling.{IsNote, LeadsTo, EndsAt, BreaksAt, StopsAt}
use Rattle.kc_notes.specs.Laws.{FirstPartTells}
use Rattle.kc_notes.proofs.SearchLemmas.{further, search_ends}

lt_or_le : (m n : ℕ) → (m < n) ⊎ (n ≤ m)
lt_or_le m n = grind arith

end_means : (bytes : List ℕ) (place : ℕ) → note_at bytes place ≡ End → EndsAt bytes place
unfolding note_by
end_means bytes place is =
    ⊎_elim (λ (short : length bytes < place + 12). inl short)
    (λ (long : place + 12 ≤ length bytes). inr (grind (arith, nat_tests), grind (arith, nat_tests), grind (arith, nat_tests)))
    (lt_or_le (length bytes) (place + 12))

broken_means : (bytes : List ℕ) (place : ℕ) → note_at bytes place ≡ Broken → BreaksAt bytes place
unfolding note_by
broken_means bytes place is =
    ⊎_elim (λ (name : length bytes < place + 12 + number 4 bytes place). (grind (arith, nat_tests), inl name))
    (λ (named : place + 12 + number 4 bytes place ≤ length bytes). (grind (arith, nat_tests), inr (grind (arith, nat_tests), grind (arith, nat_tests))))
    (lt_or_le (length bytes) (place + 12 + number 4 bytes place))

-- where the parts of a whole note stand
record Facts (bytes : List ℕ) (place : ℕ) (note : Note) : Type 0 where
  header : place + 12 ≤ length bytes
  kind : note.kind ≡ number 4 bytes (place + 8)
  name : note.name ≡ place + 12
  name_size : note.name_size ≡ number 4 bytes place
  name_within : place + 12 + note.name_size ≤ length bytes
  descriptor : note.descriptor ≡ min (length bytes) (place + 12 + padded note.name_size)
  descriptor_size : note.descriptor_size ≡ number 4 bytes (place + 4)
  descriptor_within : 0 < note.descriptor_size → place + 12 + padded note.name_size + note.descriptor_size ≤ length bytes

whole_means : (bytes : List ℕ) (place : ℕ) (note : Note) → note_at bytes place ≡ Whole note → Facts bytes place note
unfolding note_by
whole_means bytes place note is = record {
  header = grind (arith, nat_tests);
  kind = grind (arith, nat_tests);
  name = grind (arith, nat_tests);
  name_size = grind (arith, nat_tests);
  name_within = grind (arith, nat_tests);
  descriptor = grind (arith, nat_tests);
  descriptor_size = grind (arith, nat_tests);
  descriptor_within = grind (arith, nat_tests);
}

length-part : (bytes : List ℕ) (place count : ℕ) → place + count ≤ length bytes → length (part place count bytes) ≡ count
length-part bytes place count within = omega (arith, length-take count (drop place bytes), length-drop place bytes)

same_part : (bytes : List ℕ) (count a b : ℕ) → (0 < count → a ≡ b) → take count (drop a bytes) ≡ take count (drop b bytes)
same_part bytes zero a b same = refl
same_part bytes (suc count) a b same = ap (λ n. take (suc count) (drop n bytes)) (same (omega arith))

descriptor_fits : (size place count behind : ℕ) → place ≡ min size behind → (0 < count → behind + count ≤ size) → place + count ≤ size
descriptor_fits size place zero behind is within = omega arith
descriptor_fits size place (suc count) behind is within = let fits = within (omega arith) in omega arith

descriptor_there : (size place count behind : ℕ) → place ≡ min size behind → (0 < count → behind + count ≤ size) → 0 < count → behind ≡ place
descriptor_there size place count behind is within some = let fits = within some in omega arith

-- a whole note is spelled so
note_is : (bytes : List ℕ) (place : ℕ) (note : Note) → Facts bytes place note
    → IsNote bytes place (part note.name note.name_size bytes) (part note.descriptor note.descriptor_size bytes) note.kind
note_is bytes place note f =
    let name = part note.name note.name_size bytes in
    let descriptor = part note.descriptor note.descriptor_size bytes in
    let named : length name ≡ note.name_size = length-part bytes note.name note.name_size (omega (arith, f.name, f.name_within)) in
    let described : length descriptor ≡ note.descriptor_size = length-part bytes note.descriptor note.descriptor_size (descriptor_fits (length bytes) note.descriptor note.descriptor_size (place + 12 + padded note.name_size) f.descriptor f.descriptor_within) in
    record {
      header = f.header;
      name_size = sym f.name_size ∙ sym named;
      descriptor_size = sym f.descriptor_size ∙ sym described;
      type_is = sym f.kind;
      name_is = ap (λ n. take n (drop (place + 12) bytes)) named ∙ ap (λ n. take note.name_size (drop n bytes)) (sym f.name);
      descriptor_is =
          ap (λ n. take n (drop (place + 12 + padded (length name)) bytes)) described
          ∙ ap (λ n. take note.descriptor_size (drop (place + 12 + padded n) bytes)) named
          ∙ same_part bytes note.descriptor_size (place + 12 + padded note.name_size) note.descriptor (descriptor_there (length bytes) note.descriptor note.descriptor_size (place + 12 + padded note.name_size) f.descriptor f.descriptor_within);
    }

both_true : (a b : Bool) → (a && b) ≡ true → (a ≡ true) × (b ≡ true)
both_true true b is = (refl, is)
both_true false b is = absurd (let none : ⊥ = cc in none)

is_zero : (n : ℕ) → (n == 0) ≡ true → n ≡ 0
is_zero n is = grind (arith, nat_tests)

searched : (bytes : List ℕ) (note : Note) → is_vmcoreinfo bytes note ≡ true → (note.kind ≡ 0) × (part note.name note.name_size bytes ≡ vmcoreinfo_name)
searched bytes note is =
    let name = part note.name note.name_size bytes in
    let both = both_true (note.kind == 0) (bytes_eq name vmcoreinfo_name) is in
    (is_zero note.kind both.0, (bytes_eq-Decides name vmcoreinfo_name).0 both.1)

unsearched : (bytes : List ℕ) (note : Note) → is_vmcoreinfo bytes note ≡ false → (note.kind ≡ 0) × (part note.name note.name_size bytes ≡ vmcoreinfo_name) → ⊥
unsearched bytes note is named =
    let name = part note.name note.name_size bytes in
    let equal : bytes_eq name vmcoreinfo_name ≡ true = (bytes_eq-Decides name vmcoreinfo_name).1 named.1 in
    let zeros : (note.kind == 0) ≡ true = rw named.0 refl in
    let both : is_vmcoreinfo bytes note ≡ true = rw (zeros, equal) refl in
    let none : true ≡ false = sym both ∙ is in
    cc

-- what an answer says of the notes from a place on
unfoldable pub Means : List ℕ → ℕ → Result (Option (List ℕ)) ℕ → Type 0
Means bytes place answer = (count : ℕ) × (last : ℕ) × LeadsTo count bytes place last × StopsAt bytes last answer

-- a note before
note_more : (bytes : List ℕ) (place : ℕ) (note : Note) (answer : Result (Option (List ℕ)) ℕ) → Facts bytes place note → is_vmcoreinfo bytes note ≡ false
    → (length bytes < note_end (length bytes) note + 12 → answer ≡ Ok None) → Means bytes (note_end (length bytes) note) answer → Means bytes place answer
unfolding Means
note_more bytes place note answer f other none behind =
    let name = part note.name note.name_size bytes in
    let descriptor = part note.descriptor note.descriptor_size bytes in
    let is = note_is bytes place note f in
    let named : length name ≡ note.name_size = sym is.name_size ∙ sym f.name_size in
    let described : length descriptor ≡ note.descriptor_size = sym is.descriptor_size ∙ sym f.descriptor_size in
    let next = place + 12 + padded (length name) + padded (length descriptor) in
    ⊎_elim (λ (short : length bytes < note_end (length bytes) note + 12).
    let past : length bytes < next + 12 = rw (named, described) (omega (arith, f.descriptor)) in
    (1, next, (name, descriptor, note.kind, is, unsearched bytes note other, refl), subst (StopsAt bytes next) (sym (none short)) (inl past)))
    (λ (long : note_end (length bytes) note + 12 ≤ length bytes).
    let same : note_end (length bytes) note ≡ next = rw (named, described) (omega (arith, f.descriptor)) in
    (suc behind.0, behind.1, (name, descriptor, note.kind, is, unsearched bytes note other, subst (λ n. LeadsTo behind.0 bytes n behind.1) same behind.2), behind.3))
    (lt_or_le (length bytes) (note_end (length bytes) note + 12))

-- the note that is searched
note_found : (bytes : List ℕ) (place : ℕ) (note : Note) → Facts bytes place note → is_vmcoreinfo bytes note ≡ true → Means bytes place (Ok (Some (note_text bytes note)))
unfolding Means
note_found bytes place note f is =
    let descriptor = part note.descriptor note.descriptor_size bytes in
    let found = searched bytes note is in
    let spelled = subst (λ k. IsNote bytes place vmcoreinfo_name descriptor k) found.0 (subst (λ n. IsNote bytes place n descriptor note.kind) found.1 (note_is bytes place note f)) in
    (0, place, refl, (descriptor, spelled, refl))

note_means : (bytes : List ℕ) (place : ℕ) (note : Note) (answer : Result (Option (List ℕ)) ℕ) (b : Bool) → Facts bytes place note → is_vmcoreinfo bytes note ≡ b
    → (length bytes < note_end (length bytes) note + 12 → answer ≡ Ok None) → Means bytes (note_end (length bytes) note) answer
    → Means bytes place (if b then Ok (Some (note_text bytes note)) else answer)
note_means bytes place note answer true f is none behind = note_found bytes place note f is
note_means bytes place note answer false f is none behind = note_more bytes place note answer f is none behind

step_means : (bytes : List ℕ) (place : ℕ) (step : Step) (behind : ℕ → Result (Option (List ℕ)) ℕ) → note_at bytes place ≡ step
    → ((next : ℕ) → length bytes < next + 12 → behind next ≡ Ok None)
    → ((note : Note) → step ≡ Whole note → Means bytes (note_end (length bytes) note) (behind (note_end (length bytes) note)))
    → Means bytes place (on_step bytes place step behind)
unfolding Means
step_means bytes place End behind is none more = (0, place, refl, end_means bytes place is)
step_means bytes place Broken behind is none more = (0, place, refl, (refl, broken_means bytes place is))
step_means bytes place (Whole note) behind is none more =
    let next = note_end (length bytes) note in
    note_means bytes place note (behind next) (is_vmcoreinfo bytes note) (whole_means bytes place note is) refl (none next) (more note refl)

short_end : (bytes : List ℕ) (place : ℕ) → length bytes < place + 12 → note_at bytes place ≡ End
short_end bytes place short = grind (arith, nat_tests)

-- Whole notes lead to the place where the search stops.
pub search_means : (count : ℕ) (bytes : List ℕ) (place : ℕ) → length bytes ≤ place + count → Means bytes place (search_from count bytes place)
unfolding search_from Means
search_means zero bytes place enough = (0, place, refl, inl (omega arith))
search_means (suc count) bytes place enough =
    step_means bytes place (note_at bytes place) (λ next. search_from count bytes next) refl
    (λ next short. search_ends count bytes next (short_end bytes next short))
    (λ note is. let far = further bytes place note is in search_means count bytes (note_end (length bytes) note) (omega arith))

-- From the part's first byte on stand whole notes, none of them VMCOREINFO, up to a place. There stands
-- VMCOREINFO, which has the text that is found, or a note that is broken, or the part ends.
pub part_means : (bytes : List ℕ) → (count : ℕ) × (last : ℕ) × LeadsTo count bytes 0 last × StopsAt bytes last (part_text bytes)
unfolding Means
part_means bytes = search_means (length bytes) bytes 0 (omega arith)

-- The text that is found stands in some part, and the parts before it have none and no broken note.
unfoldable pub IsFound : List (List ℕ) → List ℕ → Type 0
IsFound parts text = (before : List (List ℕ)) × (bytes : List ℕ) × (behind : List (List ℕ)) × (parts ≡ before ++ bytes ∷ behind)
    × All (λ p. part_text p ≡ Ok None) before × (part_text bytes ≡ Ok (Some text))

part_finds : (index : ℕ) (part : List ℕ) (parts : List (List ℕ)) (text : List ℕ) (answer : Result (Option (List ℕ)) ℕ) → part_text part ≡ answer
    → (text_from (index + 1) parts ≡ Ok text → IsFound parts text) → on_part index answer (text_from (index + 1) parts) ≡ Ok text → IsFound (part ∷ parts) text
unfolding IsFound
part_finds index part parts text (Ok (Some found)) here behind is =
    let same : found ≡ text = cc in
    ([], part, parts, refl, (λ k d below. absurd (omega arith)), here ∙ ap (λ t. Ok (Some t)) same)
part_finds index part parts text (Ok None) here behind is =
    let rest = behind is in
    (part ∷ rest.0, rest.1, rest.2, ap (λ ps. part ∷ ps) rest.3, All-cons (λ p. part_text p ≡ Ok None) part rest.0 here rest.4, rest.5)
part_finds index part parts text (Err place) here behind is = absurd (let none : ⊥ = cc in none)

pub text_found : (index : ℕ) (parts : List (List ℕ)) (text : List ℕ) → text_from index parts ≡ Ok text → IsFound parts text
text_found index [] text is = absurd (let none : ⊥ = cc in none)
text_found index (part ∷ parts) text is = part_finds index part parts text (part_text part) refl (text_found (index + 1) parts text) is

-- the same of a file's parts, in full
pub first_part_tells : FirstPartTells
unfolding IsFound
first_part_tells parts text is = text_found 0 parts text is
