-- What was looked at so far, and what stays of a store over two calls.
use Rattle.std.proofs.Common.{◌≡◌, ℕ, suc, ◌+◌, ◌-◌, ◌<◌, ◌≤◌, List, [], ◌∷◌, length, drop, Option, Some, None, option_map, refl, sym, ap, subst, ◌∙◌, arith}
use Rattle.std.specs.Prelude.{IfSome}
use Rattle.std.specs.Global.{Vec}
use Rattle.std.specs.Option.{option_or}
use Rattle.std.proofs.lemmas.List.{drop_all}
use Rattle.kc_word.specs.declared.plain.Segment.{Segment}
use Rattle.kc_outside.specs.declared.store.Slot.{Slot}
use Rattle.kc_outside.specs.declared.store.Slot.TheVariants.{Dump}
use Rattle.kc_outside.specs.Files.{Files, content}
use Rattle.kc_elf.specs.Stays.{StoreStays}
use Rattle.kc_memory_note.specs.Notes.{memory_note, page_count, page_text, pages_note, segment_note}

pub stays_on : {M : Type 0} (opened : M → Slot → Option (List ℕ)) (sizes : M → Slot → Option ℕ) (files : M → Option Files) (may : M → Slot → List ℕ → Type 0) (asked : M → ℕ) (old mid new : M)
    → StoreStays opened sizes files may asked old mid → StoreStays opened sizes files may asked mid new → StoreStays opened sizes files may asked old new
stays_on opened sizes files may asked old mid new first second = record {
  same_opened = second.same_opened ∙ first.same_opened;
  same_sizes = second.same_sizes ∙ first.same_sizes;
  same_files = second.same_files ∙ first.same_files;
  may_still = λ s n then. second.may_still s n (first.may_still s n then);
  may_no_more = λ s n then. first.may_no_more s n (second.may_no_more s n then);
  asked_later = omega (arith, first.asked_later, second.asked_later);
}

same_content : {M : Type 0} (opened : M → Slot → Option (List ℕ)) (sizes : M → Slot → Option ℕ) (files : M → Option Files) (may : M → Slot → List ℕ → Type 0) (asked : M → ℕ) (old new : M)
    → StoreStays opened sizes files may asked old new → content (files new) Dump (opened new Dump) ≡ content (files old) Dump (opened old Dump)
same_content opened sizes files may asked old new stays =
    ap (λ (f : Option Files). content f Dump (opened new Dump)) stays.same_files ∙ ap (λ (o : Slot → Option (List ℕ)). content (files old) Dump (o Dump)) stays.same_opened

-- what is said of the dump's bytes now was so before
pub told_before : {M : Type 0} (opened : M → Slot → Option (List ℕ)) (sizes : M → Slot → Option ℕ) (files : M → Option Files) (may : M → Slot → List ℕ → Type 0) (asked : M → ℕ) (old new : M) (P : List ℕ → Type 0)
    → StoreStays opened sizes files may asked old new → IfSome (content (files new) Dump (opened new Dump)) P → IfSome (content (files old) Dump (opened old Dump)) P
told_before opened sizes files may asked old new P stays told =
    subst (λ (c : Option (List ℕ)). IfSome c P) (same_content opened sizes files may asked old new stays) told

abbrev bytes_of : Option (Vec ℕ) → Option (List ℕ)
bytes_of o = option_map (λ (v : Vec ℕ). v.items) o

-- what was read is a text, or is none
pub some_text : (content : Option (List ℕ)) (said : List ℕ → Option (List ℕ)) (o : Option (Vec ℕ)) (text : Vec ℕ) → o ≡ Some text → IfSome content (λ bytes. bytes_of o ≡ said bytes) → IfSome content (λ bytes. Some text.items ≡ said bytes)
some_text None said o text is read = tt
some_text (Some bytes) said o text is read = ap bytes_of (sym is) ∙ read

pub no_text : (content : Option (List ℕ)) (said : List ℕ → Option (List ℕ)) (o : Option (Vec ℕ)) → o ≡ None → IfSome content (λ bytes. bytes_of o ≡ said bytes) → IfSome content (λ bytes. None ≡ said bytes)
no_text None said o is read = tt
no_text (Some bytes) said o is read = ap bytes_of (sym is) ∙ read

-- pages of a segment
abbrev pub PagesLeft : Option (List ℕ) → Segment → ℕ → Type 0
PagesLeft content s page = IfSome content (λ bytes. pages_note bytes s (page_count s - page) page ≡ segment_note bytes s)

pub pages_first : (content : Option (List ℕ)) (s : Segment) → PagesLeft content s 0
pages_first None s = tt
pages_first (Some bytes) s =
    let all : page_count s - 0 ≡ page_count s = omega arith in
    ap (λ n. pages_note bytes s n 0) all

one_page : (bytes : List ℕ) (s : Segment) (page : ℕ) → page < page_count s
    → pages_note bytes s (page_count s - page) page ≡ option_or (page_text bytes s page) (pages_note bytes s (page_count s - (page + 1)) (page + 1))
unfolding pages_note
one_page bytes s page lt =
    let more : page_count s - page ≡ suc (page_count s - (page + 1)) = omega arith in
    ap (λ n. pages_note bytes s n page) more

pub page_found : (content : Option (List ℕ)) (s : Segment) (page : ℕ) (text : List ℕ) → page < page_count s → PagesLeft content s page
    → IfSome content (λ bytes. Some text ≡ page_text bytes s page) → IfSome content (λ bytes. Some text ≡ segment_note bytes s)
page_found None s page text lt left found = tt
page_found (Some bytes) s page text lt left found =
    ap (λ (o : Option (List ℕ)). option_or o (pages_note bytes s (page_count s - (page + 1)) (page + 1))) found ∙ sym (one_page bytes s page lt) ∙ left

pub page_passed : (content : Option (List ℕ)) (s : Segment) (page : ℕ) → page < page_count s → PagesLeft content s page
    → IfSome content (λ bytes. None ≡ page_text bytes s page) → PagesLeft content s (page + 1)
page_passed None s page lt left none = tt
page_passed (Some bytes) s page lt left none =
    ap (λ (o : Option (List ℕ)). option_or o (pages_note bytes s (page_count s - (page + 1)) (page + 1))) none ∙ sym (one_page bytes s page lt) ∙ left

no_pages : (bytes : List ℕ) (s : Segment) (page count : ℕ) → count ≡ 0 → pages_note bytes s count page ≡ None
unfolding pages_note
no_pages bytes s page count is = rw is refl

pub pages_ended : (content : Option (List ℕ)) (s : Segment) (page : ℕ) → page_count s ≤ page → PagesLeft content s page → IfSome content (λ bytes. None ≡ segment_note bytes s)
pages_ended None s page past left = tt
pages_ended (Some bytes) s page past left =
    let none : page_count s - page ≡ 0 = omega arith in
    sym (no_pages bytes s page (page_count s - page) none) ∙ left

-- segments
abbrev pub SegmentsLeft : Option (List ℕ) → List Segment → List Segment → Type 0
SegmentsLeft content segments left = IfSome content (λ bytes. memory_note bytes left ≡ memory_note bytes segments)

pub segments_first : (content : Option (List ℕ)) (segments : List Segment) → SegmentsLeft content segments segments
segments_first None segments = tt
segments_first (Some bytes) segments = refl

one_segment : (bytes : List ℕ) (s : Segment) (more : List Segment) → memory_note bytes (s ∷ more) ≡ option_or (segment_note bytes s) (memory_note bytes more)
unfolding memory_note
one_segment bytes s more = refl

pub segment_found : (content : Option (List ℕ)) (segments left more : List Segment) (s : Segment) (text : List ℕ) → left ≡ s ∷ more → SegmentsLeft content segments left
    → IfSome content (λ bytes. Some text ≡ segment_note bytes s) → IfSome content (λ bytes. Some text ≡ memory_note bytes segments)
segment_found None segments left more s text is so_far found = tt
segment_found (Some bytes) segments left more s text is so_far found =
    ap (λ (o : Option (List ℕ)). option_or o (memory_note bytes more)) found ∙ sym (one_segment bytes s more) ∙ ap (memory_note bytes) (sym is) ∙ so_far

pub segment_passed : (content : Option (List ℕ)) (segments left more : List Segment) (s : Segment) → left ≡ s ∷ more → SegmentsLeft content segments left
    → IfSome content (λ bytes. None ≡ segment_note bytes s) → SegmentsLeft content segments more
segment_passed None segments left more s is so_far none = tt
segment_passed (Some bytes) segments left more s is so_far none =
    ap (λ (o : Option (List ℕ)). option_or o (memory_note bytes more)) none ∙ sym (one_segment bytes s more) ∙ ap (memory_note bytes) (sym is) ∙ so_far

no_segments : (bytes : List ℕ) → memory_note bytes [] ≡ None
unfolding memory_note
no_segments bytes = refl

pub segments_ended : (content : Option (List ℕ)) (segments : List Segment) (i : ℕ) → length segments ≤ i → SegmentsLeft content segments (drop i segments) → IfSome content (λ bytes. None ≡ memory_note bytes segments)
segments_ended None segments i past left = tt
segments_ended (Some bytes) segments i past left = sym (no_segments bytes) ∙ ap (memory_note bytes) (sym (drop_all i segments past)) ∙ left
