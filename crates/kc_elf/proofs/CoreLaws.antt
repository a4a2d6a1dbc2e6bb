-- What the definition of a core file says in the words of the format: each segment is spelled by some
-- program header of the file and its bytes are inside it, and E9 names the first program header that is out
-- of bounds.
use Rattle.std.proofs.Common.{◌≡◌, ℕ, suc, ◌+◌, ◌*◌, ◌^◌, ◌<◌, ◌≤◌, ◌⊎◌, max, Bool, true, false, not, ◌&&◌, cond, nat_le, List, [], ◌∷◌, length, map, filter, get_or, position, All, Option, Some, None, Result, Ok, Err, refl, sym, ap, ◌∙◌, subst, inl, inr, ⊎_elim, arith}
use Rattle.std.proofs.lemmas.List.Elements.{All-cons}
use Rattle.std.proofs.lemmas.List.Quantifiers.{position-Some}
use Rattle.std.proofs.lemmas.Bool.Decides.{nat_tests}
use Rattle.kc_word.specs.declared.plain.Segment.{Segment}
use Rattle.kc_elf.specs.declared.fault.CoreFault.{CoreFault}
use Rattle.kc_elf.specs.declared.fault.CoreFault.TheVariants.{E9}
use Rattle.kc_elf.specs.declared.file_header.Table.{Table}
use Rattle.kc_elf.specs.declared.program_header.Kind.{Kind}
use Rattle.kc_elf.specs.declared.program_header.Kind.TheVariants.{Load, Note, Other}
use Rattle.kc_elf.specs.declared.program_header.ProgramHeader.{ProgramHeader}
use Rattle.kc_elf.specs.CoreFile.{◌>>=◌, unless, table_by, table_of, headers_of, split_by, split_of, parts_of, core}
use Rattle.kc_elf.specs.FileHeader.{header_fault, header_count, table_at}
use Rattle.kc_elf.specs.Headers.{number, part, kind_of, is_kind, is_bad, is_bad_of, of_kind, program_header_of}
use Rattle.kc_elf.specs.Parts.{Parts}
use Rattle.kc_elf.specs.Spelling.{Spells, header_place, IsLoaded, IsPastEnd, IsOutOfBounds}
use Rattle.kc_elf.proofs.BoundLemmas.{none_passes, load_inside}
use Rattle.kc_elf.proofs.SpellingLemmas.{number_of_part, length-headers, header_at, part_of_table}

bind_ok : {A B : Type 0} (r : Result A CoreFault) (f : A → Result B CoreFault) (y : B) → (r >>= f) ≡ Ok y → (x : A) × (r ≡ Ok x) × (f x ≡ Ok y)
bind_ok (Ok x) f y is = (x, refl, is)
bind_ok (Err e) f y is = absurd (let none : ⊥ = cc in none)

bind_err : {A B : Type 0} (r : Result A CoreFault) (f : A → Result B CoreFault) (e : CoreFault) → (r >>= f) ≡ Err e → (r ≡ Err e) ⊎ ((x : A) × (r ≡ Ok x) × (f x ≡ Err e))
bind_err (Ok x) f e is = inr (x, refl, is)
bind_err (Err d) f e is = inl cc

unless_ok : {A : Type 0} (fault : Option CoreFault) (r : Result A CoreFault) (x : A) → unless fault r ≡ Ok x → r ≡ Ok x
unless_ok None r x is = is
unless_ok (Some f) r x is = absurd (let none : ⊥ = cc in none)

unless_err : {A : Type 0} (fault : Option CoreFault) (r : Result A CoreFault) (e : CoreFault) → unless fault r ≡ Err e → (fault ≡ Some e) ⊎ (r ≡ Err e)
unless_err None r e is = inr is
unless_err (Some f) r e is = inl cc

-- what is known of a table that was found
record IsTable (bytes : List ℕ) (t : Table) : Type 0 where
  offset : t.offset ≡ number 8 bytes 32
  inside : t.offset + 56 * t.count ≤ length bytes

table_at_ok : (most offset count size : ℕ) (t : Table) → table_at most offset count size ≡ Ok t → (t.offset ≡ offset) × (t.offset + 56 * t.count ≤ size)
table_at_ok most offset count size t is = grind (arith, nat_tests)

table_found : (most : ℕ) (bytes : List ℕ) (t : Table) → table_of most (length bytes) bytes ≡ Ok t → IsTable bytes t
unfolding table_of table_by
table_found most bytes t is =
    let header = part 0 64 bytes in
    let size = length bytes in
    let judged : (unless (header_fault header) (header_count header size bytes >>= λ count. table_at most (number 8 header 32) count size)) ≡ Ok t = grind (arith, nat_tests) in
    let counted : (header_count header size bytes >>= λ count. table_at most (number 8 header 32) count size) ≡ Ok t = unless_ok (header_fault header) (header_count header size bytes >>= λ count. table_at most (number 8 header 32) count size) t judged in
    let at = bind_ok (header_count header size bytes) (λ count. table_at most (number 8 header 32) count size) t counted in
    let facts = table_at_ok most (number 8 header 32) at.0 size t at.2 in
    record { offset = facts.0 ∙ number_of_part bytes 0 64 8 32 (omega arith); inside = facts.1 }

-- no fault before the program headers are looked at has an index
count_unindexed : (header bytes : List ℕ) (size i : ℕ) → header_count header size bytes ≡ Err (E9 i) → ⊥
count_unindexed header bytes size i is = grind (arith, nat_tests)

place_unindexed : (most offset count size i : ℕ) → table_at most offset count size ≡ Err (E9 i) → ⊥
place_unindexed most offset count size i is = grind (arith, nat_tests)

header_unindexed : (header : List ℕ) (i : ℕ) → header_fault header ≡ Some (E9 i) → ⊥
unfolding header_fault
header_unindexed header i is = grind (arith, nat_tests)

table_unindexed : (most : ℕ) (bytes : List ℕ) (size i : ℕ) → table_of most size bytes ≡ Err (E9 i) → ⊥
unfolding table_of table_by
table_unindexed most bytes size i is =
    let header = part 0 64 bytes in
    let by = header_count header size bytes >>= λ count. table_at most (number 8 header 32) count size in
    let judged : unless (header_fault header) by ≡ Err (E9 i) = grind (arith, nat_tests) in
    ⊎_elim
    (header_unindexed header i)
    (λ (late : by ≡ Err (E9 i)). ⊎_elim
    (count_unindexed header bytes size i)
    (λ at. place_unindexed most (number 8 header 32) at.0 size i at.2)
    (bind_err (header_count header size bytes) (λ count. table_at most (number 8 header 32) count size) (E9 i) late))
    (unless_err (header_fault header) by (E9 i) judged)

-- The program header with an index is spelled so at its place.
spelled : (bytes : List ℕ) (t : Table) (k : ℕ) (d : ProgramHeader) → IsTable bytes t → k < t.count
    → (kind : ℕ) × (kind_of kind ≡ (get_or (headers_of t bytes) k d).kind) × Spells bytes (header_place bytes k) kind (get_or (headers_of t bytes) k d).segment
spelled bytes t k d is below =
    let place = t.offset + 56 * k in
    let there : get_or (headers_of t bytes) k d ≡ program_header_of (part place 56 bytes) =
    header_at t.count k (part t.offset (56 * t.count) bytes) d below
    ∙ ap program_header_of (part_of_table t.count k t.offset bytes below) in
    let P = λ (h : ProgramHeader) (at : ℕ). (kind : ℕ) × (kind_of kind ≡ h.kind) × Spells bytes at kind h.segment in
    let first : place + 0 ≡ place = omega arith in
    let at_place : P (program_header_of (part place 56 bytes)) place = (
      number 4 bytes place,
      ap kind_of (sym (number_of_part bytes place 56 4 0 (omega arith) ∙ ap (number 4 bytes) first)),
      record {
        whole = omega (arith, is.inside);
        p_type = refl;
        p_offset = sym (number_of_part bytes place 56 8 8 (omega arith));
        p_paddr = sym (number_of_part bytes place 56 8 24 (omega arith));
        p_filesz = sym (number_of_part bytes place 56 8 32 (omega arith));
        p_memsz = sym (number_of_part bytes place 56 8 40 (omega arith));
      },
    ) in
    let same : place ≡ header_place bytes k = ap (λ n. n + 56 * k) is.offset in
    subst (λ h. P h (header_place bytes k)) (sym there) (subst (λ n. P (program_header_of (part place 56 bytes)) n) same at_place)

load_number : (n : ℕ) → kind_of n ≡ Load → n ≡ 1
load_number n is = grind (arith, nat_tests)

note_number : (n : ℕ) → kind_of n ≡ Note → n ≡ 4
note_number n is = grind (arith, nat_tests)

is_load : (k : Kind) → is_kind Load k ≡ true → k ≡ Load
is_load Load is = refl
is_load Note is = absurd (let none : ⊥ = cc in none)
is_load Other is = absurd (let none : ⊥ = cc in none)

-- what holds of each PT_LOAD holds of each of their segments
of_loads : (P : Segment → Type 0) (hs : List ProgramHeader) → All (λ (h : ProgramHeader). is_kind Load h.kind ≡ true → P h.segment) hs → All P (of_kind Load hs)
of_loads P [] all = λ k d below. absurd (omega arith)
of_loads P (h ∷ hs) all =
    let rest = of_loads P hs (λ k d below. all (suc k) d (omega arith)) in
    let first : is_kind Load h.kind ≡ true → P h.segment = all 0 h (omega arith) in
    let kept = filter (λ (g : ProgramHeader). is_kind Load g.kind) hs in
    (elim (is_kind Load h.kind) as (λ b. (b ≡ true → P h.segment) → All P (map (λ (g : ProgramHeader). g.segment) (cond b (h ∷ kept) kept))) [
      | true ↦ λ here. All-cons P h.segment (of_kind Load hs) (here refl) rest
      | false ↦ λ here. rest
    ]) first

split_none : (bad : Option ℕ) (hs : List ProgramHeader) (both : List Segment × List Segment) → split_by bad hs ≡ Ok both → (bad ≡ None) × (of_kind Load hs ≡ both.0)
split_none (Some index) hs both is = absurd (let none : ⊥ = cc in none)
split_none None hs both is = (refl, grind (arith, nat_tests))

split_loads : (size : ℕ) (hs : List ProgramHeader) (both : List Segment × List Segment) → split_of size hs ≡ Ok both → (position (is_bad size) hs ≡ None) × (of_kind Load hs ≡ both.0)
unfolding split_of
split_loads size hs both is = split_none (position (is_bad size) hs) hs both is

ok_same : {A : Type 0} (r : Result A CoreFault) (x y : A) → r ≡ Ok x → r ≡ Ok y → x ≡ y
ok_same r x y one other = let both : Ok x ≡ Ok y = sym one ∙ other in cc

-- the definition's last steps
abbrev shown_parts : List ℕ → List Segment × List Segment → Parts
shown_parts bytes both = record { segments = both.0; notes = parts_of both.1 bytes }

abbrev shown : List ℕ → List Segment × List Segment → Result Parts CoreFault
shown bytes both = Ok (shown_parts bytes both)

abbrev split_and_shown : List ℕ → Table → Result Parts CoreFault
split_and_shown bytes t = split_of (length bytes) (headers_of t bytes) >>= shown bytes

-- the bytes of a good PT_LOAD are inside the file
good_load : (size : ℕ) (h : ProgramHeader) → is_bad size h ≡ false → h.kind ≡ Load → h.segment.offset + h.segment.filesz ≤ size
good_load size h good load = load_inside size h.segment (sym (ap (λ k. is_bad_of size k h.segment) load) ∙ good)

-- no program header of the list is bad
none_bad : (size : ℕ) (hs : List ProgramHeader) → position (is_bad size) hs ≡ None → All (λ h. is_bad size h ≡ false) hs
none_bad size [] none = λ k d below. absurd (omega arith)
none_bad size (h ∷ hs) none =
    let step : (is_bad size h ≡ false) × (position (is_bad size) hs ≡ None) = none_passes (is_bad size) h hs none in
    All-cons (λ h. is_bad size h ≡ false) h hs step.0 (none_bad size hs step.1)

-- Each segment is spelled by some PT_LOAD of the file, and its bytes are inside it.
pub core_segments : (most : ℕ) (bytes : List ℕ) (parts : Parts) → core most bytes ≡ Ok parts → All (IsLoaded bytes) parts.segments
core_segments most bytes parts is =
    let size = length bytes in
    let first = bind_ok (table_of most size bytes) (split_and_shown bytes) parts is in
    let t : Table = first.0 in
    let table : IsTable bytes t = table_found most bytes t first.1 in
    let hs : List ProgramHeader = headers_of t bytes in
    let second = bind_ok (split_of size hs) (shown bytes) parts first.2 in
    let loads = split_loads size hs second.0 second.1 in
    let same : of_kind Load hs ≡ parts.segments = loads.1 ∙ ap (λ (p : Parts). p.segments) (ok_same (shown bytes second.0) (shown_parts bytes second.0) parts refl second.2) in
    let each : All (IsLoaded bytes) (of_kind Load hs) = of_loads (IsLoaded bytes) hs (λ k d below isload.
    let h : ProgramHeader = get_or hs k d in
    let found = spelled bytes t k d table (omega (arith, length-headers t.count (part t.offset (56 * t.count) bytes))) in
    let load : h.kind ≡ Load = is_load h.kind isload in
    let kind : found.0 ≡ 1 = load_number found.0 (found.1 ∙ load) in
    (k, subst (λ n. Spells bytes (header_place bytes k) n h.segment) kind found.2, good_load size h (none_bad size hs loads.0 k d below) load)) in
    subst (All (IsLoaded bytes)) same each

same_segments : (s r : Segment) → s.paddr ≡ r.paddr → s.filesz ≡ r.filesz → s.memsz ≡ r.memsz → s.offset ≡ r.offset → s ≡ r
same_segments s r a b c d =
    ap (λ (x : ℕ). record s { paddr = x }) a
    ∙ ap (λ (x : ℕ). record s { paddr = r.paddr; filesz = x }) b
    ∙ ap (λ (x : ℕ). record s { paddr = r.paddr; filesz = r.filesz; memsz = x }) c
    ∙ ap (λ (x : ℕ). record r { offset = x }) d

-- a place spells one program header
spells_one : (bytes : List ℕ) (place n m : ℕ) (s r : Segment) → Spells bytes place n s → Spells bytes place m r → (n ≡ m) × (s ≡ r)
spells_one bytes place n m s r one other = (
  sym one.p_type ∙ other.p_type,
  same_segments s r (sym one.p_paddr ∙ other.p_paddr) (sym one.p_filesz ∙ other.p_filesz) (sym one.p_memsz ∙ other.p_memsz) (sym one.p_offset ∙ other.p_offset),
)

either_fails : (a b : Bool) → not (a && b) ≡ true → (a ≡ false) ⊎ (b ≡ false)
either_fails true true is = absurd (let none : ⊥ = cc in none)
either_fails true false is = inr refl
either_fails false b is = inl refl

not_le : (a b : ℕ) → nat_le a b ≡ false → b < a
not_le a b is = grind (arith, nat_tests)

is_bad-past : (size n : ℕ) (k : Kind) (s : Segment) → kind_of n ≡ k → is_bad_of size k s ≡ true → IsPastEnd size n s
is_bad-past size n Load s kind bad =
    let one : n ≡ 1 = load_number n kind in
    ⊎_elim (λ outside. inl (inl one, not_le (s.offset + s.filesz) size outside))
    (λ high. inr (one, not_le (s.paddr + max s.filesz s.memsz) (2 ^ 64) high))
    (either_fails (nat_le (s.offset + s.filesz) size) (nat_le (s.paddr + max s.filesz s.memsz) (2 ^ 64)) bad)
is_bad-past size n Note s kind bad = inl (inr (note_number n kind), grind (arith, nat_tests))
is_bad-past size n Other s kind bad = absurd (let none : ⊥ = cc in none)

past-is_bad : (size n : ℕ) (s : Segment) → IsPastEnd size n s → is_bad_of size (kind_of n) s ≡ true
past-is_bad size n s past =
    ⊎_elim (λ (bytes : ((n ≡ 1) ⊎ (n ≡ 4)) × (size < s.offset + s.filesz)).
    ⊎_elim (λ (one : n ≡ 1). rw one (grind (arith, nat_tests))) (λ (four : n ≡ 4). rw four (grind (arith, nat_tests))) bytes.0)
    (λ (memory : (n ≡ 1) × (2 ^ 64 < s.paddr + max s.filesz s.memsz)). rw memory.0 (grind (arith, nat_tests)))
    past

split_bad : (bad : Option ℕ) (hs : List ProgramHeader) (i : ℕ) → split_by bad hs ≡ Err (E9 i) → bad ≡ Some i
split_bad (Some index) hs i is = cc
split_bad None hs i is = absurd (let none : ⊥ = grind (arith, nat_tests) in none)

split_first : (size : ℕ) (hs : List ProgramHeader) (i : ℕ) → split_of size hs ≡ Err (E9 i) → position (is_bad size) hs ≡ Some i
unfolding split_of
split_first size hs i is = split_bad (position (is_bad size) hs) hs i is

not_shown : (bytes : List ℕ) (both : List Segment × List Segment) (e : CoreFault) → shown bytes both ≡ Err e → ⊥
not_shown bytes both e is = cc

some_header : ProgramHeader
some_header = record { kind = Other; segment = record { paddr = 0; filesz = 0; memsz = 0; offset = 0 } }

-- what E9 says of the header with its index, and of those before
first_out : (bytes : List ℕ) (t : Table) (i : ℕ) → IsTable bytes t → position (is_bad (length bytes)) (headers_of t bytes) ≡ Some i
    → IsOutOfBounds bytes i × ((k : ℕ) → k < i → IsOutOfBounds bytes k → ⊥)
first_out bytes t i table found =
    let size = length bytes in
    let hs : List ProgramHeader = headers_of t bytes in
    let at = position-Some (is_bad size) hs i some_header found in
    let below : i < t.count = omega (arith, at.0, length-headers t.count (part t.offset (56 * t.count) bytes)) in
    let here = spelled bytes t i some_header table below in
    let h : ProgramHeader = get_or hs i some_header in (
      (here.0, h.segment, here.2, is_bad-past size here.0 h.kind h.segment here.1 at.1),
      λ k before out.
          let there = spelled bytes t k some_header table (omega (arith, below, before)) in
          let g : ProgramHeader = get_or hs k some_header in
          let one = spells_one bytes (header_place bytes k) out.0 there.0 out.1 g.segment out.2 there.2 in
          let bad : is_bad_of size (kind_of out.0) out.1 ≡ true = past-is_bad size out.0 out.1 out.3 in
          let same : is_bad_of size (kind_of out.0) out.1 ≡ is_bad size g =
          ap (λ n. is_bad_of size (kind_of n) out.1) one.0 ∙ ap (is_bad_of size (kind_of there.0)) one.1 ∙ ap (λ k. is_bad_of size k g.segment) there.1 in
          let both : true ≡ false = sym bad ∙ same ∙ at.2 k before in
          cc,
    )

-- E9 has the index of the first program header that is out of bounds.
pub core_E9 : (most : ℕ) (bytes : List ℕ) (i : ℕ) → core most bytes ≡ Err (E9 i) → IsOutOfBounds bytes i × ((k : ℕ) → k < i → IsOutOfBounds bytes k → ⊥)
core_E9 most bytes i is =
    let size = length bytes in
    ⊎_elim (λ (early : table_of most size bytes ≡ Err (E9 i)). absurd (table_unindexed most bytes size i early))
    (λ (late : (t : Table) × (table_of most size bytes ≡ Ok t) × (split_and_shown bytes t ≡ Err (E9 i))).
    let t : Table = late.0 in
    let table : IsTable bytes t = table_found most bytes t late.1 in
    ⊎_elim (λ (bad : split_of size (headers_of t bytes) ≡ Err (E9 i)). first_out bytes t i table (split_first size (headers_of t bytes) i bad))
    (λ (none : (both : List Segment × List Segment) × (split_of size (headers_of t bytes) ≡ Ok both) × (shown bytes both ≡ Err (E9 i))). absurd (not_shown bytes none.0 (E9 i) none.2))
    (bind_err (split_of size (headers_of t bytes)) (shown bytes) (E9 i) late.2))
    (bind_err (table_of most size bytes) (split_and_shown bytes) (E9 i) is)
