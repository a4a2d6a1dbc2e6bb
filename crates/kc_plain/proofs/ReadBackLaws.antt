-- The plain core file, read by the definition of core files.
use Rattle.std.proofs.Common.{◌≡◌, ℕ, suc, ◌+◌, ◌-◌, ◌*◌, ◌^◌, ◌≤◌, ◌<◌, max, Bool, true, false, nat_lt, List, [], ◌∷◌, ◌++◌, length, replicate, take, drop, position, Option, Some, None, Ok, Err, IfSome, if◌then◌else◌, refl, sym, ap, ◌∙◌, subst, arith, append_assoc, append-nil, length-append}
use Rattle.std.proofs.lemmas.List.{drop_at, take_at, drop-drop, length-replicate}
use Rattle.std.proofs.lemmas.Bool.{cond-false, cond-true, le-leb, le-ltb}
use Rattle.std.proofs.lemmas.Bool.Decides.{nat_tests}
use Rattle.kc_word.specs.declared.plain.Segment.{Segment}
use Rattle.kc_elf.specs.declared.fault.CoreFault.{CoreFault}
use Rattle.kc_elf.specs.declared.fault.CoreFault.TheVariants.{E1}
use Rattle.kc_elf.specs.declared.file_header.Table.{Table}
use Rattle.kc_elf.specs.declared.program_header.Kind.TheVariants.{Load, Note}
use Rattle.kc_elf.specs.declared.program_header.ProgramHeader.{ProgramHeader}
use Rattle.kc_elf.specs.CoreFile.{core, core_of, parts_of, split_of, table_by, table_of, unless}
use Rattle.kc_elf.specs.FileHeader.{header_count, header_fault, is_elf, is_plain, table_at}
use Rattle.kc_elf.specs.Headers.{byte_sum, headers, is_bad, number, of_kind, part}
use Rattle.kc_kdump.specs.declared.run.PageRun.{PageRun}
use Rattle.kc_kdump.specs.Runs.{page_count, reach}
use Rattle.kc_plain.specs.declared.fields.Field.TheVariants.{U16, U32, U64}
use Rattle.kc_plain.specs.declared.root.Root.{Root}
use Rattle.kc_plain.specs.Fields.{spelled}
use Rattle.kc_plain.specs.Head.{file_fields, head_by, header_count as plain_count, headers_of, is_extended, load_headers, note_fields, notes_at, root_count, root_fields, root_header, section_fields, section_header, start, table_end}
use Rattle.kc_plain.specs.Pages.{AreWhole, pages}
use Rattle.kc_plain.specs.ReadBack.{ReadsBack, root_segments, segments_of}
use Rattle.kc_plain.specs.Root.{IsPage}
use Rattle.kc_plain.proofs.HeadLemmas.{file_header, length-headers, length-load_headers, length-root, length-section, note_header}
use Rattle.kc_plain.proofs.PageLaws.{length-pages}
use Rattle.kc_plain.proofs.ReadBackLemmas.{header_read, load_of, loads_of, loads_read, long_eight, one_read, part_field, read_field}

-- ---- the file header

abbrev header_bytes : ℕ → List ℕ
header_bytes n = spelled (file_fields n)

at_end : (n w k : ℕ) → number w (header_bytes n) k ≡ number w (header_bytes n ++ []) k
at_end n w k = ap (λ (xs : List ℕ). number w xs k) (sym (append-nil (header_bytes n)))

good_by : (h : List ℕ) → is_elf h ≡ true → is_plain h ≡ true → number 2 h 16 ≡ 4 → number 2 h 18 ≡ 62 → number 2 h 54 ≡ 56 → header_fault h ≡ None
unfolding header_fault
good_by h elf plain type machine size = grind (arith, nat_tests)

starts_elf : (n : ℕ) → is_elf (header_bytes n) ≡ true
unfolding spelled
starts_elf n = refl

starts_plain : (n : ℕ) → is_plain (header_bytes n) ≡ true
unfolding spelled
starts_plain n = refl

header_good : (n : ℕ) → header_fault (header_bytes n) ≡ None
header_good n =
    let fs = file_fields n in
    good_by (header_bytes n) (starts_elf n) (starts_plain n)
    (at_end n 2 16 ∙ read_field 3 fs (U16 4) _ [] refl (omega arith))
    (at_end n 2 18 ∙ read_field 4 fs (U16 62) _ [] refl (omega arith))
    (at_end n 2 54 ∙ read_field 11 fs (U16 56) _ [] refl (omega arith))

-- how many program headers it says: below 0xffff that many
not_large : (n : ℕ) → is_extended n ≡ false → n < 65535
not_large n ext = grind (arith, nat_tests)

says_few : (n : ℕ) → is_extended n ≡ false → number 2 (header_bytes n) 56 ≡ n
says_few n ext =
    let value : (if is_extended n then 0xffff else n) ≡ n = ap (λ (b : Bool). if b then 0xffff else n) ext in
    at_end n 2 56 ∙ read_field 12 (file_fields n) (U16 (if is_extended n then 0xffff else n)) _ [] refl (omega (arith, value, not_large n ext)) ∙ value

-- from there on 0xffff, and where the section header stands that says it
says_many : (n : ℕ) → is_extended n ≡ true → number 2 (header_bytes n) 56 ≡ 65535
says_many n ext =
    let value : (if is_extended n then 0xffff else n) ≡ 65535 = ap (λ (b : Bool). if b then 0xffff else n) ext in
    at_end n 2 56 ∙ read_field 12 (file_fields n) (U16 (if is_extended n then 0xffff else n)) _ [] refl (omega (arith, value)) ∙ value

says_section : (n : ℕ) → is_extended n ≡ true → n < 4294967296 → number 8 (header_bytes n) 40 ≡ table_end n
says_section n ext small =
    let value : (if is_extended n then table_end n else 0) ≡ table_end n = ap (λ (b : Bool). if b then table_end n else 0) ext in
    at_end n 8 40 ∙ read_field 8 (file_fields n) (U64 (if is_extended n then table_end n else 0)) _ [] refl (omega (arith, value, small)) ∙ value

says_place : (n : ℕ) → number 8 (header_bytes n) 32 ≡ 64
says_place n = at_end n 8 32 ∙ read_field 7 (file_fields n) (U64 64) _ [] refl (omega arith)

count_by : (h bytes : List ℕ) (size n : ℕ) → number 2 h 56 ≡ n → n < 65535 → header_count h size bytes ≡ Ok n
count_by h bytes size n is few = grind (arith, nat_tests)

count_by_section : (h bytes : List ℕ) (size n at : ℕ) → number 2 h 56 ≡ 65535 → number 8 h 40 ≡ at → at + 64 ≤ size → number 4 (part (at + 44) 4 bytes) 0 ≡ n
    → header_count h size bytes ≡ Ok n
count_by_section h bytes size n at is place inside says = rw (is, place, says) (cond-true _ _ _ (le-leb (at + 64) size inside))

section_says : (n : ℕ) (bytes more : List ℕ) → is_extended n ≡ true → n < 4294967296 → drop (table_end n) bytes ≡ section_header n ++ more
    → number 4 (part (table_end n + 44) 4 bytes) 0 ≡ n
section_says n bytes more ext small after =
    let section : section_header n ≡ spelled (section_fields n) = ap (λ (b : Bool). if b then spelled (section_fields n) else []) ext in
    ap (λ (xs : List ℕ). number 4 (take 4 xs) 0)
    (sym (drop-drop 44 (table_end n) bytes) ∙ ap (drop 44) (after ∙ ap (λ (xs : List ℕ). xs ++ more) section))
    ∙ part_field 7 (section_fields n) (U32 n) _ more refl small

count_either : (b : Bool) (n size : ℕ) (bytes more : List ℕ) → is_extended n ≡ b → n < 4294967296 → notes_at n ≤ size → drop (table_end n) bytes ≡ section_header n ++ more
    → header_count (header_bytes n) size bytes ≡ Ok n
count_either false n size bytes more ext small inside after = count_by (header_bytes n) bytes size n (says_few n ext) (not_large n ext)
count_either true n size bytes more ext small inside after =
    let place : notes_at n ≡ table_end n + 64 = ap (λ (b : Bool). table_end n + (if b then 64 else 0)) ext in
    count_by_section (header_bytes n) bytes size n (table_end n) (says_many n ext) (says_section n ext small) (omega (arith, inside, place)) (section_says n bytes more ext small after)

placed_by : (most n size : ℕ) → 0 < n → n ≤ most → 64 + 56 * n ≤ size → table_at most 64 n size ≡ Ok (record { offset = 64; count = n })
placed_by most n size some few inside = grind (arith, nat_tests)

table_read : (most n size : ℕ) (bytes : List ℕ) → 0 < n → n ≤ most → 64 + 56 * n ≤ size → part 0 64 bytes ≡ header_bytes n → header_count (header_bytes n) size bytes ≡ Ok n
    → table_of most size bytes ≡ Ok (record { offset = 64; count = n })
unfolding table_of table_by
table_read most n size bytes some within inside is counts =
    let header = header_bytes n in
    let by : table_by most header size bytes ≡ Ok (record { offset = 64; count = n }) =
    rw (counts, says_place n) (placed_by most n size some within inside) in
    let large : 64 ≤ size = omega (arith, inside) in
    ap (λ (h : List ℕ). if nat_lt size 64 then Err E1 else unless (header_fault h) (table_by most h size bytes)) is
    ∙ cond-false _ _ _ (le-ltb size 64 large)
    ∙ ap (λ (fault : Option CoreFault). unless fault (table_by most header size bytes)) (header_good n)
    ∙ by

-- ---- the program headers

abbrev note_of : ℕ → ℕ → ProgramHeader
note_of offset size = record { kind = Note; segment = record { paddr = 0; filesz = size; memsz = size; offset = offset } }

roots_of : ℕ → Option Root → List ProgramHeader
roots_of first None = []
roots_of first (Some root) = record { kind = Load; segment = record { paddr = root.physical; filesz = 4096; memsz = 4096; offset = first + 4096 * root.number } } ∷ []

root_read : (first many : ℕ) (root : Root) (m : ℕ) (rest : List ℕ) → IsPage many root → first + 4096 * many < 18446744073709551616
    → headers (suc m) (spelled (root_fields first root) ++ rest) ≡ record { kind = Load; segment = record { paddr = root.physical; filesz = 4096; memsz = 4096; offset = first + 4096 * root.number } } ∷ headers m rest
root_read first many root m rest page fits =
    let offset = first + 4096 * root.number in
    one_read (root_fields first root) _ m rest (long_eight 1 7 offset root.address root.physical 4096 4096 0)
    (header_read 1 7 offset root.address root.physical 4096 4096 0 (omega arith) (omega (arith, page.number, fits)) (omega (arith, page.below)) (omega arith) (omega arith))

roots_read : (first many : ℕ) (root : Option Root) → IfSome root (IsPage many) → first + 4096 * many < 18446744073709551616 → headers (root_count root) (root_header first root ++ []) ≡ roots_of first root
unfolding headers roots_of
roots_read first many None page fits = refl
roots_read first many (Some root) page fits = root_read first many root 0 [] page fits

all_read : (runs : List PageRun) (root : Option Root) (first at size : ℕ) → reach runs ≤ 2 ^ 47 → first + 4096 * page_count runs < 18446744073709551616
    → IfSome root (IsPage (page_count runs)) → at < 18446744073709551616 → size < 18446744073709551616
    → headers (suc (length runs + root_count root)) (spelled (note_fields at size) ++ (load_headers first runs ++ (root_header first root ++ [])))
    ≡ note_of at size ∷ (loads_of first runs ++ roots_of first root)
all_read runs root first at size small fits page at_fits size_fits =
    one_read (note_fields at size) (note_of at size) (length runs + root_count root) (load_headers first runs ++ (root_header first root ++ []))
    (long_eight 4 0 at 0 0 size size 4) (header_read 4 0 at 0 0 size size 4 (omega arith) at_fits (omega arith) size_fits size_fits)
    ∙ ap (λ (hs : List ProgramHeader). note_of at size ∷ hs)
    (loads_read runs first (root_count root) (root_header first root ++ []) small fits
    ∙ ap (λ (hs : List ProgramHeader). loads_of first runs ++ hs) (roots_read first (page_count runs) root page fits))

-- ---- all are in bounds

in_file : (size : ℕ) (h : ProgramHeader) (hs : List ProgramHeader) → is_bad size h ≡ false → position (is_bad size) hs ≡ None → position (is_bad size) (h ∷ hs) ≡ None
in_file size h hs good none = grind (arith, nat_tests)

load_good : (size : ℕ) (s : Segment) → s.offset + s.filesz ≤ size → s.paddr + max s.filesz s.memsz ≤ 2 ^ 64 → is_bad size (record { kind = Load; segment = s }) ≡ false
load_good size s inside below = grind (arith, nat_tests)

note_good : (size : ℕ) (s : Segment) → s.offset + s.filesz ≤ size → is_bad size (record { kind = Note; segment = s }) ≡ false
note_good size s inside = grind (arith, nat_tests)

roots_good : (size first many : ℕ) (root : Option Root) → IfSome root (IsPage many) → first + 4096 * many ≤ size → position (is_bad size) (roots_of first root) ≡ None
unfolding roots_of
roots_good size first many None page inside = refl
roots_good size first many (Some root) page inside =
    let seg : Segment = record { paddr = root.physical; filesz = 4096; memsz = 4096; offset = first + 4096 * root.number } in
    in_file size (record { kind = Load; segment = seg }) [] (load_good size seg (omega (arith, page.number, inside)) (omega (arith, page.below))) refl

loads_good : (size first : ℕ) (runs : List PageRun) (rest : List ProgramHeader) → reach runs ≤ 2 ^ 47 → first + 4096 * page_count runs ≤ size → position (is_bad size) rest ≡ None
    → position (is_bad size) (loads_of first runs ++ rest) ≡ None
unfolding loads_of
loads_good size first [] rest small inside none = none
loads_good size first (run ∷ runs) rest small inside none =
    in_file size (load_of first run) (loads_of (first + 4096 * run.dumped) runs ++ rest)
    (load_good size _ (omega (arith, inside)) (omega (arith, small)))
    (loads_good size (first + 4096 * run.dumped) runs rest (omega (arith, small)) (omega (arith, inside)) none)

-- ---- which are of memory, and which of notes

loads_are : (first : ℕ) (runs : List PageRun) (rest : List ProgramHeader) → of_kind Load (loads_of first runs ++ rest) ≡ segments_of first runs ++ of_kind Load rest
unfolding loads_of segments_of
loads_are first [] rest = refl
loads_are first (run ∷ runs) rest = ap (λ (ss : List Segment). (load_of first run).segment ∷ ss) (loads_are (first + 4096 * run.dumped) runs rest)

no_notes : (first : ℕ) (runs : List PageRun) (rest : List ProgramHeader) → of_kind Note (loads_of first runs ++ rest) ≡ of_kind Note rest
unfolding loads_of
no_notes first [] rest = refl
no_notes first (run ∷ runs) rest = no_notes (first + 4096 * run.dumped) runs rest

roots_are : (first : ℕ) (root : Option Root) → of_kind Load (roots_of first root) ≡ root_segments first root
unfolding roots_of
roots_are first None = refl
roots_are first (Some root) = refl

roots_no_notes : (first : ℕ) (root : Option Root) → of_kind Note (roots_of first root) ≡ []
unfolding roots_of
roots_no_notes first None = refl
roots_no_notes first (Some root) = refl

one_sum : (s : Segment) → byte_sum (s ∷ []) ≡ s.filesz
one_sum s = none_more s.filesz
  where
    none_more : (n : ℕ) → 0 + n ≡ n
    none_more n = omega arith

split_read : (size first at n : ℕ) (runs : List PageRun) (root : Option Root) → reach runs ≤ 2 ^ 47 → IfSome root (IsPage (page_count runs)) → first + 4096 * page_count runs ≤ size → at + n ≤ size → n ≤ 16777216
    → split_of size (note_of at n ∷ (loads_of first runs ++ roots_of first root))
    ≡ Ok (segments_of first runs ++ root_segments first root, record { paddr = 0; filesz = n; memsz = n; offset = at } ∷ [])
unfolding split_of
split_read size first at n runs root small page inside noted few =
    let all = loads_of first runs ++ roots_of first root in
    let note = note_of at n in
    let none : position (is_bad size) (note ∷ all) ≡ None =
    in_file size note all (note_good size note.segment noted) (loads_good size first runs (roots_of first root) small inside (roots_good size first (page_count runs) root page inside)) in
    let loads : of_kind Load (note ∷ all) ≡ segments_of first runs ++ root_segments first root =
    loads_are first runs (roots_of first root) ∙ ap (λ (ss : List Segment). segments_of first runs ++ ss) (roots_are first root) in
    let notes : of_kind Note (note ∷ all) ≡ record { paddr = 0; filesz = n; memsz = n; offset = at } ∷ [] =
    ap (λ (ss : List Segment). note.segment ∷ ss) (no_notes first runs (roots_of first root) ∙ roots_no_notes first root) in
    let seg : Segment = record { paddr = 0; filesz = n; memsz = n; offset = at } in
    let fits : byte_sum (seg ∷ []) ≤ 16777216 = subst (λ (k : ℕ). k ≤ 16777216) (sym (one_sum seg)) few in
    rw (none, loads, notes) (cond-true _ _ _ (le-leb (byte_sum (seg ∷ [])) 16777216 fits))

-- ---- the whole

core_by : (most size : ℕ) (bytes : List ℕ) (t : Table) (hs : List ProgramHeader) (ss ns : List Segment) → table_of most size bytes ≡ Ok t → headers t.count (part t.offset (56 * t.count) bytes) ≡ hs
    → split_of size hs ≡ Ok (ss, ns) → core_of most size bytes ≡ Ok (record { segments = ss; notes = parts_of ns bytes })
core_by most size bytes t hs ss ns found read parted = rw (found, read, parted) refl

-- what stands one after another, in two orders of brackets
in_order : (f n l r s o z p : List ℕ) → (((((((f ++ n) ++ l) ++ r) ++ s) ++ o) ++ z) ++ p) ≡ f ++ (n ++ (l ++ (r ++ (s ++ (o ++ (z ++ p))))))
in_order f n l r s o z p =
    let a = ((f ++ n) ++ l) ++ r in
    append_assoc ((a ++ s) ++ o) z p
    ∙ append_assoc (a ++ s) o (z ++ p)
    ∙ append_assoc a s (o ++ (z ++ p))
    ∙ append_assoc ((f ++ n) ++ l) r (s ++ (o ++ (z ++ p)))
    ∙ append_assoc (f ++ n) l (r ++ (s ++ (o ++ (z ++ p))))
    ∙ append_assoc f n (l ++ (r ++ (s ++ (o ++ (z ++ p)))))

-- a table, and what stands after it
table_first : (n l r rest : List ℕ) → n ++ (l ++ (r ++ rest)) ≡ (n ++ (l ++ (r ++ []))) ++ rest
table_first n l r rest =
    sym (append_assoc n (l ++ (r ++ [])) rest
    ∙ ap (λ (xs : List ℕ). n ++ xs) (append_assoc l (r ++ []) rest ∙ ap (λ (xs : List ℕ). l ++ (xs ++ rest)) (append-nil r)))

either_small : (b : Bool) → (if b then 64 else 0) ≤ 64
either_small true = omega arith
either_small false = omega arith

root_few : (root : Option Root) → root_count root ≤ 1
root_few None = omega arith
root_few (Some root) = omega arith

core_read : (runs : List PageRun) (root : Option Root) (notes : List ℕ) (page : ℕ → List ℕ) → reach runs ≤ 2 ^ 47 → length runs ≤ 4194304 → page_count runs ≤ 2 ^ 47 → length notes ≤ 16777216
    → IfSome root (IsPage (page_count runs)) → (most : ℕ) → plain_count runs root ≤ most → AreWhole page
    → core most (head_by runs root notes ++ pages page (page_count runs))
    ≡ Ok (record { segments = segments_of (start runs root notes) runs ++ root_segments (start runs root notes) root; notes = notes ∷ [] })
unfolding head_by headers_of
core_read runs root notes page small few many noted is_page most within whole =
    let count = plain_count runs root in
    let first = start runs root notes in
    let at = notes_at count in
    let f = header_bytes count in
    let n = spelled (note_fields at (length notes)) in
    let l = load_headers first runs in
    let r = root_header first root in
    let s = section_header count in
    let z : List ℕ = replicate (first - length (headers_of runs root notes ++ notes)) 0 in
    let p = pages page (page_count runs) in
    let file = head_by runs root notes ++ p in
    let counted : count ≡ suc (length runs + root_count root) = omega arith in
    let below : count < 4294967296 = omega (arith, few, root_few root, counted) in
    let extra : ℕ = if is_extended count then 64 else 0 in
    let extra_few : extra ≤ 64 = either_small (is_extended count) in
    let place : at ≡ 64 + 56 * count + extra = omega arith in
    let more = notes ++ (z ++ p) in
    let rest = s ++ more in
    let table = n ++ (l ++ (r ++ [])) in
    let same : file ≡ f ++ (table ++ rest) =
    in_order f n l r s notes z p ∙ ap (λ (xs : List ℕ). f ++ xs) (table_first n l r rest) in
    let long_f : length f ≡ 64 = file_header count in
    let long_n : length n ≡ 56 = note_header at (length notes) in
    let long_l = length-load_headers first runs in
    let long_r = length-root first root in
    let long_s : length s ≡ extra = length-section count in
    let long_table : length table ≡ 56 * count =
    omega (arith, length-append n (l ++ (r ++ [])), length-append l (r ++ []), append-nil r, ap (length {A = ℕ}) (append-nil r), long_n, long_l, long_r) in
    let long_p : length p ≡ 4096 * page_count runs = length-pages page (page_count runs) whole in
    let long_head : length (headers_of runs root notes) ≡ at = length-headers runs root notes in
    let long_z : length z ≡ first - length (headers_of runs root notes ++ notes) = length-replicate (first - length (headers_of runs root notes ++ notes)) 0 in
    let end = length-append (headers_of runs root notes) notes in
    let size : length file ≡ first + 4096 * page_count runs =
    omega (
      arith,
      ap (length {A = ℕ}) same,
      length-append f (table ++ rest),
      length-append table rest,
      length-append s more,
      length-append notes (z ++ p),
      length-append z p,
      long_f,
      long_table,
      long_s,
      long_p,
      long_head,
      long_z,
      end,
      place,
    ) in
    let header : part 0 64 file ≡ f = ap (take 64) same ∙ take_at f (table ++ rest) 64 long_f in
    let after_header : drop 64 file ≡ table ++ rest = ap (drop 64) same ∙ drop_at f (table ++ rest) 64 long_f in
    let after_table : drop (64 + 56 * count) file ≡ rest =
    sym (drop-drop (56 * count) 64 file) ∙ ap (drop (56 * count)) after_header ∙ drop_at table rest (56 * count) long_table in
    let counts : header_count f (length file) file ≡ Ok count =
    count_either (is_extended count) count (length file) file more refl below (omega (arith, size)) after_table in
    let found : table_of most (length file) file ≡ Ok (record { offset = 64; count = count }) =
    table_read most count (length file) file (omega arith) within (omega (arith, size, place)) header counts in
    let read : headers count (part 64 (56 * count) file) ≡ note_of at (length notes) ∷ (loads_of first runs ++ roots_of first root) =
    ap (λ (xs : List ℕ). headers count (take (56 * count) xs)) after_header
    ∙ ap (headers count) (take_at table rest (56 * count) long_table)
    ∙ ap (λ (k : ℕ). headers k table) counted
    ∙ all_read runs root first at (length notes) small (omega (arith, many, place, noted, below, extra_few)) is_page (omega (arith, place, below, extra_few)) (omega (arith, noted)) in
    let parted = split_read (length file) first at (length notes) runs root small is_page (omega (arith, size)) (omega (arith, size, place)) noted in
    let after_section : drop (64 + 56 * count + extra) file ≡ more =
    sym (drop-drop extra (64 + 56 * count) file) ∙ ap (drop extra) after_table ∙ drop_at s more extra long_s in
    let noted_at : part at (length notes) file ≡ notes =
    ap (λ (k : ℕ). take (length notes) (drop k file)) place ∙ ap (take (length notes)) after_section ∙ take_at notes (z ++ p) (length notes) refl in
    core_by most (length file) file (record { offset = 64; count = count }) _ _ _ found read parted
    ∙ ap (λ (xs : List ℕ). Ok (record { segments = segments_of first runs ++ root_segments first root; notes = xs ∷ [] })) noted_at

pub reads_back : (runs : List PageRun) (root : Option Root) (notes : List ℕ) (count : ℕ) → reach runs ≤ 2 ^ 47 → length runs ≤ 4194304 → count ≡ page_count runs → count ≤ 2 ^ 47 → length notes ≤ 16777216
    → IfSome root (IsPage count) → ReadsBack runs root notes count
reads_back runs root notes count small few is many noted is_page = λ most within page whole.
    ap (λ (k : ℕ). core most (head_by runs root notes ++ pages page k)) is
    ∙ core_read runs root notes page small few (omega (arith, is, many)) noted (subst (λ (k : ℕ). IfSome root (IsPage k)) is is_page) most within whole
