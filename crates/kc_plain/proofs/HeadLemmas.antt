-- The headers of runs, as they are put, and zeros after bytes.
use Rattle.std.proofs.Common.{◌≡◌, ℕ, zero, suc, ◌+◌, ◌-◌, ◌*◌, ◌≤◌, ◌<◌, Bool, true, false, cond, List, [], ◌∷◌, ◌++◌, length, replicate, get_or, drop, Option, Some, None, refl, sym, ap, ◌∙◌, arith, add-one, append_assoc, append-nil, length-append}
use Rattle.std.proofs.Math.Seq.{drop-cons}
use Rattle.kc_kdump.specs.declared.run.PageRun.{PageRun}
use Rattle.kc_kdump.specs.Runs.{end_of, page_count, reach}
use Rattle.byteorder.specs.Numbers.{length-bytes_low_first}
use Rattle.kc_plain.specs.declared.fields.Field.{Field}
use Rattle.kc_plain.specs.declared.fields.Field.TheVariants.{U16, U32, U64}
use Rattle.kc_plain.specs.Fields.{field_bytes, spelled}
use Rattle.kc_plain.specs.declared.root.Root.{Root}
use Rattle.kc_plain.specs.Head.{file_fields, header_count, headers_of, is_extended, load_fields, load_headers, note_fields, notes_at, padded, section_fields, section_header, root_count, root_fields, root_header, start}

-- a run among others
pub reach_at : (runs : List PageRun) (i : ℕ) (d : PageRun) → i < length runs → end_of (get_or runs i d) ≤ reach runs
reach_at [] i d here = absurd (omega arith)
reach_at (r ∷ rs) zero d here = omega arith
reach_at (r ∷ rs) (suc i) d here = let rest = reach_at rs i d (omega arith) in omega (arith, rest)

-- its pages are those of the ones from it on, less those after it
pub count_at : (runs : List PageRun) (i : ℕ) (d : PageRun) → i < length runs → page_count (drop i runs) ≡ (get_or runs i d).dumped + page_count (drop (i + 1) runs)
count_at runs i d here = ap page_count (drop-cons runs i d here) ∙ ap (λ (k : ℕ). (get_or runs i d).dumped + page_count (drop k runs)) (sym (add-one i))

pub one_run : (bytes new before : List ℕ) (runs all : List PageRun) (offset first i : ℕ) (d : PageRun) → i < length runs → new ≡ bytes ++ spelled (load_fields offset (get_or runs i d))
    → bytes ++ load_headers offset (drop i runs) ≡ before ++ load_headers first all
    → new ++ load_headers (offset + 4096 * (get_or runs i d).dumped) (drop (i + 1) runs) ≡ before ++ load_headers first all
unfolding load_headers
one_run bytes new before runs all offset first i d here is whole =
    let run = get_or runs i d in
    let rest = load_headers (offset + 4096 * run.dumped) (drop (suc i) runs) in
    ap (λ (k : ℕ). new ++ load_headers (offset + 4096 * run.dumped) (drop k runs)) (add-one i)
    ∙ ap (λ (bs : List ℕ). bs ++ rest) is
    ∙ append_assoc bytes (spelled (load_fields offset run)) rest
    ∙ ap (λ (rs : List PageRun). bytes ++ load_headers offset rs) (sym (drop-cons runs i d here))
    ∙ whole

pub drop_past : {X : Type 0} (xs : List X) (i : ℕ) → length xs ≤ i → drop i xs ≡ []
drop_past [] zero past = refl
drop_past [] (suc i) past = refl
drop_past (x ∷ xs) zero past = absurd (omega arith)
drop_past (x ∷ xs) (suc i) past = drop_past xs i (omega arith)

pub no_run : (bytes before : List ℕ) (runs all : List PageRun) (offset first i : ℕ) → length runs ≤ i
    → bytes ++ load_headers offset (drop i runs) ≡ before ++ load_headers first all → bytes ≡ before ++ load_headers first all
unfolding load_headers
no_run bytes before runs all offset first i past whole =
    sym (append-nil bytes) ∙ ap (λ (rs : List PageRun). bytes ++ load_headers offset rs) (sym (drop_past runs i past)) ∙ whole

-- one zero more
pub zero_more : (bytes new : List ℕ) (end : ℕ) → length bytes < end → new ≡ bytes ++ 0 ∷ [] → padded end new ≡ padded end bytes
zero_more bytes new end short is =
    let long : length new ≡ length bytes + 1 = ap length is ∙ length-append bytes (0 ∷ []) in
    let less : end - length bytes ≡ suc (end - length new) = omega (arith, long) in
    ap (λ (bs : List ℕ). bs ++ replicate (end - length new) 0) is
    ∙ append_assoc bytes (0 ∷ []) (replicate (end - length new) 0)
    ∙ ap (λ (n : ℕ). bytes ++ replicate n 0) (sym less)

pub no_zero : (bytes : List ℕ) (end : ℕ) → end ≤ length bytes → padded end bytes ≡ bytes
no_zero bytes end long =
    let none : end - length bytes ≡ 0 = omega arith in
    ap (λ (n : ℕ). bytes ++ replicate n 0) none ∙ append-nil bytes

-- ---- lengths

width : Field → ℕ
width (U16 value) = 2
width (U32 value) = 4
width (U64 value) = 8

abbrev widths : List Field → ℕ
widths [] = 0
widths (field ∷ fields) = width field + widths fields

length-field : (field : Field) → length (field_bytes field) ≡ width field
unfolding width
length-field (U16 value) = length-bytes_low_first 0 2 value
length-field (U32 value) = length-bytes_low_first 0 4 value
length-field (U64 value) = length-bytes_low_first 0 8 value

length-spelled : (fields : List Field) → length (spelled fields) ≡ widths fields
unfolding spelled
length-spelled [] = refl
length-spelled (field ∷ fields) =
    let rest = length-spelled fields in
    omega (arith, length-append (field_bytes field) (spelled fields), length-field field, rest)

pub file_header : (count : ℕ) → length (spelled (file_fields count)) ≡ 64
unfolding width
file_header count = length-spelled (file_fields count)

pub note_header : (offset size : ℕ) → length (spelled (note_fields offset size)) ≡ 56
unfolding width
note_header offset size = length-spelled (note_fields offset size)

load_header : (offset : ℕ) (run : PageRun) → length (spelled (load_fields offset run)) ≡ 56
unfolding width
load_header offset run = length-spelled (load_fields offset run)

sections : (count : ℕ) → length (spelled (section_fields count)) ≡ 64
unfolding width
sections count = length-spelled (section_fields count)

pub length-load_headers : (offset : ℕ) (runs : List PageRun) → length (load_headers offset runs) ≡ 56 * length runs
unfolding load_headers
length-load_headers offset [] = refl
length-load_headers offset (run ∷ runs) =
    let rest = length-load_headers (offset + 4096 * run.dumped) runs in
    omega (arith, length-append (spelled (load_fields offset run)) (load_headers (offset + 4096 * run.dumped) runs), load_header offset run, rest)

length-either : (b : Bool) (xs : List ℕ) (n : ℕ) → length xs ≡ n → length (cond b xs []) ≡ cond b n 0
length-either true xs n long = long
length-either false xs n long = refl

pub length-section : (count : ℕ) → length (section_header count) ≡ cond (is_extended count) 64 0
length-section count = length-either (is_extended count) (spelled (section_fields count)) 64 (sections count)

root_one : (first : ℕ) (root : Root) → length (spelled (root_fields first root)) ≡ 56
unfolding width
root_one first root = length-spelled (root_fields first root)

pub length-root : (first : ℕ) (root : Option Root) → length (root_header first root) ≡ 56 * root_count root
length-root first None = refl
length-root first (Some root) = root_one first root

pub length-headers : (runs : List PageRun) (root : Option Root) (notes : List ℕ) → length (headers_of runs root notes) ≡ notes_at (header_count runs root)
unfolding headers_of
length-headers runs root notes =
    let count = header_count runs root in
    let one = spelled (file_fields count) in
    let two = spelled (note_fields (notes_at count) (length notes)) in
    let three = load_headers (start runs root notes) runs in
    let four = root_header (start runs root notes) root in
    omega (
      arith,
      length-append (one ++ two ++ three ++ four) (section_header count),
      length-append (one ++ two ++ three) four,
      length-append (one ++ two) three,
      length-append one two,
      file_header count,
      note_header (notes_at count) (length notes),
      length-load_headers (start runs root notes) runs,
      length-root (start runs root notes) root,
      length-section count,
    )
