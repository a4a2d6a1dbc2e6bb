-- Numbers are read back where they are put, and so are program headers.
use Rattle.std.proofs.Common.{◌≡◌, ℕ, zero, suc, ◌+◌, ◌*◌, ◌/◌, ◌%◌, ◌^◌, ◌≤◌, ◌<◌, List, [], ◌∷◌, ◌++◌, length, take, drop, refl, sym, ap, ◌∙◌, arith, append_assoc, append-nil, length-append}
use Rattle.std.proofs.lemmas.List.{drop-drop, drop_at, take_at}
use Rattle.byteorder.specs.Endian.{little_number}
use Rattle.byteorder.specs.Numbers.{length-bytes_low_first, little_from-bytes}
use Rattle.kc_elf.specs.declared.program_header.Kind.TheVariants.{Load}
use Rattle.kc_elf.specs.declared.program_header.ProgramHeader.{ProgramHeader}
use Rattle.kc_elf.specs.Headers.{headers, kind_of, number, program_header_of}
use Rattle.kc_kdump.specs.declared.run.PageRun.{PageRun}
use Rattle.kc_kdump.specs.Runs.{end_of, page_count, reach}
use Rattle.kc_plain.specs.declared.fields.Field.{Field}
use Rattle.kc_plain.specs.declared.fields.Field.TheVariants.{U16, U32, U64}
use Rattle.kc_plain.specs.Fields.{field_bytes, spelled}
use Rattle.kc_plain.specs.Head.{load_fields, load_headers}

-- ---- a number

abbrev pub wide : Field → ℕ
wide (U16 value) = 2
wide (U32 value) = 4
wide (U64 value) = 8

abbrev pub value_of : Field → ℕ
value_of (U16 value) = value
value_of (U32 value) = value
value_of (U64 value) = value

-- the number fits its bytes
abbrev pub Fits : Field → Type 0
Fits (U16 value) = value < 65536
Fits (U32 value) = value < 4294967296
Fits (U64 value) = value < 18446744073709551616

long_field : (f : Field) → length (field_bytes f) ≡ wide f
long_field (U16 value) = length-bytes_low_first 0 2 value
long_field (U32 value) = length-bytes_low_first 0 4 value
long_field (U64 value) = length-bytes_low_first 0 8 value

field_read : (f : Field) (rest : List ℕ) → Fits f → little_number (wide f) (field_bytes f ++ rest) ≡ value_of f
field_read (U16 value) rest fits = little_from-bytes 2 0 value rest ∙ same value fits
  where
    same : (n : ℕ) → n < 65536 → n / 256 ^ 0 % 256 ^ 2 ≡ n
    same n small = omega (arith, small)
field_read (U32 value) rest fits = little_from-bytes 4 0 value rest ∙ same value fits
  where
    same : (n : ℕ) → n < 4294967296 → n / 256 ^ 0 % 256 ^ 4 ≡ n
    same n small = omega (arith, small)
field_read (U64 value) rest fits = little_from-bytes 8 0 value rest ∙ same value fits
  where
    same : (n : ℕ) → n < 18446744073709551616 → n / 256 ^ 0 % 256 ^ 8 ≡ n
    same n small = omega (arith, small)

-- ---- a number among others

-- where the number with an index is put
abbrev pub place : ℕ → List Field → ℕ
place zero fs = 0
place (suc k) [] = 0
place (suc k) (f ∷ fs) = wide f + place k fs

at_field : (k : ℕ) (fs : List Field) (rest : List ℕ) → drop (place k fs) (spelled fs ++ rest) ≡ spelled (drop k fs) ++ rest
unfolding spelled
at_field zero fs rest = refl
at_field (suc k) [] rest = refl
at_field (suc k) (f ∷ fs) rest =
    ap (drop (wide f + place k fs)) (append_assoc (field_bytes f) (spelled fs) rest)
    ∙ sym (drop-drop (place k fs) (wide f) (field_bytes f ++ (spelled fs ++ rest)))
    ∙ ap (drop (place k fs)) (drop_at (field_bytes f) (spelled fs ++ rest) (wide f) (long_field f))
    ∙ at_field k fs rest

pub read_field : (k : ℕ) (fs : List Field) (f : Field) (more : List Field) (rest : List ℕ) → drop k fs ≡ f ∷ more → Fits f
    → little_number (wide f) (drop (place k fs) (spelled fs ++ rest)) ≡ value_of f
unfolding spelled
read_field k fs f more rest here fits =
    ap (little_number (wide f)) (at_field k fs rest ∙ ap (λ (gs : List Field). spelled gs ++ rest) here ∙ append_assoc (field_bytes f) (spelled more) rest)
    ∙ field_read f (spelled more ++ rest) fits

-- the same among the number's own bytes alone
pub part_field : (k : ℕ) (fs : List Field) (f : Field) (more : List Field) (rest : List ℕ) → drop k fs ≡ f ∷ more → Fits f
    → little_number (wide f) (take (wide f) (drop (place k fs) (spelled fs ++ rest))) ≡ value_of f
unfolding spelled
part_field k fs f more rest here fits =
    ap (λ (xs : List ℕ). little_number (wide f) (take (wide f) xs))
    (at_field k fs rest ∙ ap (λ (gs : List Field). spelled gs ++ rest) here ∙ append_assoc (field_bytes f) (spelled more) rest)
    ∙ ap (little_number (wide f)) (take_at (field_bytes f) (spelled more ++ rest) (wide f) (long_field f) ∙ sym (append-nil (field_bytes f)))
    ∙ field_read f [] fits

-- ---- a program header

abbrev pub eight : ℕ → ℕ → ℕ → ℕ → ℕ → ℕ → ℕ → ℕ → List Field
eight kind flags offset vaddr paddr filesz memsz align =
    U32 kind ∷ U32 flags ∷ U64 offset ∷ U64 vaddr ∷ U64 paddr ∷ U64 filesz ∷ U64 memsz ∷ U64 align ∷ []

pub long_eight : (kind flags offset vaddr paddr filesz memsz align : ℕ) → length (spelled (eight kind flags offset vaddr paddr filesz memsz align)) ≡ 56
unfolding spelled
long_eight kind flags offset vaddr paddr filesz memsz align =
    let f = λ (field : Field) (xs : List ℕ). length-append (field_bytes field) xs in
    let none : List ℕ = [] in
    let h8 = spelled (U64 align ∷ []) in
    let h7 = spelled (U64 memsz ∷ U64 align ∷ []) in
    let h6 = spelled (U64 filesz ∷ U64 memsz ∷ U64 align ∷ []) in
    let h5 = spelled (U64 paddr ∷ U64 filesz ∷ U64 memsz ∷ U64 align ∷ []) in
    let h4 = spelled (U64 vaddr ∷ U64 paddr ∷ U64 filesz ∷ U64 memsz ∷ U64 align ∷ []) in
    let h3 = spelled (U64 offset ∷ U64 vaddr ∷ U64 paddr ∷ U64 filesz ∷ U64 memsz ∷ U64 align ∷ []) in
    let h2 = spelled (U32 flags ∷ U64 offset ∷ U64 vaddr ∷ U64 paddr ∷ U64 filesz ∷ U64 memsz ∷ U64 align ∷ []) in
    omega (
      arith,
      f (U32 kind) h2,
      f (U32 flags) h3,
      f (U64 offset) h4,
      f (U64 vaddr) h5,
      f (U64 paddr) h6,
      f (U64 filesz) h7,
      f (U64 memsz) h8,
      f (U64 align) none,
      long_field (U32 kind),
      long_field (U32 flags),
      long_field (U64 offset),
      long_field (U64 vaddr),
      long_field (U64 paddr),
      long_field (U64 filesz),
      long_field (U64 memsz),
      long_field (U64 align),
    )

pub header_read : (kind flags offset vaddr paddr filesz memsz align : ℕ) → kind < 4294967296 → offset < 18446744073709551616
    → paddr < 18446744073709551616 → filesz < 18446744073709551616 → memsz < 18446744073709551616
    → program_header_of (spelled (eight kind flags offset vaddr paddr filesz memsz align))
    ≡ record { kind = kind_of kind; segment = record { paddr = paddr; filesz = filesz; memsz = memsz; offset = offset } }
header_read kind flags offset vaddr paddr filesz memsz align a b c d e =
    let fs = eight kind flags offset vaddr paddr filesz memsz align in
    let whole : spelled fs ++ [] ≡ spelled fs = append-nil (spelled fs) in
    let at = λ (w k : ℕ). ap (λ (xs : List ℕ). little_number w (drop k xs)) (sym whole) in
    let kind_is : number 4 (spelled fs) 0 ≡ kind = at 4 0 ∙ read_field 0 fs (U32 kind) _ [] refl a in
    let offset_is : number 8 (spelled fs) 8 ≡ offset = at 8 8 ∙ read_field 2 fs (U64 offset) _ [] refl b in
    let paddr_is : number 8 (spelled fs) 24 ≡ paddr = at 8 24 ∙ read_field 4 fs (U64 paddr) _ [] refl c in
    let filesz_is : number 8 (spelled fs) 32 ≡ filesz = at 8 32 ∙ read_field 5 fs (U64 filesz) _ [] refl d in
    let memsz_is : number 8 (spelled fs) 40 ≡ memsz = at 8 40 ∙ read_field 6 fs (U64 memsz) _ [] refl e in
    rw (kind_is, offset_is, paddr_is, filesz_is, memsz_is) refl

-- ---- a table of them

headers_more : (n : ℕ) (one rest : List ℕ) → length one ≡ 56 → headers (suc n) (one ++ rest) ≡ program_header_of one ∷ headers n rest
unfolding headers
headers_more n one rest long =
    ap (λ (xs : List ℕ). program_header_of xs ∷ headers n (drop 56 (one ++ rest))) (take_at one rest 56 long)
    ∙ ap (λ (xs : List ℕ). program_header_of one ∷ headers n xs) (drop_at one rest 56 long)

-- the program header of a run
abbrev pub load_of : ℕ → PageRun → ProgramHeader
load_of offset run = record {
  kind = Load;
  segment = record { paddr = 4096 * run.first; filesz = 4096 * run.dumped; memsz = 4096 * (run.dumped + run.left); offset = offset };
}

unfoldable pub loads_of : ℕ → List PageRun → List ProgramHeader
loads_of offset [] = []
loads_of offset (run ∷ runs) = load_of offset run ∷ loads_of (offset + 4096 * run.dumped) runs

load_read : (offset : ℕ) (run : PageRun) → end_of run ≤ 2 ^ 47 → offset < 18446744073709551616 → program_header_of (spelled (load_fields offset run)) ≡ load_of offset run
load_read offset run small fits =
    header_read 1 7 offset (2 ^ 63 + 4096 * run.first) (4096 * run.first) (4096 * run.dumped) (4096 * (run.dumped + run.left)) 0
    (omega arith) fits (omega (arith, small)) (omega (arith, small)) (omega (arith, small))

pub loads_read : (runs : List PageRun) (offset m : ℕ) (rest : List ℕ) → reach runs ≤ 2 ^ 47 → offset + 4096 * page_count runs < 18446744073709551616
    → headers (length runs + m) (load_headers offset runs ++ rest) ≡ loads_of offset runs ++ headers m rest
unfolding load_headers loads_of
loads_read [] offset m rest small fits = let none : 0 + m ≡ m = omega arith in ap (λ (n : ℕ). headers n rest) none
loads_read (run ∷ runs) offset m rest small fits =
    let more = load_headers (offset + 4096 * run.dumped) runs in
    let one = spelled (load_fields offset run) in
    let count : suc (length runs) + m ≡ suc (length runs + m) = omega arith in
    let long : length one ≡ 56 = long_eight 1 7 offset (2 ^ 63 + 4096 * run.first) (4096 * run.first) (4096 * run.dumped) (4096 * (run.dumped + run.left)) 0 in
    ap (λ (n : ℕ). headers n ((one ++ more) ++ rest)) count
    ∙ ap (λ (xs : List ℕ). headers (suc (length runs + m)) xs) (append_assoc one more rest)
    ∙ headers_more (length runs + m) one (more ++ rest) long
    ∙ ap (λ (h : ProgramHeader). h ∷ headers (length runs + m) (more ++ rest)) (load_read offset run (omega (arith, small)) (omega (arith, fits)))
    ∙ ap (λ (hs : List ProgramHeader). load_of offset run ∷ hs) (loads_read runs (offset + 4096 * run.dumped) m rest (omega (arith, small)) (omega (arith, fits)))

pub one_read : (fs : List Field) (h : ProgramHeader) (m : ℕ) (rest : List ℕ) → length (spelled fs) ≡ 56 → program_header_of (spelled fs) ≡ h
    → headers (suc m) (spelled fs ++ rest) ≡ h ∷ headers m rest
one_read fs h m rest long is = headers_more m (spelled fs) rest long ∙ ap (λ (g : ProgramHeader). g ∷ headers m rest) is
