-- That a number of a part is the file's number at the part's place.
use Rattle.std.proofs.Common.{◌≡◌, ℕ, zero, suc, ◌+◌, ◌-◌, ◌*◌, ◌<◌, ◌≤◌, List, length, take, drop, get_or, slice_index, refl, sym, ap, ◌∙◌, arith}
use Rattle.std.proofs.lemmas.List.{get_or-take, get_or-drop, drop-drop, drop-take, take-take}
use Rattle.byteorder.specs.Endian.{little_from}
use Rattle.kc_elf.specs.declared.program_header.ProgramHeader.{ProgramHeader}
use Rattle.kc_elf.specs.Headers.{number, part, headers, program_header_of}

-- bytes that agree give one number
little_agrees : (n i : ℕ) (xs ys : List ℕ) → ((k : ℕ) → k < i + n → slice_index xs k ≡ slice_index ys k) → little_from i n xs ≡ little_from i n ys
little_agrees zero i xs ys same = refl
little_agrees (suc n) i xs ys same =
    let head : slice_index xs i ≡ slice_index ys i = same i (omega arith) in
    let rest : little_from (suc i) n xs ≡ little_from (suc i) n ys = little_agrees n (suc i) xs ys (λ k below. same k (omega arith)) in
    cc

byte_of_part : (bytes : List ℕ) (place count at k : ℕ) → at + k < count → slice_index (drop at (part place count bytes)) k ≡ slice_index (drop (place + at) bytes) k
byte_of_part bytes place count at k within =
    get_or-drop at (take count (drop place bytes)) k 0
    ∙ get_or-take count (drop place bytes) (at + k) 0 within
    ∙ get_or-drop place bytes (at + k) 0
    ∙ ap (λ i. get_or bytes i 0) (omega arith)
    ∙ sym (get_or-drop (place + at) bytes k 0)

-- a number of a part
pub number_of_part : (bytes : List ℕ) (place count width at : ℕ) → at + width ≤ count → number width (part place count bytes) at ≡ number width bytes (place + at)
number_of_part bytes place count width at within =
    little_agrees width 0 (drop at (part place count bytes)) (drop (place + at) bytes) (λ k below. byte_of_part bytes place count at k (omega arith))

pub length-headers : (n : ℕ) (table : List ℕ) → length (headers n table) ≡ n
unfolding headers
length-headers zero table = refl
length-headers (suc n) table = ap suc (length-headers n (drop 56 table))

-- the header with an index
pub header_at : (n k : ℕ) (table : List ℕ) (d : ProgramHeader) → k < n → get_or (headers n table) k d ≡ program_header_of (part (56 * k) 56 table)
unfolding headers
header_at zero k table d below = absurd (omega arith)
header_at (suc n) zero table d below = refl
header_at (suc n) (suc k) table d below =
    let next : 56 + 56 * k ≡ 56 * suc k = omega arith in
    header_at n k (drop 56 table) d (omega arith)
    ∙ ap (λ xs. program_header_of (take 56 xs)) (drop-drop (56 * k) 56 table ∙ ap (λ i. drop i table) next)

-- a header of the table is a part of the file
pub part_of_table : (n k offset : ℕ) (bytes : List ℕ) → k < n → part (56 * k) 56 (part offset (56 * n) bytes) ≡ part (offset + 56 * k) 56 bytes
part_of_table n k offset bytes below =
    let more = 56 * n - 56 * k in
    let whole : 56 * n ≡ 56 * k + more = omega arith in
    let enough : 56 ≤ more = omega arith in
    ap (λ m. take 56 (drop (56 * k) (take m (drop offset bytes)))) whole
    ∙ ap (take 56) (drop-take (56 * k) more (drop offset bytes))
    ∙ take-take 56 more (drop (56 * k) (drop offset bytes)) enough
    ∙ ap (take 56) (drop-drop (56 * k) offset bytes)
