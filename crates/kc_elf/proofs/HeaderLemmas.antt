-- One program header more.
use Rattle.std.proofs.Common.{◌≡◌, ℕ, zero, suc, ◌+◌, ◌-◌, ◌*◌, ◌<◌, ◌≤◌, List, [], ◌∷◌, ◌++◌, length, take, drop, refl, sym, ap, ◌∙◌, append_assoc, length-drop, arith}
use Rattle.std.proofs.lemmas.List.{append-nil}
use Rattle.kc_elf.specs.declared.program_header.ProgramHeader.{ProgramHeader}
use Rattle.kc_elf.specs.Headers.{headers, program_header_of}

pub headers_more : (n : ℕ) (table : List ℕ) → 0 < n → headers n table ≡ program_header_of (take 56 table) ∷ headers (n - 1) (drop 56 table)
unfolding headers
headers_more zero table some = absurd (omega arith)
headers_more (suc n) table some =
    let less : n ≡ suc n - 1 = omega arith in
    ap (λ k. program_header_of (take 56 table) ∷ headers k (drop 56 table)) less

pub headers_none : (n : ℕ) (table : List ℕ) → n ≡ 0 → headers n table ≡ []
unfolding headers
headers_none zero table none = refl
headers_none (suc n) table none = absurd (omega arith)

-- the loop's step and end
pub reads_one : (found : List ProgramHeader) (count many : ℕ) (rest : List ℕ) → many < count → (found ++ program_header_of (take 56 rest) ∷ []) ++ headers (count - (many + 1)) (drop 56 rest) ≡ found ++ headers (count - many) rest
reads_one found count many rest more =
    let less : count - many - 1 ≡ count - (many + 1) = omega arith in
    append_assoc found (program_header_of (take 56 rest) ∷ []) (headers (count - (many + 1)) (drop 56 rest))
    ∙ ap (λ n. found ++ program_header_of (take 56 rest) ∷ headers n (drop 56 rest)) (sym less)
    ∙ ap (λ hs. found ++ hs) (sym (headers_more (count - many) rest (omega arith)))

pub reads_all : (found : List ProgramHeader) (count many : ℕ) (rest : List ℕ) → count ≤ many → found ++ headers (count - many) rest ≡ found
reads_all found count many rest all = ap (λ hs. found ++ hs) (headers_none (count - many) rest (omega arith)) ∙ append-nil found

pub room_left : (count many : ℕ) (rest : List ℕ) → 56 * (count - many) ≤ length rest → 56 * (count - (many + 1)) ≤ length (drop 56 rest)
room_left count many rest room = omega (arith, length-drop 56 rest)
