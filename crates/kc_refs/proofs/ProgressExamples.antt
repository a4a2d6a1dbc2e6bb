-- What is said of searches of some sizes.
use Rattle.std.proofs.Common.{◌≡◌, ℕ, true, false, [], ◌∷◌, refl}
use Rattle.kc_word.specs.declared.plain.Segment.{Segment}
use Rattle.kc_text.specs.Compose.{texts}
use Rattle.kc_refs.specs.Progress.{progress_text, read_line}

-- a segment with so many file bytes, from an address on
abbrev of_bytes : ℕ → ℕ → Segment
of_bytes paddr filesz = record { paddr = paddr; filesz = filesz; memsz = filesz; offset = 0 }

-- a byte less than a gigabyte, a gigabyte, and one that begins after a word's first byte
below_one : progress_text true (of_bytes 4096 999999999 ∷ []) ≡ []
below_one = refl

just_one : progress_text true (of_bytes 4096 1000000000 ∷ []) ≡ texts (read_line 1) (1 ∷ [])
just_one = refl

not_one : progress_text true (of_bytes 4097 1000000000 ∷ []) ≡ []
not_one = refl

-- a word more: a second one is begun
above_one : progress_text true (of_bytes 4096 1000000008 ∷ []) ≡ texts (read_line 2) (1 ∷ [])
above_one = refl

two_and_a_half : progress_text true (of_bytes 4096 2500000000 ∷ []) ≡ texts (read_line 3) (1 ∷ 2 ∷ [])
two_and_a_half = refl

-- segments that add up, of which each is below one, and whose gigabytes end inside a segment
added : progress_text true (of_bytes 4096 600000000 ∷ of_bytes 0x100000000 600000000 ∷ of_bytes 0x200000000 800000000 ∷ []) ≡ texts (read_line 2) (1 ∷ 2 ∷ [])
added = refl

-- nothing to read, and nothing to tell
none : progress_text true [] ≡ []
none = refl

unwanted : progress_text false (of_bytes 4096 2500000000 ∷ []) ≡ []
unwanted = refl
