-- Where no program header is out of bounds, no segment is.
use Rattle.std.proofs.Common.{◌≡◌, ℕ, ◌+◌, ◌^◌, ◌≤◌, max, Bool, false, List, [], ◌∷◌, None, position, All, arith}
use Rattle.std.proofs.lemmas.List.Elements.{All-cons}
use Rattle.std.proofs.lemmas.Bool.Decides.{nat_tests}
use Rattle.kc_word.specs.declared.plain.Segment.{Segment}
use Rattle.kc_elf.specs.declared.program_header.Kind.{Kind}
use Rattle.kc_elf.specs.declared.program_header.Kind.TheVariants.{Load, Note, Other}
use Rattle.kc_elf.specs.declared.program_header.ProgramHeader.{ProgramHeader}
use Rattle.kc_elf.specs.Headers.{is_bad, is_bad_of, of_kind}

-- no element passes, from the first on
pub none_passes : {X : Type 0} (p : X → Bool) (x : X) (xs : List X) → position p (x ∷ xs) ≡ None → (p x ≡ false) × (position p xs ≡ None)
none_passes p x xs none = grind (arith, nat_tests)

one_more : (P : Segment → Type 0) (size : ℕ) (wanted : Kind) → ((s : Segment) → is_bad_of size wanted s ≡ false → P s) → (kind : Kind) (s : Segment) (hs : List ProgramHeader) → is_bad_of size kind s ≡ false → All P (of_kind wanted hs) → All P (of_kind wanted (record { kind = kind; segment = s } ∷ hs))
one_more P size Load fits Load s hs good rest = All-cons P s (of_kind Load hs) (fits s good) rest
one_more P size Note fits Note s hs good rest = All-cons P s (of_kind Note hs) (fits s good) rest
one_more P size Other fits Other s hs good rest = All-cons P s (of_kind Other hs) (fits s good) rest
one_more P size Load fits Note s hs good rest = rest
one_more P size Load fits Other s hs good rest = rest
one_more P size Note fits Load s hs good rest = rest
one_more P size Note fits Other s hs good rest = rest
one_more P size Other fits Load s hs good rest = rest
one_more P size Other fits Note s hs good rest = rest

all_fit : (P : Segment → Type 0) (size : ℕ) (wanted : Kind) → ((s : Segment) → is_bad_of size wanted s ≡ false → P s) → (hs : List ProgramHeader) → position (is_bad size) hs ≡ None → All P (of_kind wanted hs)
all_fit P size wanted fits [] none = λ k d below. absurd (omega arith)
all_fit P size wanted fits (h ∷ hs) none =
    let step : (is_bad size h ≡ false) × (position (is_bad size) hs ≡ None) = none_passes (is_bad size) h hs none in
    one_more P size wanted fits h.kind h.segment hs step.0 (all_fit P size wanted fits hs step.1)

pub load_inside : (size : ℕ) (s : Segment) → is_bad_of size Load s ≡ false → s.offset + s.filesz ≤ size
load_inside size s good = grind (arith, nat_tests)

load_below : (size : ℕ) (s : Segment) → is_bad_of size Load s ≡ false → s.paddr + max s.filesz s.memsz ≤ 2 ^ 64
load_below size s good = grind (arith, nat_tests)

note_inside : (size : ℕ) (s : Segment) → is_bad_of size Note s ≡ false → s.offset + s.filesz ≤ size
note_inside size s good = grind (arith, nat_tests)

pub loads_inside : (size : ℕ) (hs : List ProgramHeader) → position (is_bad size) hs ≡ None → All (λ s. s.offset + s.filesz ≤ size) (of_kind Load hs)
loads_inside size hs none = all_fit (λ s. s.offset + s.filesz ≤ size) size Load (load_inside size) hs none

pub loads_below : (size : ℕ) (hs : List ProgramHeader) → position (is_bad size) hs ≡ None → All (λ s. s.paddr + max s.filesz s.memsz ≤ 2 ^ 64) (of_kind Load hs)
loads_below size hs none = all_fit (λ s. s.paddr + max s.filesz s.memsz ≤ 2 ^ 64) size Load (load_below size) hs none

pub notes_inside : (size : ℕ) (hs : List ProgramHeader) → position (is_bad size) hs ≡ None → All (λ s. s.offset + s.filesz ≤ size) (of_kind Note hs)
notes_inside size hs none = all_fit (λ s. s.offset + s.filesz ≤ size) size Note (note_inside size) hs none
