-- What comes of a fact, beside what a map and a file of types tell.
use Rattle.std.specs.Prelude.{ℕ, ℤ, pos, negsuc, ◌==◌, nat_le, Bool, true, false, List, [], ◌∷◌, length, map, Option, Some, None, option_and_then, if◌then◌else◌}
use Rattle.std.specs.Result.{result_ok}
use Rattle.kc_btf.specs.Btf.{Types}
use Rattle.kc_layout.specs.Ends.{ByteAt, located}
use Rattle.kc_layout.specs.Size.{size}
use Rattle.kc_syms.specs.Addresses.{common_of}
use Rattle.kc_match.specs.declared.outcome.Other.TheVariants.{Map, Btf}
use Rattle.kc_match.specs.declared.outcome.Outcome.{Outcome}
use Rattle.kc_match.specs.declared.outcome.Outcome.TheVariants.{Same, Differs, Unknown}
use Rattle.kc_match.specs.Facts.{Fact, Symbol, Size, Offset}
use Rattle.kc_match.specs.Named.{types_named}

-- what the files tell of a kernel: its types, the addresses that the rows of a name list, and how far KASLR moved
-- its image
pub record Compared : Type 0 where
  pub types : Types
  pub listed : List ℕ → List ℕ
  pub kaslr : ℕ

-- the address of a symbol at run time, where its rows have one in the kernel's image, which is linked to stand at
-- 0xffffffff80000000 and above
abbrev pub if_image : ℕ → Option ℕ
if_image address = if nat_le 0xffffffff80000000 address then Some address else None

unfoldable pub image_address : Compared → List ℕ → Option ℕ
image_address kernel name = option_and_then if_image (result_ok (common_of kernel.kaslr (kernel.listed name)))

-- a byte that no pointer leads to
abbrev pub if_direct : ByteAt → Option ℕ
if_direct place = if length place.hops == 0 then Some place.byte else None

-- the byte at which a member begins in a type. The empty name is no member's.
unfoldable pub byte_of : Types → List ℕ → ℕ → Option ℕ
byte_of types [] id = None
byte_of types (c ∷ cs) id = option_and_then if_direct (result_ok (located types id (c ∷ cs)))

-- a whole number is this one
abbrev pub is_number : ℤ → ℕ → Bool
is_number (pos m) n = m == n
is_number (negsuc m) n = false

-- what comes of a number of bytes that is stated, beside the one that the types tell
abbrev pub fits : ℤ → Option ℕ → Outcome
fits stated None = Unknown
fits stated (Some told) = if is_number stated told then Same else Differs (Btf told)

-- which of them it is
abbrev pub is_same : Outcome → Bool
is_same Same = true
is_same (Differs other) = false
is_same Unknown = false

-- of what comes of one fact beside two types: they tell the same where one of them does, and else the first that tells another
-- number is shown
abbrev pub either : Outcome → Outcome → Outcome
either Same other = Same
either (Differs told) other = if is_same other then Same else Differs told
either Unknown other = other

-- and beside several
abbrev pub together : List Outcome → Outcome
together [] = Unknown
together (o ∷ os) = either o (together os)

-- what comes of a number of bytes that is stated of a name, where each type of the name may tell one
abbrev pub fits_named : Types → List ℕ → (ℕ → Option ℕ) → ℤ → Outcome
fits_named types name tell stated = together (map (λ id. fits stated (tell id)) (types_named types name))

-- and of an address, beside the one that the map tells
abbrev pub stands : ℕ → Option ℕ → Outcome
stands stated None = Unknown
stands stated (Some told) = if stated == told then Same else Differs (Map told)

-- An address is compared only where it is in the kernel's image: of some symbols the note has the pointer's value.
unfoldable pub symbol_outcome : Compared → List ℕ → ℕ → Outcome
symbol_outcome kernel name address = if nat_le 0xffffffff80000000 address then stands address (image_address kernel name) else Unknown

-- what comes of a fact
abbrev pub outcome : Compared → Fact → Outcome
outcome kernel (Symbol name address) = symbol_outcome kernel name address
outcome kernel (Size name stated) = fits_named kernel.types name (size kernel.types) stated
outcome kernel (Offset name member stated) = fits_named kernel.types name (byte_of kernel.types member) stated

abbrev pub differs : Outcome → Bool
differs Same = false
differs (Differs other) = true
differs Unknown = false

abbrev pub is_unknown : Outcome → Bool
is_unknown Same = false
is_unknown (Differs other) = false
is_unknown Unknown = true
