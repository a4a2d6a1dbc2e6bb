-- Texts of a kernel's memory: bytes that end with a NUL.
use Rattle.std.specs.Prelude.{ℕ, ◌%◌, zero, suc, false, nat_eq, if◌then◌else◌, List, [], ◌∷◌, Option, Some, None, option_map}
use Rattle.kc_memory.specs.Bits.{Number, bits}
use Rattle.kc_memory.specs.Image.{Image}
use Rattle.kc_found.specs.FreeLists.{low_word}
use Rattle.kc_found.specs.Nodes.{at_offset, readable}

-- the byte at an address, where it can be read
abbrev pub byte_at : Image → ℕ → Option ℕ
byte_at image at = option_map (λ (n : Number). low_word n.value % 256) (readable (bits image at 0 8 false))

-- a byte and the text after it: text ends before a NUL, and before what can't be read
abbrev pub text_from : Option ℕ → List ℕ → List ℕ
text_from None rest = []
text_from (Some c) rest = if nat_eq c 0 then [] else c ∷ rest

-- the text at an address, of so many bytes at most
unfoldable pub text : Image → ℕ → ℕ → List ℕ
text image zero at = []
text image (suc left) at = text_from (byte_at image at) (text image left (at_offset at 1))
