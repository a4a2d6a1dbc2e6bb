-- What a text between quotation marks tells.
use Rattle.std.specs.Prelude.{◌≡◌, ℕ, ◌==◌, if◌then◌else◌, Bool, true, false, not, List, [], ◌∷◌}
use Rattle.std.specs.List.{filter, list_all}
use Rattle.kc_text.specs.Compose.{texts}
use Rattle.kc_told.specs.Text.{byte_text}

-- the byte that one stands for behind a backslash
abbrev pub escaped : ℕ → ℕ
escaped c = if c == 0x74 then 0x9 else (if c == 0x6e then 0xa else (if c == 0x72 then 0xd else c))

-- the bytes that a text tells, from a byte on or from one behind a backslash
abbrev pub bytes_from : Bool → List ℕ → List ℕ
bytes_from behind [] = []
bytes_from true (c ∷ cs) = escaped c ∷ bytes_from false cs
bytes_from false (c ∷ cs) = if c == 0x5c then bytes_from true cs else c ∷ bytes_from false cs

-- of the text of some bytes all of these but NULs
abbrev pub TextsReadBack : Type 0
TextsReadBack = (bytes : List ℕ) → bytes_from false (texts byte_text bytes) ≡ filter (λ c. not (c == 0x0)) bytes

-- and no line ends in it
abbrev pub TextsAreOneLine : Type 0
TextsAreOneLine = (bytes : List ℕ) → list_all (λ c. not (c == 0xa)) (texts byte_text bytes) ≡ true
