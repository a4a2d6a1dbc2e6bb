-- What a read of the system's files did.
use Rattle.std.specs.Prelude.{◌≡◌, ℕ, List, Option, Some, IfSome}
use Rattle.std.specs.Io.KnownBytes.{Keeps, Consumes}

-- The bytes were read from an offset on, as far as the file tells: it was moved to the offset, with all its bytes as
-- they were, and what it then had left began with just these bytes, and lost them. A file that doesn't tell where it
-- stands, what all its bytes are or what it has left says nothing of that part; std's `File` tells none of the three.
abbrev pub IsReadFrom :
    {F : Type 0} → (F → Option ℕ) → (F → Option (List ℕ)) → (F → Option (List ℕ)) → F → F → ℕ → List ℕ → Type 0
IsReadFrom position all remaining old new offset bytes =
    (moved : _)
    × IfSome (position old) (λ _. position moved ≡ Some offset)
    × Keeps (all old) (all moved)
    × Consumes (remaining moved) (remaining new) bytes
