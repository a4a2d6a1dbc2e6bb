-- How a program ends.
use Rattle.std.specs.Prelude.{◌≡◌, ⊤, ℕ, ◌≤◌, ◌⊎◌, List, length, take, Option, Some, None, IfSome}
use Rattle.kc_outside.specs.Files.{Files}
use Rattle.kc_outside.specs.Texts.{with_piece}
use Rattle.kc_command.specs.declared.ends.status.Status.{Status}
use Rattle.kc_command.specs.Ends.Failures.{memory_refused, store_failed}
use Rattle.kc_command.specs.Ends.Written.{Written}

-- a sink took the text's first bytes, as many as they are
pub record TookPrefix (old new : Option (List ℕ)) (text : List ℕ) : Type 0 where
  pub count : ℕ
  pub within : count ≤ length text
  pub took : new ≡ with_piece old (take count text)

-- the program ended as is written
pub record Tells (written : Written) (status : Status) (out_old out_new err_old err_new : Option (List ℕ)) : Type 0 where
  pub ends : status ≡ written.status
  pub out_took : out_new ≡ with_piece out_old written.out
  pub err_took : err_new ≡ with_piece err_old written.err

-- there is an output, and the program ended so
abbrev pub IsWritten : Option Written → Status → Option (List ℕ) → Option (List ℕ) → Option (List ℕ) → Option (List ℕ) → Type 0
IsWritten None status out_old out_new err_old err_new = ⊥
IsWritten (Some written) status out_old out_new err_old err_new = Tells written status out_old out_new err_old err_new

-- the same of the output over the files, where these are told
abbrev pub IsTold : (Files → Option Written) → Option Files → Status → Option (List ℕ) → Option (List ℕ) → Option (List ℕ) → Option (List ℕ) → Type 0
IsTold output None status out_old out_new err_old err_new = ⊤
IsTold output (Some files) status out_old out_new err_old err_new = IsWritten (output files) status out_old out_new err_old err_new

-- a prefix of the text that is written to standard output, if there is an output, was taken
abbrev pub TookOut : Option Written → Option (List ℕ) → Option (List ℕ) → Type 0
TookOut None old new = ⊥
TookOut (Some written) old new = TookPrefix old new written.out

-- the same of the text for standard error
abbrev pub TookErr : Option Written → Option (List ℕ) → Option (List ℕ) → Type 0
TookErr None old new = ⊥
TookErr (Some written) old new = TookPrefix old new written.err

-- what standard error took where it alone failed: a prefix of what is written to it, of the line that memory
-- is refused, or, only where the store failed, of the line that says so
abbrev pub TookLine : Option Written → Type 0 → Option (List ℕ) → Option (List ℕ) → Type 0
TookLine written store_rose old new =
    TookErr written old new ⊎ TookPrefix old new memory_refused ⊎ (store_rose × TookPrefix old new store_failed)

-- both of the output over the files
abbrev pub TookPart : (Files → Option Written) → Option Files → Option (List ℕ) → Option (List ℕ) → Type 0
TookPart output files old new = IfSome files (λ f. TookOut (output f) old new)

abbrev pub ErrFailed : (Files → Option Written) → Option Files → Type 0 → Option (List ℕ) → Option (List ℕ) → Type 0
ErrFailed output files store_rose old new = IfSome files (λ f. TookLine (output f) store_rose old new)
