-- What is known of the file in a slot, where no file tells its bytes.
use Rattle.std.specs.Prelude.{ℕ, List, [], Option, Some, None}
use Rattle.kc_outside.specs.declared.seen.Seen.{Seen}
use Rattle.kc_outside.specs.declared.seen.Seen.TheVariants.{Nothing, Opened, Sized}

-- The name that a slot holds. No name tells its bytes, so one stands for all.
abbrev pub seen_name : {F : Type 0} → Seen F → Option (List ℕ)
seen_name Nothing = None
seen_name (Opened file) = Some []
seen_name (Sized file size) = Some []

-- the size that was learnt
abbrev pub seen_size : {F : Type 0} → Seen F → Option ℕ
seen_size (Sized file size) = Some size.bytes
seen_size seen = None

-- the file that a slot holds
abbrev pub seen_file : {F : Type 0} → Seen F → Option F
seen_file Nothing = None
seen_file (Opened file) = Some file
seen_file (Sized file size) = Some file
