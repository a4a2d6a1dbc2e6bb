-- What a call leaves of the count of failures of the store below.
use Rattle.std.specs.Prelude.{◌≡◌, ℕ, Result, Ok, Err}
use Rattle.kc_outside.specs.Counts.{Rose}
use Rattle.kc_plain_store.specs.declared.stop.ViewFault.{ViewFault}
use Rattle.kc_plain_store.specs.declared.stop.ViewFault.TheVariants.{Store, Refused, Page, NoMemory}

-- a call of the store failed exactly where this is reported
abbrev pub CountsOpening : {A : Type 0} → Result A ViewFault → ℕ → ℕ → Type 0
CountsOpening (Ok a) before after = after ≡ before
CountsOpening (Err (Refused fault)) before after = after ≡ before
CountsOpening (Err (Page bad)) before after = after ≡ before
CountsOpening (Err Store) before after = Rose before after
CountsOpening (Err NoMemory) before after = after ≡ before
