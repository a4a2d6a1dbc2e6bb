-- A field that was read, or missed, is one that can be read, or can't.
use Rattle.std.proofs.Common.{◌≡◌, Some, None, Result, Ok, Err, refl}
use Rattle.kc_memory.specs.Stopped.{Stopped}
use Rattle.kc_view.specs.declared.fields.FieldNumber.{FieldNumber}
use Rattle.kc_view.specs.Fields.{or_missed}
use Rattle.kc_found.specs.declared.asked.Asked.{Asked}
use Rattle.kc_found.specs.Nodes.{readable}
use Rattle.kc_found.specs.Violations.{Violation}

pub read_is : (asked : Asked) (r : Result FieldNumber Stopped) (n : FieldNumber) → or_missed asked r ≡ Ok n → readable r ≡ Some n
read_is asked (Ok m) n is = cc
read_is asked (Err s) n is = absurd (cc)

pub missed_is : (asked : Asked) (r : Result FieldNumber Stopped) (v : Violation) → or_missed asked r ≡ Err v → readable r ≡ None
missed_is asked (Ok m) v is = absurd (cc)
missed_is asked (Err s) v is = refl
