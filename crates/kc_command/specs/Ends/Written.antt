-- What a program writes.
use Rattle.std.specs.Prelude.{ℕ, List, []}
use Rattle.kc_command.specs.declared.refusal.Refusal.{Refusal}
use Rattle.kc_command.specs.Lines.{refusal_line}
use Rattle.kc_command.specs.declared.ends.status.Status.{Status}
use Rattle.kc_command.specs.declared.ends.status.Status.TheVariants as status

-- what standard output and standard error take, and the status
pub record Written : Type 0 where
  pub out : List ℕ
  pub err : List ℕ
  pub status : Status

-- of a refusal, and of words that aren't a command
abbrev pub refused_with : Refusal → Written
refused_with refusal = record { out = []; err = refusal_line refusal; status = status.Refused }

abbrev pub usage_with : List ℕ → Written
usage_with usage = record { out = []; err = usage; status = status.NoCommand }
