use Rattle.std.proofs.Common.{refl}
use Rattle.kc_report.proofs.read.read_or_none.Goals as goal

pub returns-in-Ok : goal.returns-in-Ok
returns-in-Ok c = rw c.in-Ok.ensures refl

pub returns-in-Ok-read_hex16 : goal.returns-in-Ok-read_hex16
returns-in-Ok-read_hex16 c = rw (c.in-Err.ensures, c.in-Ok-read_hex16.ensures) refl

pub returns-in-Err-read_hex16 : goal.returns-in-Err-read_hex16
returns-in-Err-read_hex16 c = rw (c.in-Err.ensures, c.in-Err-read_hex16.ensures, c.shorter.ensures) refl
