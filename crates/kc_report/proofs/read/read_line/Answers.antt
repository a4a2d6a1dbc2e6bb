use Rattle.std.proofs.Common.{refl}
use Rattle.kc_report.proofs.read.read_line.Goals as goal

pub returns : goal.returns
returns c = rw (c.in_ok-rest.ensures, c.in_ok-name.ensures, c.in_ok-rest-2.ensures, c.in_ok-walks.ensures, c.in_ok-rest-3.ensures, c.in_ok-elements.ensures) refl
