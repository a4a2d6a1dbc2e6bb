use Rattle.std.proofs.Common.{length}
use Rattle.kc_expr.proofs.reader.+read.Given as goal

abbrev pub decreases-read : goal.decreases-read
decreases-read l = length l.text.now
