use Rattle.std.proofs.Common.{length}
use Rattle.kc_text.proofs.table.+read_one_of.Given as goal

abbrev pub decreases-read_one_of : goal.decreases-read_one_of
decreases-read_one_of g l = length l.values.now
