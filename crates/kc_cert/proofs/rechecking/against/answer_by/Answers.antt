use Rattle.std.proofs.Common.{arith}
use Rattle.kc_cert.proofs.RecheckingLemmas.Right.{answer_end, answer_more}
use Rattle.kc_cert.proofs.rechecking.against.answer_by.Goals as goal

pub returns-then-cursor-len : goal.returns-then-cursor-len
returns-then-cursor-len c = answer_more c.args.cert.now c.args.cursor.at c.args.cursor.counts c.number_of.result (omega arith) c.number_of.ensures

pub returns-else-cursor-len : goal.returns-else-cursor-len
returns-else-cursor-len c = answer_end c.args.cert.now c.args.cursor.at c.args.cursor.counts (omega arith)
