use Rattle.std.proofs.Common.{inl}
use Rattle.kc_kplain.proofs.Copies.{at_store, line_failed}
use Rattle.kc_kplain.proofs.plain.end_reading.Goals as goal

pub returns-in-None-clause-failed : goal.returns-in-None-clause-failed
returns-in-None-clause-failed g c = line_failed c.end_with_line.result c.end_with_line.ensures.status

pub returns-in-None-clause-store : goal.returns-in-None-clause-store
returns-in-None-clause-store g c = at_store _ _ c.end_with_line.result (λ took. inl took) c.end_with_line.ensures.whole
