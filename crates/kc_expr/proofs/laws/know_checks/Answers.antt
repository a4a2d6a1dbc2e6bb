use Rattle.kc_expr.proofs.FaultLemmas.{checks-spelled, faults-longest, texts-one}
use Rattle.kc_expr.proofs.laws.know_checks.Goals as goal

pub returns : goal.returns
returns c = record { spelled = checks-spelled; place = faults-longest; one = texts-one }
