use Rattle.kc_cert.proofs.TextLemmas.CertLaws.{audit-law}
use Rattle.kc_cert.proofs.text.read.read_head.Goals as goal
use Rattle.std.proofs.Common.{arith}

pub overflow_cast-result : goal.overflow_cast-result
overflow_cast-result c =
    let small = (audit-law.takes c.in_ok-rest.rest.now c.in_ok-audit.rest.now c.in_ok-audit.audit c.in_ok-audit.ensures).0 in
    omega (arith, small)
