use Rattle.kc_cert.proofs.Single.{certificates_once}
use Rattle.kc_cert.proofs.laws.know_single.Goals as goal

pub returns-clause-certificates : goal.returns-clause-certificates
returns-clause-certificates c = certificates_once c.know_kinds.ensures.one
