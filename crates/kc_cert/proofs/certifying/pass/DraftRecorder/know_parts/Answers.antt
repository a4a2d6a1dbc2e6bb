use Rattle.kc_run.specs.Parts.{Tallied}
use Rattle.kc_run.proofs.Parts.{of_both, of_part}
use Rattle.kc_run.proofs.Tallying.{tallied}
use Rattle.kc_cert.specs.Certifying.Certified.{Made}
use Rattle.kc_cert.specs.declared.certifying.pass.Draft.{Draft}
use Rattle.kc_cert.proofs.CertifyingLemmas.Passing.{made}
use Rattle.kc_cert.proofs.certifying.pass.DraftRecorder.know_parts.Goals as goal

pub returns : goal.returns
returns c = of_both (λ image audits part (x y : Draft) r. Tallied image audits part x.counts y.counts r) Made (of_part (λ (x : Draft). x.counts) Tallied tallied) made
