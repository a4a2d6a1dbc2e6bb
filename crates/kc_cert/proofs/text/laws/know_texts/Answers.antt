use Rattle.kc_cert.proofs.TextLemmas.CertLaws.{texts_told}
use Rattle.kc_cert.proofs.text.laws.know_texts.Goals as goal

pub returns : goal.returns
returns c = texts_told
