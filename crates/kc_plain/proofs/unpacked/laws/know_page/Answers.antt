use Rattle.kc_plain.proofs.UnpackLemmas.PageLaws.{pages_whole}
use Rattle.kc_plain.proofs.unpacked.laws.know_page.Goals as goal

pub returns : goal.returns
returns c = pages_whole
