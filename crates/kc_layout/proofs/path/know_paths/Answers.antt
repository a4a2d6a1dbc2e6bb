use Rattle.kc_layout.proofs.SpellingLemmas.{paths-spelled}
use Rattle.kc_layout.proofs.path.know_paths.Goals as goal

pub returns : goal.returns
returns c = paths-spelled
