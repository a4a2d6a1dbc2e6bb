use Rattle.kc_word.proofs.HexLemmas.{hex_number-digits}
use Rattle.kc_word.proofs.laws.know_hex.Goals as goal

pub returns : goal.returns
returns c = hex_number-digits
