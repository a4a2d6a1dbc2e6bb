use Rattle.kc_text.proofs.ReaderLaws.{literal-law, name-law, decimal-law, hex-law, digit-law}
use Rattle.kc_text.proofs.laws.know_formats.Goals as goal

pub returns : goal.returns
returns c = record { literal = literal-law; name = name-law; decimal = decimal-law; hex = hex-law; digit = digit-law }
