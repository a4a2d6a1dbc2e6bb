use Rattle.kc_syms.specs.Symbols.{symbol}
use Rattle.kc_match.proofs.MatchLemmas.{prints_matched}
use Rattle.kc_match.proofs.files.match_map.Goals as goal

pub returns-clause-output : goal.returns-clause-output
returns-clause-output c =
    let read = c.in_ok-symbols.ensures.made in
    prints_matched c.args.note.now c.args.types.now c.args.kaslr c.args.told c.args.map.now (symbol c.in_ok-symbols.symbols) read.0 c.in_ok-answer.field-0 read.1 read.2 c.in_ok-answer.ensures
