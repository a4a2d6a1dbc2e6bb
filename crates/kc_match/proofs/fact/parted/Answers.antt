use Rattle.std.proofs.Common.{◌+◌, take, drop, option_map, ap}
use Rattle.std.proofs.lemmas.List.{take_rest}
use Rattle.kc_match.proofs.fact.parted.Goals as goal

pub returns : goal.returns
returns c =
    let text = c.args.text.now in
    rw (take_rest text (c.in_ok-at.at + 1)) (ap (option_map (λ at. (take at text, drop (at + 1) text))) c.in_ok-at.ensures.value)
