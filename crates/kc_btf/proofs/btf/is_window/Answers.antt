use Rattle.std.proofs.Common.{rules}
use Rattle.kc_btf.proofs.NameLemmas.{window_is_enough}
use Rattle.kc_btf.proofs.btf.is_window.Goals as goal

pub returns : goal.returns
returns c = search (rules, window_is_enough c.args.text.now c.args.name.now)
