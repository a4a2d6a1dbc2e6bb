use Rattle.std.proofs.Common.{rules}
use Rattle.kc_btf.proofs.NameLemmas.{start_before}
use Rattle.kc_btf.proofs.btf.start_before_nul.Goals as goal

pub returns : goal.returns
returns c = search (rules, start_before c.args.text.now c.args.most)
