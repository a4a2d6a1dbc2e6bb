use Rattle.kc_layout.proofs.FoundLemmas.{find-finds}
use Rattle.kc_layout.proofs.find.find_type.Goals as goal

pub returns-clause-found : goal.returns-clause-found
returns-clause-found c = find-finds c.args.btf.now c.args.name.now c.find_named.result c.find_named.ensures.exact
