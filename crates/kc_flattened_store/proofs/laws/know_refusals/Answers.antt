use Rattle.kc_flattened_store.proofs.BrokenLemmas.{refused_broken}
use Rattle.kc_flattened_store.proofs.laws.know_refusals.Goals as goal

pub returns : goal.returns
returns c = refused_broken
