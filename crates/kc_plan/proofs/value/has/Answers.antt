use Rattle.toml.specs.View.{view}
use Rattle.kc_plan.proofs.ListLemmas.{is_some-map}
use Rattle.kc_plan.proofs.value.has.Goals as goal

pub returns : goal.returns
returns c = rw (c.is_some.ensures, ← c.value_at.ensures) (is_some-map (λ v. view v.now) c.value_at.result)
