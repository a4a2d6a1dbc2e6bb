use Rattle.std.proofs.Common.{sym}
use Rattle.kc_match.specs.Views.{measured}
use Rattle.kc_match.proofs.TypesOfNames.{no_types}
use Rattle.kc_match.proofs.kernel.named_outcome.Goals as goal

pub returns-in-None : goal.returns-in-None
returns-in-None c = sym (no_types c.args.types.now c.args.name.now (measured c.args.types.now c.args.measure) c.args.stated (sym c.in-None.ensures.exact))
