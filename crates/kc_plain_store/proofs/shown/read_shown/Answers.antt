use Rattle.std.proofs.Common.{Some, ap, ◌∙◌}
use Rattle.kc_plain_store.specs.declared.shape.PlainShape.{PlainShape}
use Rattle.kc_plain_store.specs.declared.shape.PlainShape.TheVariants.{Plain}
use Rattle.kc_plain_store.proofs.shown.read_shown.Goals as goal

pub read_shape-requires-clause-known : goal.read_shape-requires-clause-known
read_shape-requires-clause-known g c = c.requires.known _ c.in-Some.is

pub read_shape-requires-clause-kept : goal.read_shape-requires-clause-kept
read_shape-requires-clause-kept g c = λ core here. c.requires.kept core (c.in-Some.is ∙ ap (λ (s : PlainShape). Some s) here)

pub read_shape-requires-clause-within : goal.read_shape-requires-clause-within
read_shape-requires-clause-within g c = c.requires.within _ c.in-Some.is
