use Rattle.std.proofs.Common.{length, subst, sym}
use Rattle.kc_repair.specs.declared.first.Breaking.{Breaking}
use Rattle.kc_repair.specs.Repairs.{WalkInside}
use Rattle.kc_repair.proofs.FirstWalks.{finds-inside}
use Rattle.kc_repair.proofs.first.breaking_of.Goals as goal

pub returns-clause-inside : goal.returns-clause-inside
returns-clause-inside g c =
    subst (λ (b : Breaking). WalkInside (length c.args.audit.now.types.now.records) b.walk) (sym c.breaking_by.ensures)
    (finds-inside (length c.args.audit.now.types.now.records) c.walk_from-walk.result _ c.walk_from-walk.ensures.inside)
