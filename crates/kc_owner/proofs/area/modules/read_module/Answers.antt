use Rattle.kc_owner.proofs.AreaLemmas.Despite.{module_told}
use Rattle.kc_owner.proofs.area.modules.read_module.Goals as goal

pub returns-clause-exact : goal.returns-clause-exact
returns-clause-exact g c =
    module_told (g.S.Space.image c.args.space.now) c.args.shape.now c.args.address c.in_ok-ring.ring c.in_modules-found.result c.despite_any.result
    c.in_ok-ring.ensures.exact (rw c.in_ok-ring.ensures.stays.same_image at c.in_modules-found.ensures.exact) c.despite_any.ensures
