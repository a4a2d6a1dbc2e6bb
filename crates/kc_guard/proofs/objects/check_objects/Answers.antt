use Rattle.kc_guard.proofs.objects.check_objects.Goals as goal

pub returns-clause-exact : goal.returns-clause-exact
returns-clause-exact g c = rw c.in_ok-free.ensures at c.check_each.ensures.exact
