use Rattle.std.proofs.Common.{refl}
use Rattle.kc_by_lists.proofs.PidsLemmas.Making.{pids_end}
use Rattle.kc_by_lists.proofs.pids.listing.list_pids.Goals as goal

pub returns-clause-lists : goal.returns-clause-lists
returns-clause-lists g c =
    pids_end (λ (x : Unit {0}). c.pids_walk_by.new.chains.lists) c.in_ok-pids_walk_by.field-0 c.know_pid_lists.ensures.kept (g.S.Space.image c.args.space.now) c.args.shape.now c.args.asked.now c.in_ok-items.items c.in_ok-numbers.numbers c.in_ok-kept.kept.lists c.pids_walk_by.new.chains.lists
    c.in_ok-items.ensures.exact (rw c.in_ok-items.ensures.stays.same_image at c.in_ok-numbers.ensures.numbers) c.in_ok-kept.ensures.first (rw (c.in_ok-numbers.ensures.stays.same_image, c.in_ok-items.ensures.stays.same_image) at c.in_ok-pids_walk_by.ensures.walk) refl
