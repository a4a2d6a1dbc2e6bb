use Rattle.std.specs.Prelude.{codes, decimal, length}
use Rattle.kc_slabs.proofs.SlabsLemmas.{two_counted}
use Rattle.kc_slabs.specs.OfCache.{first_cpu}
use Rattle.kc_slabs.proofs.of_cache.push_owned_count.Goals as goal

pub returns : goal.returns
returns c =
    let s = c.args.seen.now.scan in
    two_counted c.push_first_cpu.result c.args.text.now.items (codes " processors ") (decimal s.slabs) (codes " broken ") (decimal (length s.broken)) (first_cpu s.broken) _ _ _
    c.in_ok-push_numbered.ensures (rw c.len.ensures at c.in_ok-push_numbered-2.ensures) (rw c.as_slice.ensures at c.push_first_cpu.ensures)
