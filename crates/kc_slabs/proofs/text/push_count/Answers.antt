use Rattle.std.specs.Prelude.{codes, decimal}
use Rattle.kc_slabs.proofs.SlabsLemmas.{three_counted}
use Rattle.kc_slabs.proofs.text.push_count.Goals as goal

pub returns : goal.returns
returns c =
    let s = c.args.scan.now in
    three_counted c.push_numbered-3.result c.args.text.now.items (codes "processors ") (decimal c.args.count) (codes " slabs ") (decimal s.slabs) (codes " unread ") (decimal s.unread) _ _ _
    c.in_ok-push_numbered.ensures c.in_ok-push_numbered-2.ensures c.push_numbered-3.ensures
