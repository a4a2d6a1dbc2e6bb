use Rattle.std.proofs.Common.{length}
use Rattle.kc_text.specs.Compose.{texts}
use Rattle.kc_slab_page.specs.Caches.{caches_view}
use Rattle.kc_slabs.specs.Text.{slab_text, totals_lines}
use Rattle.kc_slabs.proofs.SlabsLemmas.{seen_after}
use Rattle.kc_slabs.proofs.text.push_seen.Goals as goal

pub returns : goal.returns
returns c =
    let s = c.args.seen.now in
    seen_after c.push_totals.result c.args.text.now.items (texts (slab_text (caches_view s.caches))) c.as_slice.result.now s.scan.broken _ _ (totals_lines s.scan.totals)
    c.len.result (length s.scan.broken) c.push_broken.new.text.items c.push_owned.new.text.items c.push_caches.new.text.items c.push_totals.new.text.items
    c.as_slice.ensures c.len.ensures c.in_ok-push_broken.ensures c.in_ok-push_owned.ensures c.in_ok-push_caches.ensures c.push_totals.ensures
