use Rattle.std.proofs.Common.{map}
use Rattle.kc_sight.specs.Views.{symbol_view}
use Rattle.kc_told.proofs.TextLemmas.{three_added}
use Rattle.kc_told.specs.ObjectText.{cache_line, holder_line, slab_line, spot_line}
use Rattle.kc_told.proofs.object_text.push_whole_slab.Goals as goal

pub returns : goal.returns
returns c =
    let s = c.args.slab.now in
    three_added c.push_spot.result c.args.text.now.items (cache_line s.cache s.objects.size) (holder_line (map symbol_view c.args.holders.now)) (slab_line c.args.head s) (spot_line s.spot s.free s.counts.frozen c.args.kept.now) _ _ _ _
    c.in_ok-push_cache.ensures c.in_ok-push_holder_line.ensures c.in_ok-push_slab.ensures c.push_spot.ensures
