use Rattle.std.proofs.Common.{ℕ, Vec, Global}
use Rattle.kc_layout.proofs.IndexLemmas.{added_seen}
use Rattle.kc_layout.proofs.names.keep.Goals as goal

pub returns-clause-added : goal.returns-clause-added
returns-clause-added c =
    added_seen (λ (v : Vec ℕ Global). v.items) c.args.buckets.now.items c.args.bucket c.args.id c.index_mut.result.now c.push.new.self c.requires c.index_mut.ensures.value c.in_ok-push.ensures.items
