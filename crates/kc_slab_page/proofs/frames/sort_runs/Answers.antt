use Rattle.std.proofs.Common.{rules}
use Rattle.std.proofs.lemmas.List.Sorted.{IsNonDecreasingBy-from_sort_by_key}
use Rattle.kc_slab_page.specs.declared.frames.FrameRun.{FrameRun}
use Rattle.kc_slab_page.proofs.frames.sort_runs.Goals as goal

pub returns-clause-rising : goal.returns-clause-rising
returns-clause-rising c =
    IsNonDecreasingBy-from_sort_by_key (λ (r : FrameRun). r.first) c.sort_unstable_by_key.new.self c.sort_unstable_by_key.ensures.sorted (λ a r q k. search rules)
