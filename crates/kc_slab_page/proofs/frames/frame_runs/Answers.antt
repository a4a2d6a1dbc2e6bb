use Rattle.std.proofs.Common.{rules, ◌≡◌, ◌∙◌, drop, length, arith}
use Rattle.std.proofs.lemmas.List.{take-append-le, take_all}
use Rattle.kc_slab_page.proofs.FramesLemmas.FrameLemmas.{frames_covered}
use Rattle.kc_slab_page.proofs.frames.frame_runs.Goals as goal

pub returns : goal.returns
returns c =
    let runs = c.in_ok-runs.runs in
    let sorted = c.sort_runs.new.runs in
    let same : length sorted ≡ runs.len = c.sort_runs.auto.runs ∙ c.deref_mut.ensures.len in
    frames_covered c.args.segments.now sorted c.deref.result.now runs.items c.parted.result c.in_ok-runs.ensures
    (search rules) c.sort_runs.ensures.rising
    (c.deref.ensures.value ∙ take-append-le runs.len sorted (drop (length sorted) runs.items) (omega (arith, same)) ∙ take_all runs.len sorted (omega (arith, same)))
    c.parted.ensures
