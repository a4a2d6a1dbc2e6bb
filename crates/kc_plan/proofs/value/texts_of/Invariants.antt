use Rattle.std.proofs.Common.{◌≡◌, drop}
use Rattle.toml.specs.Data.{as_str}
use Rattle.toml.specs.View.{items_view}
use Rattle.kc_plan.specs.Values.{all_read}
use Rattle.kc_plan.specs.Views.{texts}
use Rattle.kc_plan.proofs.ListLemmas.{with_front}
use Rattle.kc_plan.proofs.value.texts_of.Given as goal

-- the texts so far, with those that are left
abbrev pub invariant-loop-value : goal.invariant-loop-value
invariant-loop-value l =
    with_front (texts l.found) (all_read as_str (items_view (drop l.value-index l.array.items))) ≡ all_read as_str (items_view l.array.items)
