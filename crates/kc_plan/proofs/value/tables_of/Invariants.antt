use Rattle.std.proofs.Common.{◌≡◌, drop}
use Rattle.toml.specs.Data.{as_table}
use Rattle.toml.specs.View.{items_view}
use Rattle.kc_plan.specs.Values.{all_read}
use Rattle.kc_plan.specs.Views.{tables_seen}
use Rattle.kc_plan.proofs.ListLemmas.{with_front}
use Rattle.kc_plan.proofs.value.tables_of.Given as goal

-- the tables so far, with those that are left
abbrev pub invariant-loop-value : goal.invariant-loop-value
invariant-loop-value l =
    with_front (tables_seen l.found) (all_read as_table (items_view (drop l.value-index l.array.items))) ≡ all_read as_table (items_view l.array.items)
