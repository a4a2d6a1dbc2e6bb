use Rattle.std.proofs.Common.{◌≡◌, string_bytes}
use Rattle.std.specs.List.{list_all}
use Rattle.toml.specs.View.{table_view}
use Rattle.kc_plan.specs.Audits.{all_keys}
use Rattle.kc_plan.specs.Keys.{is_one_of}
use Rattle.kc_plan.proofs.value.has_only.Given as goal

-- all keys are known where those that are left are
abbrev pub invariant-loop-key : goal.invariant-loop-key
invariant-loop-key l =
    list_all (λ key. is_one_of l.keys (string_bytes key)) l.key-iterator ≡ all_keys (is_one_of l.keys) (table_view l.table)
