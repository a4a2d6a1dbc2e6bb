use Rattle.std.proofs.Common.{◌≡◌, refl, List, ℕ}
use Rattle.kc_found.specs.Blocks.{with_blocks, IsTable}
use Rattle.kc_found.proofs.Stored.{nothing_in}
use Rattle.kc_found.proofs.Table.{all_free}
use Rattle.kc_found.proofs.blocks.empty.Goals as goal

pub returns-in-Ok-clause-table : goal.returns-in-Ok-clause-table
returns-in-Ok-clause-table c =
    let same = c.in-Ok.ensures.items_if_clones_equal (λ y is. is) in
    let table : IsTable c.in-Ok.blocks.items = rw same (all_free _ _ refl refl) in table

pub returns-in-Ok-clause-words : goal.returns-in-Ok-clause-words
returns-in-Ok-clause-words c =
    let same = c.in-Ok.ensures.items_if_clones_equal (λ y is. is) in
    let words : (taken : List ℕ) → with_blocks taken c.in-Ok.blocks.items ≡ taken = λ taken. rw same (nothing_in _ _ taken refl) in words
