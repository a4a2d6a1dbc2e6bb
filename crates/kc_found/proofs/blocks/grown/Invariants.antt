use Rattle.std.proofs.Common.{◌≡◌, ℕ, List, drop}
use Rattle.kc_found.specs.Blocks.{with_blocks, IsTable}
use Rattle.kc_found.proofs.blocks.grown.Given as goal

abbrev pub invariant-loop-block : goal.invariant-loop-block
invariant-loop-block l = record { table : IsTable l.larger.items; words : (taken : List ℕ) → with_blocks (with_blocks taken l.larger.items) (drop l.block-index l.blocks) ≡ with_blocks taken l.blocks }
