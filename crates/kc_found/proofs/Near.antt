-- A block at the place that is looked at first.
use Rattle.std.proofs.Common.{◌≡◌, ℕ, ◌^◌, ◌<◌, List, length, get_or, ◌∙◌, ap, subst, arith}
use Rattle.kc_found.specs.declared.blocks.Block.{Block}
use Rattle.kc_found.specs.Blocks.{free, number_at, IsTable, Reaches}
use Rattle.kc_found.proofs.Stored.{any_default}

-- a block of a table that stands there is reached
pub near_spot : (blocks : List Block) (near number : ℕ) (d : Block) → IsTable blocks → number < 2 ^ 58 → near < length blocks → (get_or blocks near d).number ≡ number →
    Reaches blocks number near × (number_at blocks near ≡ number)
near_spot blocks near number d table small within is =
    let there : number_at blocks near ≡ number = ap (λ (b : Block). b.number) (any_default blocks near free d within) ∙ is in
    (subst (λ n. Reaches blocks n near) there (table.reached near within (λ e. omega (arith, e, there, small))), there)
