-- Why a list of entries comes to an end, whatever the memory tells: a node's shift is below that of the node above it.
use Rattle.std.specs.Prelude.{◌≡◌, ℕ, ◌+◌, ◌^◌, ◌≤◌, List, [], ◌∷◌, Option, Some, None, IfSome}
use Rattle.kc_found.specs.declared.xarrays.XaEntry.TheVariants.{Node}
use Rattle.kc_found.specs.declared.xarrays.XaHolder.{XaHolder}
use Rattle.kc_found.specs.XaEntries.{kind}
use Rattle.kc_xa.specs.declared.listed.spots.XaSpot.{XaSpot}

-- the shift of the node that has a slot; the head stands above all nodes
abbrev pub level : Option XaHolder → ℕ
level None = 61
level (Some h) = h.shift

-- what a position with all below it weighs at most, where each entry weighs 1
abbrev pub weight : XaSpot → ℕ
weight s = 65 ^ (level s.holder + 1)

abbrev pub weights : List XaSpot → ℕ
weights [] = 0
weights (s ∷ ss) = weight s + weights ss

-- a slot's node has a shift of at most 60, and an entry that breaks no rule leads to a node only above the lowest level
abbrev pub IsSound : ℕ → XaSpot → Type 0
IsSound chunk s = IfSome s.holder (λ h. h.shift ≤ 60) × (s.fault ≡ None → kind chunk s.word.value ≡ Node → 1 ≤ level s.holder)
