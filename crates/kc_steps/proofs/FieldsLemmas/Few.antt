-- How many steps a field takes.
use Rattle.std.proofs.Common.{ℕ, ◌+◌, ◌*◌, ◌≤◌, [], ◌∷◌, length, arith}
use Rattle.std.proofs.Math.Nat.{mul-le-mul_left}
use Rattle.std.proofs.lemmas.List.{length-take}
use Rattle.kc_layout.specs.declared.place.Hops.{Hops}
use Rattle.kc_layout.specs.HopList.{hop_list}

hops_few : (h : Hops) → length (hop_list h) ≤ 4
hops_few h = omega (arith, length-take h.count (h.a ∷ h.b ∷ h.c ∷ h.d ∷ []))

pointers_cost : (n most : ℕ) → n ≤ 4 → most ≤ 6 → 2 * (n * most) ≤ 48
pointers_cost n most few small = omega (arith, mul-le-mul_left most few, small)

pub field_few : (h : Hops) (most before after : ℕ) → most ≤ 6 → after ≤ before + 2 * (length (hop_list h) * most) + 2 * most → after ≤ before + 60
field_few h most before after small steps =
    let few = pointers_cost (length (hop_list h)) most (hops_few h) small in
    omega (arith, small, steps, few)
