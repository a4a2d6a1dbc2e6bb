-- How many words a path's pointers take, and how many a field's bits.
use Rattle.std.proofs.Common.{ℕ, ◌*◌, ◌≤◌, [], ◌∷◌, length, arith}
use Rattle.std.proofs.Math.Nat.{mul-le-mul_left}
use Rattle.std.proofs.lemmas.List.{length-take}
use Rattle.kc_layout.specs.declared.place.Hops.{Hops}
use Rattle.kc_layout.specs.HopList.{hop_list}

pub hops_few : (h : Hops) → length (hop_list h) ≤ 4
hops_few h = omega (arith, length-take h.count (h.a ∷ h.b ∷ h.c ∷ h.d ∷ []))

pub pointers_cost : (n most : ℕ) → n ≤ 4 → most ≤ 6 → 2 * (n * most) ≤ 48
pointers_cost n most few small = omega (arith, mul-le-mul_left most few, small)
