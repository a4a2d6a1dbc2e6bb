-- The words that a walk of a ring or a hash chain asks.
use Rattle.std.proofs.Common.{◌≡◌, ℕ, ◌+◌, ◌*◌, ◌≤◌, List, length, Option, None, Some, arith, inl, inr}
use Rattle.std.specs.Prelude.{Result, Err}
use Rattle.std.proofs.Math.Nat.{mul-le-mul_left, mul-add}
use Rattle.kc_memory.specs.Image.{Image}
use Rattle.kc_found.specs.declared.found.WalkStop.{WalkStop}
use Rattle.kc_found.specs.declared.found.WalkStop.TheVariants as ends
use Rattle.kc_found.specs.Chains.{ChainOf}
use Rattle.kc_found.specs.Going.{Reaches}
use Rattle.kc_found.specs.Walks.{OnBroken}
use Rattle.kc_laws.specs.Chains.{two_reads}
use Rattle.kc_list.specs.Near.{EndsNear, EndsSoon}

-- one word at the head, and two at each node
pub one_spare : (most n old now : ℕ) → now ≤ old + most * (1 + 2 * n) → now ≤ old + most * (2 + 2 * n)
one_spare most n old now le =
    let fits : 1 + 2 * n ≤ 2 + 2 * n = omega arith in
    let more = mul-le-mul_left most fits in
    omega (arith, more, le)

pub two_more : (most n old before after : ℕ) → before ≤ old + most * (1 + 2 * n) → after ≤ before + 2 * most → after ≤ old + most * (1 + 2 * (n + 1))
two_more most n old before after le more =
    let all = mul-add most (1 + 2 * n) 2 in
    let same : 1 + 2 * (n + 1) ≡ (1 + 2 * n) + 2 = omega arith in
    rw (same, all) (omega (arith, le, more))

on_broken : (A : Type 0) (stop : WalkStop) (P : Type 0) → P → OnBroken {A = A} (Err stop) P
on_broken A (ends.Broken f) P p = p
on_broken A ends.Fault P p = tt
on_broken A ends.NoMemory P p = tt

-- a walk that ends at its head
pub soon : (A : Type 0) {S : Type 0} (chain : Image → ChainOf S) (image : Option Image) (stop : WalkStop) (most old new : ℕ) → new ≤ old + 2 * most
    → OnBroken {A = A} (Err stop) (EndsSoon chain image most old new)
soon A chain None stop most old new le = on_broken A stop (EndsSoon chain None most old new) tt
soon A chain (Some i) stop most old new le = on_broken A stop (EndsSoon chain (Some i) most old new) (inl le)

-- one that ends at a site
pub near : (A : Type 0) {S : Type 0} (chain : Image → ChainOf S) (image : Option Image) (stop : WalkStop) (taken walked : List ℕ) (s : S) (most old before new : ℕ)
    → Reaches chain image taken walked s → before ≤ old + most * (2 + 2 * length walked) → new ≤ before + 2 * most
    → OnBroken {A = A} (Err stop) (EndsSoon chain image most old new)
near A chain None stop taken walked s most old before new r le more = on_broken A stop (EndsSoon chain None most old new) tt
near A chain (Some i) stop taken walked s most old before new r le more =
    on_broken A stop (EndsSoon chain (Some i) most old new)
    (inr record { taken = taken; walked = walked; site = s; came = r; words = two_reads most (length walked) old before new le more })
