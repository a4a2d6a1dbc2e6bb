use Rattle.std.proofs.Common.{◌≡◌, ◌+◌, ◌*◌, ◌≤◌, arith, add-one, refl}
use Rattle.std.proofs.Math.Nat.{mul-le-mul_left}
use Rattle.kc_gen.specs.Array.{full}
use Rattle.kc_gen.proofs.array.child.Goals as goal

-- sixteen full slots are what is below a node, and its own is among them
pub returns-clause-number : goal.returns-clause-number
returns-clause-number c =
    let level = c.args.level in
    let all : full (level + 1) ≡ 1 + 16 * full level = rw add-one refl in
    let slots : full level * (c.args.i + 1) ≤ full level * 16 = mul-le-mul_left (full level) (omega arith) in
    rw c.full.ensures.exact (omega (arith, all, slots, c.requires.number))
