use Rattle.std.proofs.Common.{◌≡◌, ℕ, length, min, take, ap, ◌∙◌, arith}
use Rattle.std.proofs.lemmas.List.{take_min}
use Rattle.kc_repair.specs.Repairs.{most}
use Rattle.kc_repair.proofs.tries.tried_of.Goals as goal

pub returns : goal.returns
returns c =
    let least : c.min.result ≡ min most (length c.args.suspects.now) = omega (arith, c.min.ensures) in
    ap (λ (n : ℕ). take n c.args.suspects.now) least ∙ take_min most c.args.suspects.now
