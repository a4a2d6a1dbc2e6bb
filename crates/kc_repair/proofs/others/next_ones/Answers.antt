use Rattle.std.proofs.Common.{◌≡◌, ℕ, ◌-◌, length, min, drop, take, List, ap, ◌∙◌, arith}
use Rattle.std.proofs.lemmas.List.{length-drop, take_all, take_min}
use Rattle.kc_repair.specs.declared.suspect.suspect.Suspect.{Suspect}
use Rattle.kc_repair.proofs.others.next_ones.Goals as goal

pub returns-clause-exact : goal.returns-clause-exact
returns-clause-exact c =
    let later : List Suspect = drop c.args.tried c.args.suspects.now in
    let count : length later ≡ length c.args.suspects.now - c.args.tried = length-drop c.args.tried c.args.suspects.now in
    let all : take (length c.args.suspects.now - c.args.tried) later ≡ later = take_all (length c.args.suspects.now - c.args.tried) later (omega (arith, count)) in
    let least : c.min.result ≡ min 64 (length later) = omega (arith, rw all at c.min.ensures) in
    ap (take c.min.result) all ∙ ap (λ (n : ℕ). take n later) least ∙ take_min 64 later
