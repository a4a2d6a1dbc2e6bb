use Rattle.std.proofs.Common.{ℕ, ◌==◌, length, take, sym, ap, ◌∙◌, rules}
use Rattle.std.proofs.Math.Seq.{take-length}
use Rattle.std.proofs.lemmas.List.Sums.{position_or_len_is}
use Rattle.kc_btf.proofs.btf.before_nul_or_end.Goals as goal

pub returns-in-Some : goal.returns-in-Some
returns-in-Some c =
    let text = c.args.text.now in
    let found = position_or_len_is (λ (b : ℕ). b == 0) text c.in-Some.length 0 (search rules) (search rules) (search rules) in
    ap (λ n. take n text) (sym found)

pub returns-in-None : goal.returns-in-None
returns-in-None c =
    let text = c.args.text.now in
    let none = position_or_len_is (λ (b : ℕ). b == 0) text (length text) 0 (search rules) (search rules) (search rules) in
    sym (take-length text) ∙ ap (λ n. take n text) (sym none)
