use Rattle.std.proofs.Common.{ℕ, ◌==◌, take, sym, ap, rules}
use Rattle.std.proofs.lemmas.List.Sums.{position_or_len_is}
use Rattle.kc_btf.proofs.btf.before_nul.Goals as goal

pub returns-clause-exact : goal.returns-clause-exact
returns-clause-exact c =
    let text = c.args.text.now in
    let found = position_or_len_is (λ (b : ℕ). b == 0) text c.in-Some.length 0 (search rules) (search rules) (search rules) in
    ap (λ n. take n text) (sym found)
