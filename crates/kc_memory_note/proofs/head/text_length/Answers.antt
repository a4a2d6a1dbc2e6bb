use Rattle.std.proofs.Common.{ℕ, ◌==◌, length, take, sym, ap, rules}
use Rattle.std.proofs.lemmas.List.Sums.{position_or_len_is}
use Rattle.kc_memory_note.proofs.head.text_length.Goals as goal

pub returns-in-Some : goal.returns-in-Some
returns-in-Some c =
    let bytes = c.args.bytes.now in
    let found = position_or_len_is (λ (b : ℕ). b == 0) bytes c.in-Some.end 0 (search rules) (search rules) (search rules) in
    ap (λ n. take n bytes) (sym found)

pub returns-in-None : goal.returns-in-None
returns-in-None c =
    let bytes = c.args.bytes.now in
    let none = position_or_len_is (λ (b : ℕ). b == 0) bytes (length bytes) 0 (search rules) (search rules) (search rules) in
    ap (λ n. take n bytes) (sym none)
