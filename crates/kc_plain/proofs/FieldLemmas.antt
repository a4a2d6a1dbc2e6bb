-- Numbers one after another, as they are put.
use Rattle.std.proofs.Common.{◌≡◌, ℕ, zero, suc, ◌+◌, ◌-◌, ◌*◌, ◌≤◌, ◌<◌, min, List, [], ◌∷◌, ◌++◌, length, get_or, take, drop, refl, sym, ap, ◌∙◌, arith, add-one, append_assoc, append-nil}
use Rattle.std.proofs.Math.Seq.{drop-cons}
use Rattle.kc_plain.specs.declared.fields.Field.{Field}
use Rattle.kc_plain.specs.Fields.{field_bytes, spelled}

-- one number more
pub one_more : (bytes new before : List ℕ) (fields all : List Field) (i : ℕ) (d : Field) → i < length fields → new ≡ bytes ++ field_bytes (get_or fields i d)
    → bytes ++ spelled (drop i fields) ≡ before ++ spelled all → new ++ spelled (drop (i + 1) fields) ≡ before ++ spelled all
unfolding spelled
one_more bytes new before fields all i d here is whole =
    let field = get_or fields i d in
    let rest = spelled (drop (suc i) fields) in
    ap (λ (k : ℕ). new ++ spelled (drop k fields)) (add-one i)
    ∙ ap (λ (bs : List ℕ). bs ++ rest) is
    ∙ append_assoc bytes (field_bytes field) rest
    ∙ ap (λ (fs : List Field). bytes ++ spelled fs) (sym (drop-cons fields i d here))
    ∙ whole

drop_past : {X : Type 0} (xs : List X) (i : ℕ) → length xs ≤ i → drop i xs ≡ []
drop_past [] zero past = refl
drop_past [] (suc i) past = refl
drop_past (x ∷ xs) zero past = absurd (omega arith)
drop_past (x ∷ xs) (suc i) past = drop_past xs i (omega arith)

pub no_more : (bytes before : List ℕ) (fields all : List Field) (i : ℕ) → length fields ≤ i
    → bytes ++ spelled (drop i fields) ≡ before ++ spelled all → bytes ≡ before ++ spelled all
unfolding spelled
no_more bytes before fields all i past whole =
    sym (append-nil bytes) ∙ ap (λ (fs : List Field). bytes ++ spelled fs) (sym (drop_past fields i past)) ∙ whole
