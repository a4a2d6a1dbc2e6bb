-- A text put piece by piece.
use Rattle.std.proofs.Common.{◌≡◌, ℕ, ◌+◌, ◌-◌, List, ◌++◌, length, take, drop, Option, Some, None, sym, ap, ◌∙◌, append_assoc}
use Rattle.std.proofs.Math.Seq.{take-add}
use Rattle.std.proofs.lemmas.List.{take_rest}
use Rattle.kc_outside.specs.Texts.{with_piece}

-- n bytes more of the text
pub piece_more : (old now new : Option (List ℕ)) (text : List ℕ) (at n : ℕ)
    → now ≡ with_piece old (take at text) → new ≡ with_piece now (take n (take (length text - at) (drop at text)))
    → new ≡ with_piece old (take (at + n) text)
piece_more None now new text at n before after = after ∙ ap (λ t. with_piece t (take n (take (length text - at) (drop at text)))) before
piece_more (Some o) now new text at n before after =
    after ∙ ap (λ t. with_piece t (take n (take (length text - at) (drop at text)))) before
    ∙ ap (λ (t : List ℕ). Some t) (append_assoc o (take at text) (take n (take (length text - at) (drop at text)))
    ∙ ap (λ (t : List ℕ). o ++ t) (ap (λ (r : List ℕ). take at text ++ take n r) (take_rest text at) ∙ sym (take-add at n text)))
