-- The lines of a text, one by one.
use Rattle.std.proofs.Common.{◌≡◌, ℕ, ◌+◌, ◌==◌, false, List, ◌∷◌, take, drop, position, All, Option, Some, None, refl, sym, ap, ◌∙◌, arith}
use Rattle.std.specs.List.{after_first}
use Rattle.std.specs.Option.{option_or}
use Rattle.std.proofs.lemmas.List.{drop-drop}
use Rattle.std.proofs.lemmas.List.Splits.{slice_split_first, slice_split_none}
use Rattle.std.proofs.lemmas.List.Sums.{fails_before_first}
use Rattle.kc_notes.specs.Values.{behind_key, value_in, lines_of, value_of}
use Rattle.kc_notes.proofs.PlaceLemmas.{at_place, no_place, before_place, after_place}

option_or-None : (o : Option (List ℕ)) → option_or o None ≡ o
option_or-None None = refl
option_or-None (Some x) = refl

-- a line that ends, and what is behind it
value_of-line : (key text : List ℕ) (end : ℕ) → position (λ c. c == 10) text ≡ Some end
    → value_of key text ≡ option_or (behind_key key (take end text)) (value_of key (drop (end + 1) text))
unfolding value_of
value_of-line key text end is =
    let p = λ (c : ℕ). c == 10 in
    let at = at_place p text end is in
    let lines : lines_of text ≡ take end text ∷ lines_of (drop (end + 1) text) =
    slice_split_first p text 0 (omega (arith, at.0, at.1))
    ∙ ap (λ line. line ∷ lines_of (after_first p text)) (before_place p text end is)
    ∙ ap (λ rest. take end text ∷ lines_of rest) (after_place p text end is) in
    ap (value_in key) lines

-- a last line without a newline
pub value_of-last : (key text : List ℕ) → position (λ c. c == 10) text ≡ None → value_of key text ≡ behind_key key text
unfolding value_of
value_of-last key text is =
    let p = λ (c : ℕ). c == 10 in
    let none : All (λ c. p c ≡ false) text = λ k d below. fails_before_first p text k d (omega (arith, no_place p text is)) in
    ap (value_in key) (slice_split_none p text none) ∙ option_or-None (behind_key key text)

-- the line has the key
pub value_of-found : (key text found : List ℕ) (end : ℕ) → position (λ c. c == 10) text ≡ Some end → behind_key key (take end text) ≡ Some found → value_of key text ≡ Some found
value_of-found key text found end is here =
    value_of-line key text end is ∙ ap (λ o. option_or o (value_of key (drop (end + 1) text))) here

-- it hasn't
pub value_of-passed : (key text : List ℕ) (end : ℕ) → position (λ c. c == 10) text ≡ Some end → behind_key key (take end text) ≡ None → value_of key (drop 1 (drop end text)) ≡ value_of key text
value_of-passed key text end is none =
    ap (value_of key) (drop-drop 1 end text)
    ∙ sym (value_of-line key text end is ∙ ap (λ o. option_or o (value_of key (drop (end + 1) text))) none)
