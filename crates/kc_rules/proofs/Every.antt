-- A list of all values of an enum without fields.
use Rattle.std.proofs.Common.{◌≡◌, ℕ, suc, ◌+◌, ◌<◌, ◌≤◌, Bool, true, false, ◌&&◌, nat_eq, List, [], ◌∷◌, length, refl, sym, ◌∙◌, inl, inr, arith}
use Rattle.std.proofs.lemmas.Bool.{and_parts}
use Rattle.std.proofs.lemmas.Bool.Decides.{nat_tests}
use Rattle.kc_text.specs.Readers.{IsAmong}
use denote.Struct.Field.{Field}
use denote.Enum.Bare.{Bare, tag_one}
use denote.Enum.Declared.{Declared, rowss, tag_of}
use denote.Enum.Enum.{Sum, tag}

-- whether these are the values with the tags from k on
abbrev pub are_from : (D : Declared) → ℕ → List D.D → Bool
are_from D k [] = true
are_from D k (x ∷ xs) = nat_eq (tag_of D x) k && are_from D (suc k) xs

tag_below : (Fss : List (List Field)) (a : Sum (rowss Fss)) → tag (rowss Fss) a < length Fss
tag_below [] a = absurd a
tag_below (Fs ∷ Fss) (inl x) = omega arith
tag_below (Fs ∷ Fss) (inr x) = let below = tag_below Fss x in omega (arith, below)

by_tag : (D : Declared) → Bare D.parts → (x a : D.D) (xs : List D.D) (k : ℕ) → nat_eq (tag_of D x) k ≡ true → (t : Bool) → nat_eq (tag_of D a) k ≡ t
    → ((nat_eq (tag_of D a) k ≡ false) → IsAmong a xs) → IsAmong a (x ∷ xs)
by_tag D bare x a xs k here true is later =
    let one : tag_of D a ≡ k = grind (arith, nat_tests) in
    let two : tag_of D x ≡ k = grind (arith, nat_tests) in
    inl (tag_one D bare a x (one ∙ sym two))
by_tag D bare x a xs k here false is later = inr (later is)

above : (a k : ℕ) → k ≤ a → nat_eq a k ≡ false → suc k ≤ a
above a k low differs = grind (arith, nat_tests)

found : (D : Declared) → Bare D.parts → (xs : List D.D) (k : ℕ) → are_from D k xs ≡ true → (a : D.D) → k ≤ tag_of D a → tag_of D a < k + length xs → IsAmong a xs
found D bare [] k are a low high = absurd (omega (arith, low, high))
found D bare (x ∷ xs) k are a low high =
    let parts = and_parts _ _ are in
    by_tag D bare x a xs k (parts.0) (nat_eq (tag_of D a) k) refl (λ differs. found D bare xs (suc k) (parts.1) a (above (tag_of D a) k low differs) (omega (arith, high)))

pub every : (D : Declared) → Bare D.parts → (xs : List D.D) → are_from D 0 xs ≡ true → length xs ≡ length D.parts → (a : D.D) → IsAmong a xs
every D bare xs are many a =
    let below = tag_below D.parts (D.to a) in
    found D bare xs 0 are a (omega arith) (omega (arith, below, many))
