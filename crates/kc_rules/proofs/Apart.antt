-- A table of texts of which none begins another: each value is read back from its text.
use Rattle.std.proofs.Common.{◌≡◌, ℕ, Bool, true, false, ◌&&◌, List, [], ◌∷◌, ◌++◌, ◌≤◌, length, refl, inl, inr, arith}
use Rattle.std.proofs.lemmas.Bool.{and_parts}
use Rattle.std.specs.Prelude.{Result, Ok, Err, ◌==◌, if◌then◌else◌}
use Rattle.kc_text.specs.Format.{IsFormat}
use Rattle.kc_text.specs.Readers.{read_literal, read_one_of, one_of, IsAmong}
use Rattle.kc_text.proofs.LineLaws.{one-law}
use Rattle.kc_text.proofs.ReaderLaws.{literal-law}

-- whether two texts differ before either ends
abbrev pub go_on : Bool → Bool → Bool
go_on true more = more
go_on false more = true

abbrev pub differ : List ℕ → List ℕ → Bool
differ [] ys = false
differ (x ∷ xs) [] = false
differ (x ∷ xs) (y ∷ ys) = go_on (x == y) (differ xs ys)

abbrev pub others_differ : {X : Type 0} → (X → List ℕ) → X → List X → Bool
others_differ spell x [] = true
others_differ spell x (y ∷ ys) = differ (spell x) (spell y) && others_differ spell x ys

-- whether all texts of a table do
abbrev pub are_apart : {X : Type 0} → (X → List ℕ) → List X → Bool
are_apart spell [] = true
are_apart spell (x ∷ xs) = others_differ spell x xs && are_apart spell xs

refused : (t more : Bool) (r : Result (Unit {0} × List ℕ) (List ℕ)) (whole : List ℕ) → go_on t more ≡ true
    → (more ≡ true → (e : List ℕ) × (r ≡ Err e)) → (e : List ℕ) × ((if t then r else Err whole) ≡ Err e)
refused true more r whole d go = go d
refused false more r whole d go = (whole, refl)

-- the one isn't read where the other stands
refuses : (a b rest : List ℕ) → differ a b ≡ true → (e : List ℕ) × (read_literal a (b ++ rest) ≡ Err e)
refuses [] b rest d = absurd (cc)
refuses (x ∷ xs) [] rest d = absurd (cc)
refuses (x ∷ xs) (y ∷ ys) rest d = refused (x == y) (differ xs ys) (read_literal xs (ys ++ rest)) (y ∷ (ys ++ rest)) d (λ more. refuses xs ys rest more)

module _ {X : Type 0} (spell : X → List ℕ) where
  differs_at : (x y : X) (ys : List X) → others_differ spell x ys ≡ true → IsAmong y ys → differ (spell x) (spell y) ≡ true
  differs_at x y [] d among = absurd among
  differs_at x y (z ∷ zs) d (inl same) = rw same ((and_parts _ _ d).0)
  differs_at x y (z ∷ zs) d (inr more) = differs_at x y zs ((and_parts _ _ d).1) more

  read_again : (xs : List X) → are_apart spell xs ≡ true → (y : X) (rest : List ℕ) → IsAmong y xs → read_one_of spell xs (spell y ++ rest) ≡ Ok (y, rest)
  read_again [] a y rest among = absurd among
  read_again (x ∷ xs) a y rest (inl same) = rw (same, (literal-law (spell x)).again tt rest tt tt) refl
  read_again (x ∷ xs) a y rest (inr more) =
      let parts = and_parts _ _ a in
      let no = refuses (spell x) (spell y) rest (differs_at x y xs (parts.0) more) in
      rw (no.1, read_again xs (parts.1) y rest more) refl

  pub apart-law : (xs : List X) → 1 ≤ length xs → are_apart spell xs ≡ true → IsFormat (one_of spell xs)
  apart-law [] some apart = absurd (omega (arith, some))
  apart-law (x ∷ xs) some apart = one-law spell x xs (λ y rest among. read_again (x ∷ xs) apart y rest among)
