-- The counts of audits, one after the other.
use Rattle.std.proofs.Common.{◌≡◌, ℕ, ◌+◌, ◌-◌, ◌<◌, ◌≤◌, min, nat_eq, Bool, true, false, List, [], ◌∷◌, length, get_or, drop, Option, None, refl, sym, ap, ◌∙◌, arith}
use Rattle.std.proofs.lemmas.Bool.{eqb-true}
use Rattle.std.proofs.lemmas.List.{drop_more, length-drop}
use Rattle.kc_found.specs.declared.verdict.AuditCount.{AuditCount}
use Rattle.kc_repair.specs.Elements.{elements_in}

other-head : (number x : ℕ) (c : AuditCount) (xs : List ℕ) (cs : List AuditCount) → nat_eq x number ≡ false → elements_in number (x ∷ xs) (c ∷ cs) ≡ elements_in number xs cs
other-head number x c xs cs is = rw is refl

differ : (a b : ℕ) (t : Bool) → nat_eq a b ≡ t → (a ≡ b → ⊥) → nat_eq a b ≡ false
differ a b true e differs = absurd (differs (eqb-true a b e))
differ a b false e differs = e

pub past-in : (number : ℕ) (numbers : List ℕ) (counts : List AuditCount) (i d : ℕ) (e : AuditCount) (whole : Option ℕ) → i < length numbers → i < length counts → (get_or numbers i d ≡ number → ⊥)
    → elements_in number (drop i numbers) (drop i counts) ≡ whole → elements_in number (drop (i + 1) numbers) (drop (i + 1) counts) ≡ whole
past-in number numbers counts i d e whole lt lt_too differs before =
    sym (other-head number (get_or numbers i d) (get_or counts i e) (drop (i + 1) numbers) (drop (i + 1) counts) (differ (get_or numbers i d) number (nat_eq (get_or numbers i d) number) refl differs))
    ∙ sym (ap (λ (l : List ℕ). elements_in number l (drop i counts)) (drop_more numbers i d lt) ∙ ap (elements_in number (get_or numbers i d ∷ drop (i + 1) numbers)) (drop_more counts i e lt_too)) ∙ before

ended : (number : ℕ) (xs : List ℕ) (cs : List AuditCount) → min (length xs) (length cs) ≡ 0 → elements_in number xs cs ≡ None
ended number [] cs none = refl
ended number (x ∷ xs) [] none = refl
ended number (x ∷ xs) (c ∷ cs) none = absurd (let never : ⊥ = omega (arith, none) in never)

pub none-in : (number : ℕ) (numbers : List ℕ) (counts : List AuditCount) (i : ℕ) (whole : Option ℕ) → min (length numbers) (length counts) ≤ i
    → elements_in number (drop i numbers) (drop i counts) ≡ whole → None ≡ whole
none-in number numbers counts i whole past before =
    let one : length (drop i numbers) ≡ length numbers - i = length-drop i numbers in
    let other : length (drop i counts) ≡ length counts - i = length-drop i counts in
    sym (ended number (drop i numbers) (drop i counts) (omega (arith, past, one, other))) ∙ before
