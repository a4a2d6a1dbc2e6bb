-- That the address of a symbol is that of its rows.
use Rattle.std.proofs.Common.{◌≡◌, ◌≢◌, ℕ, ◌==◌, Bool, true, false, not, cond, List, [], ◌∷◌, ◌++◌, All, map, Option, Some, None, Result, refl, sym, subst, arith, append_assoc}
use Rattle.std.proofs.lemmas.Bool.Decides.{nat_tests}
use Rattle.std.proofs.lemmas.List.{append-nil}
use Rattle.std.proofs.lemmas.List.Elements.{All-append, All-cons, All-nil}
use Rattle.kc_syms.specs.declared.fault.SymFault.{SymFault}
use Rattle.kc_syms.specs.Addresses.{at_run, another, agreed, common_of}
use Rattle.kc_syms.specs.Agreement.{AllAt, Agrees}

-- a fact of one element
All-one : {X : Type 0} (P : X → Type 0) (x : X) → P x → All P (x ∷ [])
All-one P x here = All-cons P x [] here (All-nil P)

-- the first that passes a test, or what is behind it
pick : (b : Bool) (P : Option ℕ → Type 0) (x : ℕ) (behind : Option ℕ) → (b ≡ true → P behind) → (b ≡ false → P (Some x)) → P (cond (not b) (Some x) behind)
pick true P x behind same other = same refl
pick false P x behind same other = other refl

module _ (kaslr address : ℕ) where
  -- the rows up to a place have the address, and the rest is looked at
  agrees_from : (front rest : List ℕ) → front ≢ [] → AllAt kaslr address front
      → Agrees kaslr (front ++ rest) (agreed address (another address (map (at_run kaslr) rest)))
  agrees_from front [] some before =
      let P : List ℕ → Type 0 = λ rows. Agrees kaslr rows (agreed address None) in
      subst P (sym (append-nil front)) (some, before)
  agrees_from front (one ∷ rest) some before =
      let P : Option ℕ → Type 0 = λ found. Agrees kaslr (front ++ one ∷ rest) (agreed address found) in
      let Q : List ℕ → Type 0 = λ rows. Agrees kaslr rows (agreed address (another address (map (at_run kaslr) rest))) in
      pick (at_run kaslr one == address) P (at_run kaslr one) (another address (map (at_run kaslr) rest))
      (λ same. subst Q (append_assoc front (one ∷ []) rest) (agrees_from (front ++ one ∷ []) rest (longer front one) (All-append (λ x. at_run kaslr x ≡ address) front (one ∷ []) before (All-one (λ x. at_run kaslr x ≡ address) one (grind (arith, nat_tests))))))
      (λ other. record { front = front; one = one; back = rest; split = refl; some = some; before = before; there = refl; unlike = λ is. grind (arith, nat_tests) })
    where
      longer : (xs : List ℕ) (x : ℕ) → xs ++ x ∷ [] ≢ []
      longer [] x = λ is. cc
      longer (y ∷ ys) x = λ is. cc

-- what the address of a symbol says of its rows
common_of-agrees : (kaslr : ℕ) (listed : List ℕ) → Agrees kaslr listed (common_of kaslr listed)
common_of-agrees kaslr [] = refl
common_of-agrees kaslr (first ∷ rest) =
    agrees_from kaslr (at_run kaslr first) (first ∷ []) rest (λ is. cc) (All-one (λ x. at_run kaslr x ≡ at_run kaslr first) first refl)

-- the same of an answer that is the address
pub agrees : (kaslr : ℕ) (listed : List ℕ) (result : Result ℕ SymFault) → result ≡ common_of kaslr listed → Agrees kaslr listed result
agrees kaslr listed result is =
    let P : Result ℕ SymFault → Type 0 = λ r. Agrees kaslr listed r in
    subst P (sym is) (common_of-agrees kaslr listed)
