-- How many suspects come up to one that is found among them.
use Rattle.std.proofs.Common.{◌≡◌, ℕ, zero, suc, nat_eq, Bool, true, false, ◌&&◌, if◌then◌else◌, cond, List, [], ◌∷◌, length, take, find, Option, Some, None, refl, sym, ap, ◌∙◌, subst}
use Rattle.std.proofs.lemmas.Bool.{eqb-true, eq-eqb}
use Rattle.kc_repair.specs.declared.suspect.suspect.Suspect.{Suspect}
use Rattle.kc_repair.specs.Others.{is_change, up_to, up_to_found}

pub steps : (b : Bool) (rest : ℕ) → b ≡ false → (if b then 1 else suc rest) ≡ suc rest
steps b rest is = rw is refl

pub stops : (b : Bool) (rest : ℕ) → b ≡ true → (if b then 1 else suc rest) ≡ 1
stops b rest is = rw is refl

-- ---- the first that passes is the first of its change

both : (a b : Bool) → a && b ≡ true → (a ≡ true) × (b ≡ true)
both true true e = (refl, refl)
both true false e = absurd (let none : ⊥ = cc in none)
both false b e = absurd (let none : ⊥ = cc in none)

pub same-parts : (s t : Suspect) → is_change s t ≡ true → (t.off ≡ s.off) × (t.value ≡ s.value)
same-parts s t is =
    let parts = both (nat_eq t.off s.off) (nat_eq t.value s.value) is in
    (eqb-true t.off s.off parts.0, eqb-true t.value s.value parts.1)

is-itself : (s : Suspect) → is_change s s ≡ true
is-itself s = rw (eq-eqb s.off s.off refl, eq-eqb s.value s.value refl) refl

passes-found : (passes : Suspect → Bool) (xs : List Suspect) (s : Suspect) → find passes xs ≡ Some s → passes s ≡ true
passes-found passes [] s is = let none : ⊥ = cc in absurd none
passes-found passes (x ∷ xs) s is = at (passes x) refl is (passes-found passes xs s)
  where
    at : (b : Bool) → passes x ≡ b → cond b (Some x) (find passes xs) ≡ Some s → (find passes xs ≡ Some s → passes s ≡ true) → passes s ≡ true
    at true e is later = let same : x ≡ s = cc in subst (λ (t : Suspect). passes t ≡ true) same e
    at false e is later = later is

-- a test that tells suspects of one change not apart
abbrev pub Alike : (Suspect → Bool) → Type 0
Alike passes = (s t : Suspect) → is_change s t ≡ true → passes t ≡ passes s

differs : (passes : Suspect → Bool) (s x : Suspect) (b : Bool) → Alike passes → passes s ≡ true → passes x ≡ false → is_change s x ≡ b → b ≡ false
differs passes s x true alike here there is = let never : true ≡ false = sym here ∙ sym (alike s x is) ∙ there in absurd (let none : ⊥ = cc in none)
differs passes s x false alike here there is = refl

pub none-passes : (passes : Suspect → Bool) (xs : List Suspect) → find passes xs ≡ None → length xs ≡ up_to passes xs
none-passes passes [] none = refl
none-passes passes (x ∷ xs) none = at (passes x) refl none (none-passes passes xs)
  where
    at : (b : Bool) → passes x ≡ b → cond b (Some x) (find passes xs) ≡ None → (find passes xs ≡ None → length xs ≡ up_to passes xs) → suc (length xs) ≡ up_to passes (x ∷ xs)
    at true e none later = let never : ⊥ = cc in absurd never
    at false e none later = ap suc (later none) ∙ sym (steps (passes x) (up_to passes xs) e)

one-passes : (passes : Suspect → Bool) → Alike passes → (xs : List Suspect) (s : Suspect) → find passes xs ≡ Some s → up_to (is_change s) xs ≡ up_to passes xs
one-passes passes alike [] s is = let none : ⊥ = cc in absurd none
one-passes passes alike (x ∷ xs) s is = at (passes x) refl is (one-passes passes alike xs s)
  where
    at : (b : Bool) → passes x ≡ b → cond b (Some x) (find passes xs) ≡ Some s → (find passes xs ≡ Some s → up_to (is_change s) xs ≡ up_to passes xs) → up_to (is_change s) (x ∷ xs) ≡ up_to passes (x ∷ xs)
    at true e is later =
        let same : x ≡ s = cc in
        stops (is_change s x) (up_to (is_change s) xs) (ap (is_change s) same ∙ is-itself s) ∙ sym (stops (passes x) (up_to passes xs) e)
    at false e is later =
        steps (is_change s x) (up_to (is_change s) xs) (differs passes s x (is_change s x) alike (passes-found passes xs s is) e refl)
        ∙ ap suc (later is) ∙ sym (steps (passes x) (up_to passes xs) e)

pub found-up_to : (passes : Suspect → Bool) → Alike passes → (xs : List Suspect) (found : Option Suspect) → find passes xs ≡ found → up_to_found found xs ≡ up_to passes xs
found-up_to passes alike xs None is = none-passes passes xs is
found-up_to passes alike xs (Some s) is = one-passes passes alike xs s is

-- the first of the first ones is the first of all
pub of-front : (passes : Suspect → Bool) (n : ℕ) (xs : List Suspect) (s : Suspect) → find passes (take n xs) ≡ Some s → find passes xs ≡ Some s
of-front passes zero xs s is = let none : ⊥ = cc in absurd none
of-front passes (suc n) [] s is = is
of-front passes (suc n) (x ∷ xs) s is = at (passes x) is (of-front passes n xs s)
  where
    at : (b : Bool) → cond b (Some x) (find passes (take n xs)) ≡ Some s → (find passes (take n xs) ≡ Some s → find passes xs ≡ Some s) → cond b (Some x) (find passes xs) ≡ Some s
    at true is later = is
    at false is later = later is
