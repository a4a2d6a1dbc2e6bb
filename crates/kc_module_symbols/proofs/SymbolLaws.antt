-- What is told of symbols is so.
use Rattle.std.proofs.Common.{◌≡◌, ℕ, zero, suc, ◌<◌, ◌≤◌, Bool, true, false, if◌then◌else◌, List, [], ◌∷◌, Option, Some, None, refl, sym, subst, ◌∙◌, arith}
use Rattle.std.specs.Prelude.{nat_lt, slice_get}
use Rattle.kc_module_symbols.specs.declared.symbol.ElfSymbol.{ElfSymbol}
use Rattle.kc_module_symbols.specs.Laws.{IsNearest, IsOne, NearestStands, NoneNames}
use Rattle.kc_module_symbols.specs.Nearest.{nearer, nearest}
use Rattle.kc_module_symbols.proofs.SymbolLemmas.{nearest_nil, nearest_one}

module _ (may : ElfSymbol → Bool) where
  -- where none is the nearest of two, neither is there
  both_none : (s : ElfSymbol) (t : Bool) (n : Option ElfSymbol) → nearer (if t then Some s else None) n ≡ None → (t ≡ false) × (n ≡ None)
  both_none s true None is = absurd (let no : ⊥ = cc in no)
  both_none s true (Some m) is = absurd (grind arith)
  both_none s false None is = (refl, refl)
  both_none s false (Some m) is = absurd (let no : ⊥ = cc in no)

  none_from : (symbols : List ElfSymbol) → nearest may symbols ≡ None → (k : ℕ) (other : ElfSymbol) → slice_get symbols k ≡ Some other → may other ≡ false
  none_from [] is k other at = absurd (let no : ⊥ = cc in no)
  none_from (s ∷ others) is zero other at =
      let none = both_none s (may s) (nearest may others) (sym (nearest_one may s others) ∙ is) in
      let same : s ≡ other = cc in subst (λ (x : ElfSymbol). may x ≡ false) same none.0
  none_from (s ∷ others) is (suc k) other at =
      let none = both_none s (may s) (nearest may others) (sym (nearest_one may s others) ∙ is) in
      none_from others none.1 k other at

  -- the first is the nearest
  most_first : (s : ElfSymbol) (others : List ElfSymbol) → ((k : ℕ) (other : ElfSymbol) → IsOne may others k other → other.value ≤ s.value)
      → (k : ℕ) (other : ElfSymbol) → IsOne may (s ∷ others) k other → other.value ≤ s.value
  most_first s others most zero other one = let listed = one.listed in let same : s ≡ other = cc in subst (λ (x : ElfSymbol). x.value ≤ s.value) same (omega arith)
  most_first s others most (suc k) other one = most k other (record { listed = one.listed; names = one.names })

  at_first : (s : ElfSymbol) (others : List ElfSymbol) → may s ≡ true → ((k : ℕ) (other : ElfSymbol) → IsOne may others k other → other.value ≤ s.value) → IsNearest may (s ∷ others) s
  at_first s others names most = record { place = 0; one = record { listed = refl; names = names }; greatest = most_first s others most; first = λ k other one lt. absurd (omega (arith, lt)) }

  -- it is one of the others
  first_behind : (s m : ElfSymbol) (others : List ElfSymbol) (near : IsNearest may others m) → (may s ≡ true → s.value < m.value)
      → (k : ℕ) (other : ElfSymbol) → IsOne may (s ∷ others) k other → k < suc near.place → other.value < m.value
  first_behind s m others near less zero other one lt = let listed = one.listed in let same : other ≡ s = cc in subst (λ (x : ElfSymbol). x.value < m.value) (sym same) (less (subst (λ (x : ElfSymbol). may x ≡ true) same one.names))
  first_behind s m others near less (suc k) other one lt = near.first k other (record { listed = one.listed; names = one.names }) (omega (arith, lt))

  most_behind : (s m : ElfSymbol) (others : List ElfSymbol) (near : IsNearest may others m) → (may s ≡ true → s.value < m.value)
      → (k : ℕ) (other : ElfSymbol) → IsOne may (s ∷ others) k other → other.value ≤ m.value
  most_behind s m others near less zero other one = let below = first_behind s m others near less zero other one (omega arith) in omega (arith, below)
  most_behind s m others near less (suc k) other one = near.greatest k other (record { listed = one.listed; names = one.names })

  behind : (s m : ElfSymbol) (others : List ElfSymbol) → IsNearest may others m → (may s ≡ true → s.value < m.value) → IsNearest may (s ∷ others) m
  behind s m others near less =
      record { place = suc near.place; one = record { listed = near.one.listed; names = near.one.names }; greatest = most_behind s m others near less; first = first_behind s m others near less }

  -- none of the others is one
  none_most : (s : ElfSymbol) (others : List ElfSymbol) → nearest may others ≡ None → (k : ℕ) (other : ElfSymbol) → IsOne may others k other → other.value ≤ s.value
  none_most s others is k other one = let no = none_from others is k other one.listed in let yes = one.names in absurd (let no : ⊥ = cc in no)

  by_two : (s r m : ElfSymbol) (others : List ElfSymbol) (t : Bool) → nat_lt s.value m.value ≡ t → may s ≡ true → IsNearest may others m → (if t then Some m else Some s) ≡ Some r → IsNearest may (s ∷ others) r
  by_two s r m others true lt names near is =
      let same : m ≡ r = cc in subst (IsNearest may (s ∷ others)) same (behind s m others near (λ names. search (arith, lt)))
  by_two s r m others false lt names near is =
      let same : s ≡ r = cc in subst (IsNearest may (s ∷ others)) same (at_first s others names (λ k other one. let most = near.greatest k other one in grind (arith, most, lt)))

  by_others : (s r : ElfSymbol) (others : List ElfSymbol) (t : Bool) (n : Option ElfSymbol) → may s ≡ t → nearest may others ≡ n → ((m : ElfSymbol) → nearest may others ≡ Some m → IsNearest may others m)
      → nearer (if t then Some s else None) n ≡ Some r → IsNearest may (s ∷ others) r
  by_others s r others true None names rest next is =
      let same : s ≡ r = cc in subst (IsNearest may (s ∷ others)) same (at_first s others names (none_most s others rest))
  by_others s r others true (Some m) names rest next is = by_two s r m others (nat_lt s.value m.value) refl names (next m rest) is
  by_others s r others false None names rest next is = absurd (let no : ⊥ = cc in no)
  by_others s r others false (Some m) names rest next is =
      let same : m ≡ r = cc in subst (IsNearest may (s ∷ others)) same (behind s m others (next m rest) (λ yes. absurd (let no : ⊥ = cc in no)))

  some_from : (symbols : List ElfSymbol) (r : ElfSymbol) → nearest may symbols ≡ Some r → IsNearest may symbols r
  some_from [] r is = absurd (let none : ◌≡◌ {A = Option ElfSymbol} None (Some r) = sym (nearest_nil may) ∙ is in let no : ⊥ = cc in no)
  some_from (s ∷ others) r is =
      by_others s r others (may s) (nearest may others) refl refl (λ m. some_from others m) (sym (nearest_one may s others) ∙ is)

pub nearest_stands : NearestStands
nearest_stands may symbols s is = some_from may symbols s is

pub none_names : NoneNames
none_names may symbols is k other at = none_from may symbols is k other at
