-- The symbol nearest below an address.
use Rattle.std.proofs.Common.{◌≡◌, ℕ, ◌≤◌, Bool, true, false, nat_lt, List, [], ◌∷◌, Option, Some, None, IfSome, refl, inl, inr, arith, if◌then◌else◌}
use Rattle.std.specs.List.{AllByRecursion}
use Rattle.std.proofs.lemmas.Bool.Decides.{nat_tests}
use Rattle.kc_syms.specs.Rows.{RowText}
use Rattle.kc_sight.specs.Laws.{IsNearest, NearestIs, SymbolsAreNearest}
use Rattle.kc_sight.specs.Nearest.{SymbolAt, below, higher, nearest}

module _ (from kaslr address : ℕ) where
  none_higher : (s : SymbolAt) (rows : List RowText) → AllByRecursion (λ (row : RowText). below from kaslr address row.listed row.name ≡ None) rows
      → AllByRecursion (λ (row : RowText). IfSome (below from kaslr address row.listed row.name) (λ t. t.address ≤ s.address)) rows
  none_higher s [] all = tt
  none_higher s (row ∷ rows) all = (rw all.0 tt, none_higher s rows all.1)

  lower : (a b : ℕ) (t : Option SymbolAt) → a ≤ b → IfSome t (λ t. t.address ≤ a) → IfSome t (λ t. t.address ≤ b)
  lower a b None less one = tt
  lower a b (Some t) less one = omega arith

  all_lower : (a b : ℕ) (rows : List RowText) → a ≤ b → AllByRecursion (λ (row : RowText). IfSome (below from kaslr address row.listed row.name) (λ t. t.address ≤ a)) rows
      → AllByRecursion (λ (row : RowText). IfSome (below from kaslr address row.listed row.name) (λ t. t.address ≤ b)) rows
  all_lower a b [] less all = tt
  all_lower a b (row ∷ rows) less all = (lower a b (below from kaslr address row.listed row.name) less all.0, all_lower a b rows less all.1)

  first_or_rest : (row : RowText) (rows : List RowText) (a s : SymbolAt) (b : Bool) → nat_lt a.address s.address ≡ b → below from kaslr address row.listed row.name ≡ Some a
      → IsNearest from kaslr address s rows → IsNearest from kaslr address (if b then s else a) (row ∷ rows)
  first_or_rest row rows a s true less is rest =
      let under : a.address ≤ s.address = grind (arith, nat_tests) in
      record { one = inr rest.one; highest = (rw is under, rest.highest) }
  first_or_rest row rows a s false less is rest =
      let over : s.address ≤ a.address = grind (arith, nat_tests) in
      let same : a.address ≤ a.address = omega arith in
      record { one = inl is; highest = (rw is same, all_lower s.address a.address rows over rest.highest) }

  next : (row : RowText) (rows : List RowText) (first rest : Option SymbolAt) → below from kaslr address row.listed row.name ≡ first
      → NearestIs from kaslr address rows rest → NearestIs from kaslr address (row ∷ rows) (higher first rest)
  next row rows None None is law = (is, law)
  next row rows None (Some s) is law = record { one = inr law.one; highest = (rw is tt, law.highest) }
  next row rows (Some a) None is law =
      let same : a.address ≤ a.address = omega arith in
      record { one = inl is; highest = (rw is same, none_higher a rows law) }
  next row rows (Some a) (Some s) is law = first_or_rest row rows a s (nat_lt a.address s.address) refl is law

  nearest_is : (rows : List RowText) → NearestIs from kaslr address rows (nearest from kaslr address rows)
  nearest_is [] = tt
  nearest_is (row ∷ rows) = next row rows (below from kaslr address row.listed row.name) (nearest from kaslr address rows) refl (nearest_is rows)

pub symbols_are_nearest : SymbolsAreNearest
symbols_are_nearest from kaslr address rows = nearest_is from kaslr address rows
