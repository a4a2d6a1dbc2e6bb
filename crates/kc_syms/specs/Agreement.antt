-- What an answer on a symbol says of its rows.
use Rattle.std.specs.Prelude.{◌≡◌, ◌≢◌, ℕ, List, [], ◌∷◌, ◌++◌, All, Result, Ok, Err}
use Rattle.kc_syms.specs.declared.fault.SymFault.{SymFault}
use Rattle.kc_syms.specs.declared.fault.SymFault.TheVariants.{S2, S3}
use Rattle.kc_syms.specs.Addresses.{at_run}

-- All of these listed addresses are this one at run time.
abbrev pub AllAt : ℕ → ℕ → List ℕ → Type 0
AllAt kaslr address listed = All (λ one. at_run kaslr one ≡ address) listed

-- The first of these listed addresses, and all before the first that is another one at run time, are this
-- one; and that one is the other.
pub record Differ (kaslr address other : ℕ) (listed : List ℕ) : Type 0 where
  pub front : List ℕ
  pub one : ℕ
  pub back : List ℕ
  pub split : listed ≡ front ++ one ∷ back
  pub some : front ≢ []
  pub before : AllAt kaslr address front
  pub there : at_run kaslr one ≡ other
  pub unlike : other ≢ address

-- what an answer says of the addresses that the symbol's rows list
abbrev pub Agrees : ℕ → List ℕ → Result ℕ SymFault → Type 0
Agrees kaslr listed (Ok address) = (listed ≢ []) × AllAt kaslr address listed
Agrees kaslr listed (Err S2) = listed ≡ []
Agrees kaslr listed (Err (S3 address other)) = Differ kaslr address other listed
