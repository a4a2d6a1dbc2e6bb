-- That what is said of a file of types is what its bytes are beside the dump's.
use Rattle.std.proofs.Common.{◌≡◌, ℕ, suc, nat_eq, Bool, true, false, if◌then◌else◌, List, [], ◌∷◌, Option, Some, None, option_map, refl, ap, arith}
use Rattle.std.proofs.lemmas.Bool.Decides.{nat_tests}
use Rattle.kc_match.specs.Beside.{beside, by_difference, first_difference}
use Rattle.kc_match.specs.Laws.{BesideStands, DifferAt, TypesStand}

-- what the first difference of two files says
abbrev Says : List ℕ → List ℕ → Option ℕ → Type 0
Says file own None = own ≡ file
Says file own (Some at) = DifferAt file own at

-- a byte more in each
says-more : (b c : ℕ) (bs cs : List ℕ) (o : Option ℕ) → b ≡ c → Says bs cs o → Says (b ∷ bs) (c ∷ cs) (option_map (λ at. suc at) o)
says-more b c bs cs None is says = rw (is, says) refl
says-more b c bs cs (Some at) is says = record { before = rw (is, says.before) refl; here = says.here }

says-by : (t : Bool) (b c : ℕ) (bs cs : List ℕ) (o : Option ℕ) → nat_eq b c ≡ t → Says bs cs o
    → Says (b ∷ bs) (c ∷ cs) (if t then option_map (λ at. suc at) o else Some 0)
says-by true b c bs cs o is says = says-more b c bs cs o (grind (arith, nat_tests)) says
says-by false b c bs cs o is says = record { before = refl; here = λ e. let one : b ≡ c = cc in grind (arith, nat_tests) }

says : (file own : List ℕ) → Says file own (first_difference file own)
unfolding first_difference
says [] [] = refl
says [] (c ∷ cs) = record { before = refl; here = λ e. cc }
says (b ∷ bs) [] = record { before = refl; here = λ e. cc }
says (b ∷ bs) (c ∷ cs) = says-by (nat_eq b c) b c bs cs (first_difference bs cs) refl (says bs cs)

stands-by : (file own : List ℕ) (o : Option ℕ) → Says file own o → BesideStands file (Some own) (by_difference o)
stands-by file own None says = ap (λ bytes. Some bytes) says
stands-by file own (Some at) says = (own, refl, says)

pub types_stand : TypesStand
types_stand file None = refl
types_stand file (Some own) = stands-by file own (first_difference file own) (says file own)
