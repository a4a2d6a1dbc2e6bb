-- Steps that each end at a fault: where all are well, each is.
use Rattle.std.proofs.Common.{◌≡◌, ℕ, Bool, true, false, Option, Some, None, Result, Ok, Err, refl, subst}
use Rattle.std.specs.Prelude.{is_some, ⊤}
use Rattle.toml.specs.Data.{Data}
use Rattle.kc_expr.specs.declared.keys.fault.PRule.{PRule}
use Rattle.kc_expr.specs.declared.keys.fault.PlanKey.{PlanKey}
use Rattle.kc_kinds.specs.declared.needs.Need.TheVariants.{Allowed}
use Rattle.kc_plan.specs.Values.{◌>>=◌, at, asked, refuse_if, some_of, value_of}

-- a step and what follows it
pub bound : {A B E : Type 0} (r : Result A E) (f : A → Result B E) (y : B) → (r >>= f) ≡ Ok y → (x : A) × (r ≡ Ok x) × (f x ≡ Ok y)
bound (Ok x) f y e = (x, refl, e)
bound (Err fault) f y e = absurd (let none : ⊥ = cc in none)

pub same_ok : {A E : Type 0} (x y : A) → ◌≡◌ {A = Result A E} (Ok x) (Ok y) → x ≡ y
same_ok x y e = cc

-- a step at a key
pub at_ok : {A : Type 0} (n : Option ℕ) (key : PlanKey) (r : Result A PRule) (x : A) → at n key r ≡ Ok x → r ≡ Ok x
at_ok n key (Ok y) x e = cc
at_ok n key (Err rule) x e = absurd (let none : ⊥ = cc in none)

-- a test
pub refuse_ok : (broken : Bool) (rule : PRule) (x : ⊤) → refuse_if broken rule ≡ Ok x → broken ≡ false
refuse_ok true rule x e = absurd (let none : ⊥ = cc in none)
refuse_ok false rule x e = refl

pub tested : (n : Option ℕ) (key : PlanKey) (broken : Bool) (rule : PRule) (x : ⊤) → at n key (refuse_if broken rule) ≡ Ok x → broken ≡ false
tested n key broken rule x e = refuse_ok broken rule x (at_ok n key (refuse_if broken rule) x e)

some_is : {A : Type 0} (r : Result A PRule) (x : Option A) → some_of r ≡ Ok x → is_some x ≡ true
some_is (Ok y) x e = let same : Some y ≡ x = cc in subst (λ o. is_some o ≡ true) same refl
some_is (Err rule) x e = absurd (let none : ⊥ = cc in none)

-- an allowed key has a value where it is there
pub allowed_is : {A : Type 0} (read : Data → Option A) (found : Option Data) (x : Option A) → asked read Allowed found ≡ Ok x → is_some x ≡ is_some found
allowed_is read None x e = let same : None ≡ x = cc in subst (λ o. is_some o ≡ false) same refl
allowed_is read (Some d) x e = some_is (value_of read d) x e
