-- What the definition of a plan says.
use Rattle.std.specs.Prelude.{◌≡◌, ℕ, Bool, List}
use Rattle.kc_btf.specs.Btf.{Types}
use Rattle.kc_plan.specs.Plans.{plan}

-- a plan is the same over symbols that list the same addresses for each name
abbrev pub PlansAgree : Type 0
PlansAgree = (types : Types) (listed other : List ℕ → List ℕ) (kaslr : ℕ) (five : Bool) (bytes : List ℕ) → ((name : List ℕ) → listed name ≡ other name)
    → plan (record { types = types; symbols = listed; kaslr = kaslr; five = five }) bytes ≡ plan (record { types = types; symbols = other; kaslr = kaslr; five = five }) bytes
