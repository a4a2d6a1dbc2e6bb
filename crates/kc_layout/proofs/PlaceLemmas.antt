-- Steps from a place, one by one.
use Rattle.std.proofs.Common.{◌≡◌, ℕ, ◌+◌, true, List, [], ◌∷◌, Option, Some, None, option_map, is_some, Ok, Err, refl}
use Rattle.kc_btf.specs.Btf.{Types}
use Rattle.kc_layout.specs.declared.fault.QRule.{QRule}
use Rattle.kc_layout.specs.Path.{Step}
use Rattle.kc_layout.specs.Places.{Place, led, take_steps, take_step}

-- no step is left
pub led-end : (types : Types) (taken step : ℕ) (place : Place) (steps : Option (List Step)) → taken ≡ step → steps ≡ Some [] → led types taken place steps ≡ Ok (record { place = place; step = step })
unfolding take_steps
led-end types taken step place steps same end = rw (end, same) refl

-- a step that is taken
pub led-next : (types : Types) (taken : ℕ) (place next : Place) (here : Step) (steps : Option (List Step)) → is_some steps ≡ true → take_step types place here ≡ Ok next →
    led types taken place (option_map (λ more. here ∷ more) steps) ≡ led types (taken + 1) next steps
unfolding take_steps
led-next types taken place next here None some is = let none : ⊥ = cc in absurd none
led-next types taken place next here (Some steps) some is = rw is refl

-- a step that breaks a rule
pub led-fault : (types : Types) (taken : ℕ) (place : Place) (rule : QRule) (here : Step) (steps : Option (List Step)) → is_some steps ≡ true → take_step types place here ≡ Err rule →
    led types taken place (option_map (λ more. here ∷ more) steps) ≡ Err (record { rule = rule; step = taken + 1 })
unfolding take_steps
led-fault types taken place rule here None some is = let none : ⊥ = cc in absurd none
led-fault types taken place rule here (Some steps) some is = rw is refl
