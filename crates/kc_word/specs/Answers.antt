-- What a call answers, beside a definition of the answer.
use Rattle.std.specs.Prelude.{◌≡◌, ⊤, Option, Some, None, Result, Ok, Err}

-- what a call gave, seen by a view, is what the definition gives
abbrev pub Gives : {X Y E : Type 0} → (X → Y) → Result X E → Result Y E → Type 0
Gives view (Ok x) definition = definition ≡ Ok (view x)
Gives view (Err e) definition = definition ≡ Err e

-- where an error tells a fault, it is the definition's; another, as want of memory, may come with any
abbrev pub Tells : {Y F : Type 0} → Option F → Result Y F → Type 0
Tells (Some fault) definition = definition ≡ Err fault
Tells None definition = ⊤

-- the same as `Gives`, where not every error tells a fault: `told` says which one it tells
abbrev pub GivesTold : {X Y E F : Type 0} → (E → Option F) → (X → Y) → Result X E → Result Y F → Type 0
GivesTold told view (Ok x) definition = definition ≡ Ok (view x)
GivesTold told view (Err e) definition = Tells (told e) definition
