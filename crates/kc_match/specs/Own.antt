-- What the code answers of the types that a dump holds.
use Rattle.std.specs.Prelude.{◌≡◌, ⊤, ℕ, List, Option, Some, None, option_map, Result, Ok, Err, IfOk}
use Rattle.std.specs.Global.{Vec}
use Rattle.kc_command.specs.declared.halt.Halt.{Halt}
use Rattle.kc_command.specs.declared.halt.Halt.TheVariants.{Refused, Store, Memory}
use Rattle.kc_command.specs.Kernels.{NotedAt}
use Rattle.kc_kallsyms.specs.declared.stop.TableStop.{TableStop}
use Rattle.kc_kallsyms.specs.declared.stop.TableStop.TheVariants as stops
use Rattle.kc_match.specs.declared.beside.TypesBeside.{TypesBeside}
use Rattle.kc_match.specs.Beside.{beside, own_types}

abbrev pub own_view : Option (Vec ℕ) → Option (List ℕ)
own_view own = option_map (λ (v : Vec ℕ). v.items) own

-- a failure is one of the command; whatever else stops it, no types are found
abbrev pub IsLack : TableStop → Result (Option (Vec ℕ)) Halt → Type 0
IsLack (stops.Miss s) r = r ≡ Ok None
IsLack stops.Fault r = r ≡ Err Store
IsLack (stops.Table fault) r = r ≡ Ok None
IsLack stops.NoMemory r = r ≡ Err Memory

abbrev pub IsOwn : Result (Vec ℕ) TableStop → Result (Option (Vec ℕ)) Halt → Type 0
IsOwn (Ok bytes) r = r ≡ Ok (Some bytes)
IsOwn (Err stop) r = IsLack stop r

-- they are the definition's, and nothing is refused
abbrev pub AreOwn : Option (List ℕ) → Result (Option (Vec ℕ)) Halt → Type 0
AreOwn truth (Ok own) = truth ≡ own_view own
AreOwn truth (Err (Refused refusal)) = ⊥
AreOwn truth (Err Store) = ⊤
AreOwn truth (Err Memory) = ⊤

-- the same of the dump's bytes, where they are told
abbrev pub FindsOwn : NotedAt → List ℕ → Option (List ℕ) → Result (Option (Vec ℕ)) Halt → Type 0
FindsOwn noted note None r = ⊤
FindsOwn noted note (Some bytes) r = AreOwn (own_types bytes noted note) r

-- what is said of a file of types beside them
abbrev pub TellsBeside : NotedAt → List ℕ → List ℕ → Option (List ℕ) → Result TypesBeside Halt → Type 0
TellsBeside noted note file None r = ⊤
TellsBeside noted note file (Some bytes) r = IfOk r (λ told. told ≡ beside file (own_types bytes noted note))
