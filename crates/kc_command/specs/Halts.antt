-- What is said where the store failed, and where it didn't.
use Rattle.std.specs.Prelude.{Result, Ok, Err, ⊤}
use Rattle.kc_command.specs.declared.halt.Halt.{Halt}
use Rattle.kc_command.specs.declared.halt.Halt.TheVariants.{Refused, Store, Memory}

abbrev pub OnStore : {A : Type 0} → Result A Halt → Type 0 → Type 0
OnStore (Ok answer) P = ⊤
OnStore (Err (Refused refusal)) P = ⊤
OnStore (Err Store) P = P
OnStore (Err Memory) P = ⊤

abbrev pub UnlessStore : {A : Type 0} → Result A Halt → Type 0 → Type 0
UnlessStore (Ok answer) P = P
UnlessStore (Err (Refused refusal)) P = P
UnlessStore (Err Store) P = ⊤
UnlessStore (Err Memory) P = P

abbrev pub NotStore : {A : Type 0} → Result A Halt → Type 0
NotStore r = OnStore r ⊥

abbrev pub NotRefused : {A : Type 0} → Result A Halt → Type 0
NotRefused (Ok answer) = ⊤
NotRefused (Err (Refused refusal)) = ⊥
NotRefused (Err Store) = ⊤
NotRefused (Err Memory) = ⊤

abbrev pub OnMemory : {A : Type 0} → Result A Halt → Type 0 → Type 0
OnMemory (Ok answer) P = ⊤
OnMemory (Err (Refused refusal)) P = ⊤
OnMemory (Err Store) P = ⊤
OnMemory (Err Memory) P = P
