-- What is made of a command's files, step by step.
use Rattle.std.specs.Prelude.{◌≡◌, ⊤, ℕ, ◌^◌, nat_le, if◌then◌else◌, List, length, Option, Some, None, Result, Ok, Err}
use Rattle.kc_outside.specs.declared.store.Slot.{Slot}
use Rattle.kc_outside.specs.declared.store.Slot.TheVariants.{Plan, Report}
use Rattle.kc_outside.specs.Files.{Files}
use Rattle.kc_command.specs.declared.refusal.Refusal.{Refusal}
use Rattle.kc_command.specs.declared.refusal.Refusal.TheVariants.{TooLong}
use Rattle.kc_command.specs.declared.halt.Halt.{Halt}
use Rattle.kc_command.specs.declared.halt.Halt.TheVariants.{Refused, Store, Memory}

-- What a step makes: something, or a refusal, or none where it needs a file that isn't there.
abbrev pub Made : Type 0 → Type 0
Made A = Option (Result A Refusal)

-- one step after the other
infixl 10 ◌>>=◌
abbrev pub ◌>>=◌ : {A B : Type 0} → Made A → (A → Made B) → Made B
None >>= next = None
(Some (Err refusal)) >>= next = Some (Err refusal)
(Some (Ok a)) >>= next = next a

-- a step that gives something, and one that refuses
abbrev pub gives : {A : Type 0} → A → Made A
gives a = Some (Ok a)

abbrev pub refuses : {A : Type 0} → Refusal → Made A
refuses refusal = Some (Err refusal)

-- what a reader reads, or the refusal of its fault
abbrev pub checked : {A E : Type 0} → (E → Refusal) → Result A E → Made A
checked refusal (Ok a) = gives a
checked refusal (Err fault) = refuses (refusal fault)

-- something that has to be there
abbrev pub wanted : {A : Type 0} → Refusal → Option A → Made A
wanted refusal (Some a) = gives a
wanted refusal None = refuses refusal

-- the bytes of a file that has to be there
abbrev pub bytes_in : Option (List ℕ) → Made (List ℕ)
bytes_in None = None
bytes_in (Some bytes) = gives bytes

-- how long a file may be that is read whole, in bytes: a plan 1 MiB, a certificate 256 MiB, another one 64 MiB
abbrev pub limit : Slot → ℕ
limit Plan = 2 ^ 20
limit Report = 2 ^ 28
limit slot = 2 ^ 26

-- a longer file is refused before a byte of it is read
abbrev pub if_short : Slot → List ℕ → Made (List ℕ)
if_short slot bytes = if nat_le (length bytes) (limit slot) then gives bytes else refuses (TooLong slot)

abbrev pub short_file : Slot → Option (List ℕ) → Made (List ℕ)
short_file slot file = bytes_in file >>= if_short slot

-- a halt is what a step refuses, or a failure of the store, or want of memory
abbrev pub Halts : {A : Type 0} → Made A → Halt → Type 0
Halts made (Refused refusal) = made ≡ Some (Err refusal)
Halts made Store = ⊤
Halts made Memory = ⊤

-- what the code gives, seen by a view, is what the steps make
abbrev pub Is : {X A : Type 0} → (X → A) → Made A → Result X Halt → Type 0
Is view made (Ok x) = made ≡ Some (Ok (view x))
Is view made (Err halt) = Halts made halt

-- the same of the files, where they are told
abbrev pub IsOf : {X A : Type 0} → (X → A) → (Files → Made A) → Option Files → Result X Halt → Type 0
IsOf view made None r = ⊤
IsOf view made (Some files) r = Is view (made files) r

-- the same of a step that fails in no other way
abbrev pub Tells : {X A : Type 0} → (X → A) → Made A → Result X Refusal → Type 0
Tells view made (Ok x) = made ≡ Some (Ok (view x))
Tells view made (Err refusal) = made ≡ Some (Err refusal)
