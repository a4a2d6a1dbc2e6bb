-- The first of some things that has an address.
use Rattle.std.specs.Prelude.{◌≡◌, ℕ, ◌-◌, ◌&&◌, nat_le, nat_lt, if◌then◌else◌, List, [], ◌∷◌, Option, Some, None, Result, Ok, Err}
use Rattle.std.specs.Option.{unwrap_or}
use Rattle.kc_found.specs.declared.found.WalkStop.{WalkStop}
use Rattle.kc_found.specs.declared.found.WalkStop.TheVariants as ends
use Rattle.kc_found.specs.Violations.{Violation}

-- the byte of a range that stands at an address, where the range of so many bytes has it; one at 0 is none
abbrev pub byte_of : ℕ → ℕ → ℕ → Option ℕ
byte_of base size address = if nat_lt 0 base && (nat_le base address && nat_lt (address - base) size) then Some (address - base) else None

-- what is found although something else can't be told, or why that can't
abbrev pub despite : {B : Type 0} → Violation → Result (Option B) Violation → Result (Option B) Violation
despite v (Ok (Some b)) = Ok (Some b)
despite v (Ok None) = Err v
despite v (Err w) = Err v

-- the same, where there is such a thing
abbrev pub despite_any : {B : Type 0} → Option Violation → Result (Option B) Violation → Result (Option B) Violation
despite_any None found = found
despite_any (Some v) found = despite v found

-- what was found, or what comes of the rest
abbrev pub or_else : {B : Type 0} → Result (Option B) Violation → Result (Option B) Violation → Result (Option B) Violation
or_else rest (Ok (Some b)) = Ok (Some b)
or_else rest (Ok None) = rest
or_else rest (Err v) = despite v rest

-- what is found first of some things, one after the other: one that can't be told is passed over; where none has it, the first violation is met
unfoldable pub first_of : {A B : Type 0} → (A → Result (Option B) Violation) → List A → Result (Option B) Violation
first_of go [] = Ok None
first_of go (x ∷ xs) = or_else (first_of go xs) (go x)

-- What is told of one of them is passed over where it is a violation, the first of which is kept: what then is answered.
abbrev pub IsPassed : {B : Type 0} → Result (Option B) WalkStop → Option Violation → Option Violation → Result (Option B) WalkStop → Type 0
IsPassed (Ok found) old new r = (r ≡ Ok found) × (new ≡ old)
IsPassed (Err (ends.Broken v)) old new r = (r ≡ Ok None) × (new ≡ Some (unwrap_or old v))
IsPassed (Err ends.Fault) old new r = r ≡ Err ends.Fault
IsPassed (Err ends.NoMemory) old new r = r ≡ Err ends.NoMemory

-- the answer where none has it
abbrev pub IsNone : {B : Type 0} → Option Violation → Result (Option B) WalkStop → Type 0
IsNone None r = r ≡ Ok None
IsNone (Some v) r = r ≡ Err (ends.Broken v)

-- the answer is what was found although something else can't be told, or why that can't
abbrev pub IsDespite : {B : Type 0} → Violation → Result (Option B) WalkStop → Result (Option B) WalkStop → Type 0
IsDespite v (Ok (Some b)) r = r ≡ Ok (Some b)
IsDespite v (Ok None) r = r ≡ Err (ends.Broken v)
IsDespite v (Err (ends.Broken w)) r = r ≡ Err (ends.Broken v)
IsDespite v (Err ends.Fault) r = r ≡ Err ends.Fault
IsDespite v (Err ends.NoMemory) r = r ≡ Err ends.NoMemory

-- the same, where there is such a thing
abbrev pub IsDespiteAny : {B : Type 0} → Option Violation → Result (Option B) WalkStop → Result (Option B) WalkStop → Type 0
IsDespiteAny None found r = r ≡ found
IsDespiteAny (Some v) found r = IsDespite v found r
