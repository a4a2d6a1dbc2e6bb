-- What trials that pass say, and how one list of trials stands before another.
use Rattle.std.proofs.Common.{◌≡◌, ℕ, nat_eq, Bool, false, List, [], ◌++◌, Option}
use Rattle.std.specs.Prelude.{Ok, Err, IfSome}
use Rattle.std.specs.List.{IsDistinct}
use Rattle.kc_found.specs.Trials.{Trial, passed, met, claimed_in, IsUnbroken, broken_if}
use Rattle.kc_found.specs.Violations.{Violation}
use Rattle.kc_found.specs.Passing.{Passes}
use Rattle.kc_found.specs.declared.found.WalkStop.{WalkStop}
use Rattle.kc_found.specs.Walks.{WalksAs}
use Rattle.kc_found.proofs.Passed as passed
use Rattle.kc_found.proofs.Pairs as pairs
use Rattle.kc_found.proofs.Finite as finite
use Rattle.kc_found.proofs.Stops as stops

-- no words are different words
pub distinct_none : IsDistinct nat_eq []
distinct_none = passed.distinct_none

-- what trials that pass say
pub passed_is : {X : Type 0} (taken : List ℕ) (ts : List (Trial X)) (more : List ℕ) → passed taken ts ≡ Ok more → Passes taken ts more
passed_is = passed.passed_is

-- the words taken stay different
pub passed_distinct : {X : Type 0} (taken : List ℕ) (ts : List (Trial X)) (more : List ℕ) → passed taken ts ≡ Ok more → IsDistinct nat_eq taken → IsDistinct nat_eq more
passed_distinct = passed.passed_distinct

-- trials that break no rule pass, where the words that they take are different
pub passes : {X : Type 0} (ts : List (Trial X)) → IsUnbroken ts → IsDistinct nat_eq (claimed_in ts) → (more : List ℕ) × (passed [] ts ≡ Ok more)
passes = passed.passes

-- trials that pass, with further ones after them: the verdict is that of the further ones
pub passed_goes : {X : Type 0} (taken : List ℕ) (ts us : List (Trial X)) (more : List ℕ) → passed taken ts ≡ Ok more → passed taken (ts ++ us) ≡ passed more us
passed_goes = passed.passed_goes

-- a violation stands, whatever is tried after it
pub passed_stops : {X : Type 0} (taken : List ℕ) (ts us : List (Trial X)) (v : Violation) → passed taken ts ≡ Err v → passed taken (ts ++ us) ≡ Err v
passed_stops = passed.passed_stops

-- the elements that two lists of trials meet are those of the one and then those of the other
pub met-append : {X : Type 0} (ts us : List (Trial X)) → met (ts ++ us) ≡ met ts ++ met us
met-append = passed.met-append

-- and so are the words that they take
pub claimed_in-append : {X : Type 0} (ts us : List (Trial X)) → claimed_in (ts ++ us) ≡ claimed_in ts ++ claimed_in us
claimed_in-append = passed.claimed_in-append

-- two lists of trials break no rule, so neither of them does
pub unbroken_parts : {X : Type 0} (ts us : List (Trial X)) → IsUnbroken (ts ++ us) → IsUnbroken ts × IsUnbroken us
unbroken_parts = passed.unbroken_parts

-- and the other way round
pub unbroken_whole : {X : Type 0} (ts us : List (Trial X)) → IsUnbroken ts → IsUnbroken us → IsUnbroken (ts ++ us)
unbroken_whole = passed.unbroken_whole

-- a test before some trials meets nothing and takes nothing
pub if_front : (b : Bool) (v : Violation) (ts : List (Trial ℕ)) → (met (broken_if b v ++ ts) ≡ met ts) × (claimed_in (broken_if b v ++ ts) ≡ claimed_in ts)
if_front = pairs.if_front

-- nor does a test alone
pub if_bare : (b : Bool) (v : Violation) → (met {X = ℕ} (broken_if b v) ≡ []) × (claimed_in {X = ℕ} (broken_if b v) ≡ [])
if_bare = pairs.if_bare

-- a test and the trials after it break no rule: the test is false, and the trials break none
pub if_passed : (b : Bool) (v : Violation) (ts : List (Trial ℕ)) → IsUnbroken (broken_if b v ++ ts) → (b ≡ false) × IsUnbroken ts
if_passed = pairs.if_passed

-- and the other way round
pub if_passes : (b : Bool) (v : Violation) (ts : List (Trial ℕ)) → b ≡ false → IsUnbroken ts → IsUnbroken (broken_if b v ++ ts)
if_passes = pairs.if_passes

-- a test that is false breaks no rule
pub if_none : (b : Bool) (v : Violation) → b ≡ false → IsUnbroken {X = ℕ} (broken_if b v)
if_none = pairs.if_none

-- and one that breaks none is false
pub if_only : (b : Bool) (v : Violation) → IsUnbroken {X = ℕ} (broken_if b v) → b ≡ false
if_only = finite.if_only

-- a walk that stops at some trials stops there after a test that passed
pub stops_after : {A C I : Type 0} (v : A → List ℕ) (w : C → List ℕ) (image : Option I) (taken : List ℕ) (b : Bool) (f : Violation) (ts : I → List (Trial ℕ)) (stop : WalkStop) → b ≡ false →
    WalksAs v (λ i. passed taken (ts i)) image (Err stop) → WalksAs w (λ i. passed taken (broken_if b f ++ ts i)) image (Err stop)
stops_after = stops.stops_after

-- and with further trials after them
pub stops_before : {A C I : Type 0} (v : A → List ℕ) (w : C → List ℕ) (image : Option I) (taken : List ℕ) (ts us : I → List (Trial ℕ)) (stop : WalkStop) →
    WalksAs v (λ i. passed taken (ts i)) image (Err stop) → WalksAs w (λ i. passed taken (ts i ++ us i)) image (Err stop)
stops_before = stops.stops_before

-- what follows in each dump follows where the dump is told
pub if_some : {I : Type 0} (P Q : I → Type 0) (image : Option I) → ((i : I) → P i → Q i) → IfSome image P → IfSome image Q
if_some = stops.if_some
