-- The counts that a run keeps, event by event.
use Rattle.std.specs.Prelude.{ℕ, zero, suc, ◌+◌, ◌<◌, List, [], ◌∷◌, map, slice_get, unwrap_or, Option, Result, Ok, Err, ⊤}
use Rattle.kc_found.specs.declared.found.WalkStop.{WalkStop}
use Rattle.kc_found.specs.declared.found.WalkStop.TheVariants as ends
use Rattle.kc_found.specs.declared.verdict.AuditCount.{AuditCount}
use Rattle.kc_found.specs.Violations.{Violation}
use Rattle.kc_found.specs.Walks.{WalksAs}
use Rattle.kc_plan.specs.Events.{Event, Walk, Wrong, capped}
use Rattle.kc_plan.specs.Planned.{AuditAt}

-- no walk yet
abbrev pub no_walk : AuditCount
no_walk = record { walks = 0; elements = 0 }

abbrev pub zeros : List AuditAt → List AuditCount
zeros audits = map (λ a. no_walk) audits

-- the counts of the audits with these numbers
abbrev pub count_at : List AuditCount → ℕ → AuditCount
count_at counts n = unwrap_or (slice_get counts n) no_walk

abbrev pub counts_at : List AuditCount → List ℕ → List AuditCount
counts_at counts numbers = map (count_at counts) numbers

-- a walk more, with so many elements
abbrev pub more : AuditCount → ℕ → AuditCount
more count size = record { walks = capped (count.walks + 1); elements = capped (count.elements + size) }

-- a walk of audit n more
abbrev pub added : List AuditCount → ℕ → ℕ → List AuditCount
added [] n size = []
added (c ∷ cs) zero size = more c size ∷ cs
added (c ∷ cs) (suc n) size = c ∷ added cs n size

-- the counts after what is seen, or the first violation
abbrev pub tally : List AuditCount → List Event → Result (List AuditCount) Violation
tally counts [] = Ok counts
tally counts (Walk n size ∷ es) = tally (added counts n size) es
tally counts (Wrong v ∷ es) = Err v

-- the counts before and after a part of a run are those before and after what is seen there
abbrev pub TalliesAs : {A I : Type 0} → (I → List Event) → List AuditCount → List AuditCount → Option I → Result A WalkStop → Type 0
TalliesAs events before after image r = WalksAs (λ _. after) (λ i. tally before (events i)) image r

-- a violation names one of so many audits
abbrev pub NamesBelow : {A : Type 0} → Result A WalkStop → ℕ → Type 0
NamesBelow (Ok x) audits = ⊤
NamesBelow (Err (ends.Broken v)) audits = v.audit < audits
NamesBelow (Err ends.Fault) audits = ⊤
NamesBelow (Err ends.NoMemory) audits = ⊤
