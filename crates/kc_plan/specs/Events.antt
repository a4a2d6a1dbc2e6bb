-- What an audit of a dump comes upon, one thing after the other, and what that comes to.
use Rattle.std.specs.Prelude.{ℕ, zero, suc, ◌+◌, ◌-◌, ◌^◌, min, nat_eq, if◌then◌else◌, List, [], ◌∷◌, Option, Some, None}
use Rattle.kc_found.specs.declared.verdict.AuditCount.{AuditCount}
use Rattle.kc_found.specs.declared.verdict.Verdict.{Verdict}
use Rattle.kc_found.specs.declared.verdict.Verdict.TheVariants.{Clean, Broken}
use Rattle.kc_found.specs.Violations.{Violation}

-- an audit of the plan walked a structure, which has so many elements; or there is a violation
pub data Event : Type 0 where
  Walk : ℕ → ℕ → Event
  Wrong : Violation → Event

-- the first violation
abbrev pub first_wrong : List Event → Option Violation
first_wrong [] = None
first_wrong (Walk n size ∷ es) = first_wrong es
first_wrong (Wrong v ∷ es) = Some v

-- how many walks an audit made
abbrev pub walks_of : ℕ → List Event → ℕ
walks_of k [] = 0
walks_of k (Walk n size ∷ es) = (if nat_eq n k then 1 else 0) + walks_of k es
walks_of k (Wrong v ∷ es) = walks_of k es

-- how many elements they met
abbrev pub elements_of : ℕ → List Event → ℕ
elements_of k [] = 0
elements_of k (Walk n size ∷ es) = (if nat_eq n k then size else 0) + elements_of k es
elements_of k (Wrong v ∷ es) = elements_of k es

-- a count stays at its last value
abbrev pub capped : ℕ → ℕ
capped n = min n (2 ^ 64 - 1)

-- the count of an audit
abbrev pub count_of : ℕ → List Event → AuditCount
count_of k es = record { walks = capped (walks_of k es); elements = capped (elements_of k es) }

-- the counts of so many audits, from number k on
abbrev pub counts_of : ℕ → ℕ → List Event → List AuditCount
counts_of zero k es = []
counts_of (suc left) k es = count_of k es ∷ counts_of left (suc k) es

-- the first violation, or else the counts of so many audits
abbrev pub verdict_of : ℕ → List Event → Option Violation → Verdict
verdict_of audits es (Some v) = Broken v
verdict_of audits es None = Clean (counts_of audits 0 es)
