-- What the answers of a recheck and of its parts say.
use Rattle.std.specs.Prelude.{◌≡◌, ℕ, ◌+◌, ◌*◌, ◌≤◌, List, drop, Option, Some, None, Result, Ok, Err, ⊤}
use Rattle.kc_memory.specs.Image.{Image}
use Rattle.kc_found.specs.declared.verdict.Verdict.TheVariants.{Clean}
use Rattle.kc_found.specs.declared.test.TestStop.{TestStop}
use Rattle.kc_found.specs.declared.test.TestStop.TheVariants.{Unfit, Fault, NoMemory}
use Rattle.kc_plan.specs.Planned.{AuditAt}
use Rattle.kc_plan.specs.Stands.{PlanStands}
use Rattle.kc_plan.specs.Verdicts.{verdict}
use Rattle.kc_cert.specs.declared.rechecking.against.CertAnswer.{CertAnswer}
use Rattle.kc_cert.specs.declared.rechecking.against.CertAnswer.TheVariants.{Yes, No}
use Rattle.kc_cert.specs.declared.text.certificate.CertStep.{CertStep}
use Rattle.kc_cert.specs.declared.rechecking.nest.StepCursor.{StepCursor}
use Rattle.kc_cert.specs.Rechecking.Certificates.{Judge, Progress}

-- where a certificate is looked at
abbrev pub progress : List CertStep → StepCursor → Progress
progress steps c = record { left = drop c.at steps; counts = c.counts }

-- steps fit up to here, or the one that is looked at doesn't
abbrev pub JudgesAs : {A I : Type 0} → (I → Judge) → Progress → Progress → Option I → Result A TestStop → Type 0
JudgesAs judge before after None r = ⊤
JudgesAs judge before after (Some i) (Ok x) = judge i before ≡ Ok after
JudgesAs judge before after (Some i) (Err Unfit) = judge i before ≡ Err after.left
JudgesAs judge before after (Some i) (Err Fault) = ⊤
JudgesAs judge before after (Some i) (Err NoMemory) = ⊤

-- How many steps each step, list and number of a certificate may cost.
abbrev pub cost : ℕ
cost = 1200000

-- the steps that are made, where so much of the certificate is left before and after: what fits is paid by what it takes
abbrev pub Spends : {A : Type 0} → Result A TestStop → ℕ → ℕ → ℕ → ℕ → ℕ → Type 0
Spends (Ok x) before after old new more = new + cost * after ≤ old + cost * before + more
Spends (Err stop) before after old new more = new ≤ old + cost * before + more

-- where a certificate fits, every root audit stands, and the verdict is clean, with these counts
abbrev pub IsRight : Image → List AuditAt → CertAnswer → Type 0
IsRight image audits (Yes counts) = PlanStands image audits × (verdict image audits ≡ Clean counts)
IsRight image audits (No k) = ⊤
