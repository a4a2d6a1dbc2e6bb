-- The verdict of each root audit.
use Rattle.std.specs.Prelude.{◌≡◌, ℕ, suc, ◌<◌, ◌≤◌, ◌==◌, Bool, if◌then◌else◌, List, [], ◌∷◌, ◌++◌, length, map, All, Option, Some, None}
use Rattle.std.specs.List.{list_any}
use Rattle.kc_memory.specs.Image.{Image}
use Rattle.kc_found.specs.declared.verdict.RootVerdict.{RootVerdict}
use Rattle.kc_found.specs.declared.verdict.Verdict.{Verdict}
use Rattle.kc_found.specs.declared.verdict.Verdict.TheVariants.{Clean, Broken}
use Rattle.kc_found.specs.Violations.{Violation}
use Rattle.kc_plan.specs.Events.{Event, count_of, first_wrong}
use Rattle.kc_plan.specs.Planned.{AuditAt}
use Rattle.kc_plan.specs.Seen.{World, roots, seen, world}

abbrev pub is_among : ℕ → List ℕ → Bool
is_among n numbers = list_any (λ m. m == n) numbers

-- The numbers of the audits that are reached from some, in the order of the plan, among those that have the numbers from k
-- on. An audit names later ones alone.
abbrev pub reached : List ℕ → ℕ → List AuditAt → List ℕ
reached some k [] = []
reached some k (a ∷ later) =
    if is_among k some then k ∷ reached (some ++ a.each) (suc k) later else reached some (suc k) later

-- the numbers of the audits that a root audit reaches, itself included
abbrev pub reached_from : ℕ → List AuditAt → List ℕ
reached_from root audits = reached (root ∷ []) 0 audits

-- the first violation, or else the counts of these audits
abbrev pub verdict_among : List ℕ → List Event → Option Violation → Verdict
verdict_among numbers es (Some v) = Broken v
verdict_among numbers es None = Clean (map (λ n. count_of n es) numbers)

-- a root audit, by its number and its symbol's address
abbrev pub Root : Type 0
Root = ℕ × ℕ

abbrev pub root_seen : World → List AuditAt → Root → List Event
root_seen w audits r = seen w audits 0 r.0 r.1

abbrev pub root_in : World → List AuditAt → Root → RootVerdict
root_in w audits r = record {
  root = r.0;
  audits = reached_from r.0 audits;
  verdict = verdict_among (reached_from r.0 audits) (root_seen w audits r) (first_wrong (root_seen w audits r));
}

-- the verdict on a root audit alone: its first violation, or where there is none the counts of each audit that it reaches
abbrev pub root_verdict : Image → List AuditAt → Root → RootVerdict
root_verdict image audits r = root_in (world image) audits r

-- the verdicts on the root audits, in the order of the plan
abbrev pub root_verdicts : Image → List AuditAt → List RootVerdict
root_verdicts image audits = map (root_verdict image audits) (roots 0 audits)

abbrev pub broken_in : Verdict → Option Violation
broken_in (Clean counts) = None
broken_in (Broken v) = Some v

-- the violation of the first that is broken
abbrev pub or_later : Option Violation → Option Violation → Option Violation
or_later (Some v) later = Some v
or_later None later = later

abbrev pub first_broken : List RootVerdict → Option Violation
first_broken [] = None
first_broken (v ∷ vs) = or_later (broken_in v.verdict) (first_broken vs)

-- a violation names one of so many audits, and there is a count for each of these numbers
abbrev pub FitsAmong : ℕ → List ℕ → Verdict → Type 0
FitsAmong count numbers (Clean counts) = length counts ≡ length numbers
FitsAmong count numbers (Broken v) = v.audit < count

-- a verdict on a root audit and those that it reaches, which are among so many audits of a plan
pub record FitsRoot (count : ℕ) (audits : List AuditAt) (found : RootVerdict) : Type 0 where
  pub root : found.root < count
  pub reached : found.audits ≡ reached_from found.root audits
  pub below : All (λ n. n < count) found.audits
  pub verdict : FitsAmong count found.audits found.verdict

-- at most 256 verdicts, and each of them fits
pub record FitEach (count : ℕ) (audits : List AuditAt) (found : List RootVerdict) : Type 0 where
  pub few : length found ≤ 256
  pub roots : All (FitsRoot count audits) found
