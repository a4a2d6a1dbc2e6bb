-- What the audits of a plan come to.
use Rattle.std.specs.Prelude.{◌≡◌, ℕ, ◌<◌, List, [], length, ⊤}
use Rattle.kc_memory.specs.declared.words.Place.{Place}
use Rattle.kc_memory.specs.Image.{Image}
use Rattle.kc_found.specs.declared.verdict.Verdict.{Verdict}
use Rattle.kc_found.specs.declared.verdict.Verdict.TheVariants.{Clean, Broken}
use Rattle.kc_plan.specs.Events.{first_wrong, verdict_of}
use Rattle.kc_plan.specs.Planned.{AuditAt}
use Rattle.kc_plan.specs.Seen.{World, all_seen, world}

abbrev pub verdict_in : World → List AuditAt → Verdict
verdict_in w audits = verdict_of (length audits) (all_seen w audits) (first_wrong (all_seen w audits))

-- the verdict on a dump: the first violation, or where there is none the counts of each audit
abbrev pub verdict : Image → List AuditAt → Verdict
verdict image audits = verdict_in (world image) audits

-- a violation names one of so many audits, and there is a count for each of them
abbrev pub FitsPlan : ℕ → Verdict → Type 0
FitsPlan audits (Clean counts) = length counts ≡ audits
FitsPlan audits (Broken v) = v.audit < audits

abbrev pub IsClean : Verdict → Type 0
IsClean (Clean counts) = ⊤
IsClean (Broken v) = ⊥

-- the words that a verdict shows
abbrev pub verdict_places : Verdict → List Place
verdict_places (Clean counts) = []
verdict_places (Broken v) = v.places
