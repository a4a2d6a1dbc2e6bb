-- What the explanation of a report says.
use Rattle.std.specs.Prelude.{◌≡◌, List, find, option_and_then}
use Rattle.std.specs.List.{AllByRecursion}
use Rattle.kc_memory.specs.Image.{Image}
use Rattle.kc_memory.specs.Places.{AllStandIn}
use Rattle.kc_found.specs.declared.verdict.RootVerdict.{RootVerdict}
use Rattle.kc_plan.specs.Planned.{AuditAt}
use Rattle.kc_plan.specs.Roots.{broken_in, root_verdicts}
use Rattle.kc_plan.specs.Verdicts.{verdict, verdict_places}
use Rattle.kc_cause.specs.Explained.{Explained, explained_text, is_broken}
use Rattle.kc_cause.specs.Printed.{IsExplanation}

-- each word that shows a violation of a root audit stands in the dump, at the place that is shown
abbrev pub WordsStand : Explained → Type 0
WordsStand e = AllByRecursion (λ (r : RootVerdict). AllStandIn e.image (verdict_places r.verdict)) (root_verdicts e.image e.audits)

abbrev pub CausesStand : Type 0
CausesStand = (e : Explained) → WordsStand e

-- The violation of a plan with one verdict is that of the first root audit that is broken, which is the one that is explained.
abbrev pub FirstIsReported : Type 0
FirstIsReported =
    (image : Image) (audits : List AuditAt)
    → broken_in (verdict image audits) ≡ option_and_then (λ (r : RootVerdict). broken_in r.verdict) (find is_broken (root_verdicts image audits))

-- What the text says of repairs holds: it names the root audit that was tried, and with the number that it prints in the word's place that one stands.
abbrev pub ExplanationsHold : Type 0
ExplanationsHold = (e : Explained) → IsExplanation e (explained_text e)
