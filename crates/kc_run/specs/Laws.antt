-- What the verdicts on plans say.
use Rattle.std.specs.Prelude.{◌≡◌, ℕ, List, Ok, Err}
use Rattle.std.specs.List.{AllByRecursion}
use Rattle.kc_memory.specs.Image.{Image}
use Rattle.kc_memory.specs.Places.{AllStandIn}
use Rattle.kc_found.specs.declared.verdict.RootVerdict.{RootVerdict}
use Rattle.kc_found.specs.Violations.{Violation}
use Rattle.kc_kinds.specs.declared.kind.Kind.{Kind}
use Rattle.kc_kinds.specs.Structures.{Holds, nodes_of}
use Rattle.kc_plan.specs.Planned.{AuditAt}
use Rattle.kc_plan.specs.Roots.{Root, broken_in, first_broken, root_verdict, root_verdicts}
use Rattle.kc_plan.specs.Stands.{PlanStands, RootStands}
use Rattle.kc_plan.specs.Verdicts.{IsClean, verdict, verdict_places}

-- a walk gives these nodes exactly where they make up the structure
abbrev pub KindsAreWalked : Type 0
KindsAreWalked =
    (image : Image) (kind : Kind) (n start : ℕ) (nodes : List ℕ)
    → (Holds image kind start nodes → nodes_of image kind n start ≡ Ok nodes) × (nodes_of image kind n start ≡ Ok nodes → Holds image kind start nodes)

-- and the words that its violation shows are true of the dump
abbrev pub KindPlacesStand : Type 0
KindPlacesStand = (image : Image) (kind : Kind) (n start : ℕ) (v : Violation) → nodes_of image kind n start ≡ Err v → AllStandIn image v.places

-- the verdict is clean exactly where every root audit stands
abbrev pub CleanWhereStanding : Type 0
CleanWhereStanding =
    (image : Image) (audits : List AuditAt)
    → (IsClean (verdict image audits) → PlanStands image audits) × (PlanStands image audits → IsClean (verdict image audits))

-- the verdict on a root audit is clean exactly where that one stands
abbrev pub CleanRootsStand : Type 0
CleanRootsStand =
    (image : Image) (audits : List AuditAt) (r : Root)
    → (IsClean (root_verdict image audits r).verdict → RootStands image audits r)
    × (RootStands image audits r → IsClean (root_verdict image audits r).verdict)

-- The verdict on a plan is the first that is broken of the verdicts on its root audits, and it is clean exactly where all of
-- them are.
abbrev pub FirstOfRoots : Type 0
FirstOfRoots =
    (image : Image) (audits : List AuditAt)
    → (broken_in (verdict image audits) ≡ first_broken (root_verdicts image audits))
    × (IsClean (verdict image audits) → AllByRecursion (λ (v : RootVerdict). IsClean v.verdict) (root_verdicts image audits))
    × (AllByRecursion (λ (v : RootVerdict). IsClean v.verdict) (root_verdicts image audits) → IsClean (verdict image audits))

-- the words that a verdict shows are true of the dump
abbrev pub VerdictsStand : Type 0
VerdictsStand = (image : Image) (audits : List AuditAt) → AllStandIn image (verdict_places (verdict image audits))

abbrev pub RootVerdictsStand : Type 0
RootVerdictsStand = (image : Image) (audits : List AuditAt) (r : Root) → AllStandIn image (verdict_places (root_verdict image audits r).verdict)
