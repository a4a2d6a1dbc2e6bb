-- Several words that repair a root audit together: each the first that leads on.
use Rattle.std.specs.Prelude.{ℕ, zero, suc, List, [], ◌∷◌, ◌++◌, slice_get, Option, Some, None, option_map}
use Rattle.kc_memory.specs.Image.{Image}
use Rattle.kc_found.specs.declared.verdict.Verdict.{Verdict}
use Rattle.kc_found.specs.declared.verdict.Verdict.TheVariants.{Clean, Broken}
use Rattle.kc_plan.specs.Planned.{AuditAt}
use Rattle.kc_plan.specs.Roots.{Root}
use Rattle.kc_repair.specs.declared.first.FirstWalk.{FirstWalk}
use Rattle.kc_repair.specs.declared.suspect.suspect.Suspect.{Suspect}
use Rattle.kc_repair.specs.declared.outcome.Repair.{Repair}
use Rattle.kc_repair.specs.declared.outcome.Repair.TheVariants.{Stands, Nothing}
use Rattle.kc_repair.specs.Repairs.{judged, planned_walk, repair_left, with_words}
use Rattle.kc_cause.specs.declared.chain.Left.{Left}
use Rattle.kc_cause.specs.Suspected.{Suspected, suspected}

-- what repairs a violation as it is suspected, that is left where some words are changed
abbrev pub left_as : Image → List AuditAt → Root → List Suspect → Suspected → Repair
left_as image audits root words s = repair_left image audits root words s.kind s.violation

-- where it then comes to one
abbrev pub left_by : Image → List AuditAt → Root → List Suspect → Verdict → Option Repair
left_by image audits root words (Clean counts) = None
left_by image audits root words (Broken v) =
    option_map (λ (a : AuditAt). left_as image audits root words (suspected (with_words image words) v a.kind)) (slice_get audits v.audit)

-- the walk of the audit that finds a violation
abbrev pub next_walk : List AuditAt → Verdict → Option FirstWalk
next_walk audits (Clean counts) = None
next_walk audits (Broken v) = planned_walk audits v

abbrev pub left_of : Image → List AuditAt → Root → List Suspect → Verdict → Left
left_of image audits root words verdict = record { walk = next_walk audits verdict; repair = left_by image audits root words verdict }

-- What is left where some words are changed: what a walk finds then, the one that found the violation before, and where it stands what the root audit does.
abbrev pub left_after : Image → List AuditAt → Root → Option FirstWalk → List Suspect → Left
left_after image audits root walk words = left_of image audits root words (judged (with_words image words) audits root walk None)

-- the word that leads to another violation, where none repairs
abbrev pub leads_on : Option Repair → Option Suspect
leads_on (Some (Nothing tried beyond (Some next))) = Some next.suspect
leads_on (Some (Nothing tried beyond None)) = None
leads_on (Some (Stands s)) = None
leads_on None = None

-- words with the one that repairs what is left, where there is one
abbrev pub ended : List Suspect → Option Repair → Option (List Suspect)
ended words (Some (Stands s)) = Some (words ++ s ∷ [])
ended words (Some (Nothing tried beyond next)) = None
ended words None = None

-- Words that are changed one after the other, at most so many more: where a word repairs what is left, it is the last, and else the first that leads
-- to another violation goes along.
unfoldable pub chain_from : ℕ → Image → List AuditAt → Root → List Suspect → Option FirstWalk → Option Repair → Option (List Suspect)
chain_from zero image audits root words walk left = None
chain_from (suc more) image audits root words walk None = None
chain_from (suc more) image audits root words walk (Some (Stands s)) = Some (words ++ s ∷ [])
chain_from (suc more) image audits root words walk (Some (Nothing tried beyond None)) = None
chain_from (suc more) image audits root words walk (Some (Nothing tried beyond (Some next))) =
    chain_from more image audits root (words ++ next.suspect ∷ [])
    (left_after image audits root walk (words ++ next.suspect ∷ [])).walk (left_after image audits root walk (words ++ next.suspect ∷ [])).repair

-- how many words are changed at most
abbrev pub most_words : ℕ
most_words = 8

-- Those that repair together, after what a violation is answered by. After the first word the root audit is asked.
abbrev pub chain_of : Image → List AuditAt → Root → Repair → Option (List Suspect)
chain_of image audits root first = chain_from most_words image audits root [] None (Some first)
