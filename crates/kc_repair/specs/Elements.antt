-- How many elements an audit meets where some words are changed.
use Rattle.std.specs.Prelude.{ℕ, ◌==◌, if◌then◌else◌, List, [], ◌∷◌, Option, Some, None}
use Rattle.kc_memory.specs.Image.{Image}
use Rattle.kc_found.specs.declared.verdict.AuditCount.{AuditCount}
use Rattle.kc_found.specs.declared.verdict.RootVerdict.{RootVerdict}
use Rattle.kc_found.specs.declared.verdict.Verdict.{Verdict}
use Rattle.kc_found.specs.declared.verdict.Verdict.TheVariants.{Clean, Broken}
use Rattle.kc_plan.specs.Planned.{AuditAt}
use Rattle.kc_plan.specs.Roots.{Root, root_verdict}
use Rattle.kc_repair.specs.declared.suspect.suspect.Suspect.{Suspect}
use Rattle.kc_repair.specs.Repairs.{with_words}

-- those of the audit with a number, by the counts of the audits with these numbers
abbrev pub elements_in : ℕ → List ℕ → List AuditCount → Option ℕ
elements_in number [] counts = None
elements_in number (n ∷ numbers) [] = None
elements_in number (n ∷ numbers) (c ∷ counts) = if n == number then Some c.elements else elements_in number numbers counts

-- where the audits found nothing
abbrev pub elements_by : ℕ → List ℕ → Verdict → Option ℕ
elements_by number numbers (Clean counts) = elements_in number numbers counts
elements_by number numbers (Broken v) = None

abbrev pub elements_of : ℕ → RootVerdict → Option ℕ
elements_of number r = elements_by number r.audits r.verdict

-- by the verdict on a root audit over the memory with these words changed
abbrev pub elements_with : Image → List AuditAt → Root → List Suspect → ℕ → Option ℕ
elements_with image audits root words number = elements_of number (root_verdict (with_words image words) audits root)
