-- What repairs say.
use Rattle.std.specs.Prelude.{◌≡◌, ℕ, Bool, true, filter, ◌++◌, List, [], ◌∷◌, length, slice_get, Option, Some, is_some, option_map, option_to_list, IfSome}
use Rattle.std.specs.List.{AllByRecursion}
use Rattle.kc_memory.specs.declared.words.Origin.TheVariants.{File}
use Rattle.kc_memory.specs.Image.{Image, pword}
use Rattle.kc_found.specs.declared.verdict.AuditCount.{AuditCount}
use Rattle.kc_found.specs.declared.verdict.Verdict.TheVariants.{Clean, Broken}
use Rattle.kc_found.specs.Violations.{Violation}
use Rattle.kc_kinds.specs.declared.kind.Kind.{Kind}
use Rattle.kc_plan.specs.Planned.{AuditAt}
use Rattle.kc_plan.specs.Roots.{Root, root_verdict}
use Rattle.kc_plan.specs.Stands.{RootStands}
use Rattle.kc_repair.specs.declared.first.FirstWalk.{FirstWalk}
use Rattle.kc_repair.specs.declared.others.Stand.{Stand}
use Rattle.kc_repair.specs.Elements.{elements_with}
use Rattle.kc_repair.specs.Others.{stand_of}
use Rattle.kc_repair.specs.declared.suspect.suspect.Suspect.{Suspect}
use Rattle.kc_repair.specs.Suspect.Laws.{IsSuspect}
use Rattle.kc_repair.specs.Suspect.Suspects.{suspects}
use Rattle.kc_repair.specs.declared.outcome.Next.{Next}
use Rattle.kc_repair.specs.declared.outcome.Repair.{Repair}
use Rattle.kc_repair.specs.declared.outcome.Repair.TheVariants.{Stands, Nothing}
use Rattle.kc_repair.specs.Repairs.{IsRepairBy, StandsAs, WalkBreaks, breaking_of, is_apart, repair_left, repair_of, verdict_with, walk_of, with_suspect, with_words}

-- With a suspect that repairs a violation the root audit's structures stand, and where none does, they stand with none that is tried, unless the violation's
-- walk breaks with it.
abbrev pub RepairsStand : Type 0
RepairsStand =
    (image : Image) (audits : List AuditAt) (root : Root) (kind : Kind) (v : Violation)
    → StandsAs image audits root (walk_of image audits kind v) (suspects image kind v) (repair_of image audits root kind v)

-- the answer is about these suspects
abbrev pub RepairsAreExact : Type 0
RepairsAreExact =
    (image : Image) (audits : List AuditAt) (root : Root) (kind : Kind) (v : Violation)
    → IsRepairBy image audits root (breaking_of image audits kind v) (suspects image kind v) (repair_of image audits root kind v)

-- the violation that a suspect leads to is what the root audit comes to with it
pub record ComesThen (image : Image) (audits : List AuditAt) (root : Root) (n : Next) : Type 0 where
  pub v : Violation
  pub rule : n.rule ≡ v.rule
  pub at : n.at ≡ v.at
  pub comes : verdict_with image audits root n.suspect ≡ Broken v

abbrev pub NextsAreOfRoot : Type 0
NextsAreOfRoot =
    (image : Image) (audits : List AuditAt) (root : Root) (kind : Kind) (v : Violation) (tried : ℕ) (more : Bool) (n : Next)
    → repair_of image audits root kind v ≡ Nothing tried more (Some n) → ComesThen image audits root n

-- the suspects that an answer tells
abbrev pub next_suspects : Option Next → List Suspect
next_suspects next = option_to_list (option_map (λ (n : Next). n.suspect) next)

abbrev pub told_suspects : Repair → List Suspect
told_suspects (Stands s) = s ∷ []
told_suspects (Nothing tried more next) = next_suspects next

-- Each is a word of the dump whose bytes stand in the file, and another number than it holds.
abbrev pub RepairWordsStand : Type 0
RepairWordsStand =
    (image : Image) (audits : List AuditAt) (root : Root) (kind : Kind) (v : Violation)
    → AllByRecursion (IsSuspect image) (told_suspects (repair_of image audits root kind v))

-- a suspect where some words are changed: it stands so in the memory with these, and shares no byte with them
pub record IsLeft (image : Image) (earlier : List Suspect) (s : Suspect) : Type 0 where
  pub there : IsSuspect (with_words image earlier) s
  pub apart : is_apart earlier s ≡ true

-- the same of a violation that is left where some words are changed
abbrev pub LeftStand : Type 0
LeftStand =
    (image : Image) (audits : List AuditAt) (root : Root) (earlier : List Suspect) (kind : Kind) (v : Violation)
    → StandsAs (with_words image earlier) audits root (walk_of (with_words image earlier) audits kind v) (filter (is_apart earlier) (suspects (with_words image earlier) kind v)) (repair_left image audits root earlier kind v)

abbrev pub LeftWordsStand : Type 0
LeftWordsStand =
    (image : Image) (audits : List AuditAt) (root : Root) (earlier : List Suspect) (kind : Kind) (v : Violation)
    → AllByRecursion (IsLeft image earlier) (told_suspects (repair_left image audits root earlier kind v))

-- a word of the dump as it is, with no word changed: its number stands at its physical address, and in the file at its offset
abbrev pub StandsInFile : Image → Suspect → Type 0
StandsInFile image s = pword image.physical s.pa ≡ Some (record { value = s.now; off = File s.off })

-- So does each that is left, since the changed words have none of its bytes. Its virtual address may lead there only with these changed.
abbrev pub LeftStandInFile : Type 0
LeftStandInFile = (image : Image) (earlier : List Suspect) (s : Suspect) → IsLeft image earlier s → StandsInFile image s

-- one word more is changed over the others
abbrev pub OneMore : Type 0
OneMore = (image : Image) (words : List Suspect) (s : Suspect) → with_words image (words ++ s ∷ []) ≡ with_suspect (with_words image words) s

-- with a word the structures don't stand, unless the walk that comes first breaks with it
abbrev pub FailsWith : Image → List AuditAt → Root → Option FirstWalk → Suspect → Type 0
FailsWith image audits root walk s = RootStands (with_suspect image s) audits root → WalkBreaks (with_suspect image s) walk

-- What is said of a word that repairs beside others: so many words of the dump were tried, those before it, itself, and those after it. With none of those
-- the structures stand, but for the last one, where another word repairs.
pub record IsStand (image : Image) (audits : List AuditAt) (root : Root) (walk : Option FirstWalk) (s : Suspect) (stand : Stand) : Type 0 where
  pub before : List Suspect
  pub after : List Suspect
  pub other : Option Suspect
  pub there : AllByRecursion (IsSuspect image) (before ++ after ++ option_to_list other)
  pub fail : AllByRecursion (FailsWith image audits root walk) (before ++ after)
  pub also : IfSome other (λ (t : Suspect). RootStands (with_suspect image t) audits root)
  pub two : stand.also ≡ is_some other
  pub number : stand.tried ≡ length (before ++ s ∷ after ++ option_to_list other)

abbrev pub OthersStand : Type 0
OthersStand =
    (image : Image) (audits : List AuditAt) (root : Root) (kind : Kind) (v : Violation) (s : Suspect)
    → repair_of image audits root kind v ≡ Stands s → IsStand image audits root (walk_of image audits kind v) s (stand_of image audits root kind v)

-- the root audit is clean with some words changed, and counts so many elements of the audit with a number
pub record IsCounted (image : Image) (audits : List AuditAt) (root : Root) (words : List Suspect) (number n : ℕ) : Type 0 where
  pub counts : List AuditCount
  pub clean : (root_verdict (with_words image words) audits root).verdict ≡ Clean counts
  pub place : ℕ
  pub named : slice_get (root_verdict (with_words image words) audits root).audits place ≡ Some number
  pub count : AuditCount
  pub counted : slice_get counts place ≡ Some count
  pub elements : count.elements ≡ n

abbrev pub ElementsAreCounted : Type 0
ElementsAreCounted =
    (image : Image) (audits : List AuditAt) (root : Root) (words : List Suspect) (number n : ℕ)
    → elements_with image audits root words number ≡ Some n → IsCounted image audits root words number n
