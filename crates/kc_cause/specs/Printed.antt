-- What the text that explains a report says of repairs: each line against the dump, and against the root audit that its part names.
use Rattle.std.specs.Prelude.{◌≡◌, ℕ, nat_eq, ◌⊎◌, if◌then◌else◌, List, [], ◌∷◌, ◌++◌, codes, decimal, find, length, map, ⊤, slice_get, Option, Some, None, option_to_list, IfSome, All, Ok}
use Rattle.std.specs.List.{AllByRecursion, AllZip, concat}
use Rattle.kc_memory.specs.declared.words.Origin.TheVariants.{File}
use Rattle.kc_memory.specs.declared.words.VWord.{VWord}
use Rattle.kc_memory.specs.Image.{Image}
use Rattle.kc_text.specs.Text.{hex}
use Rattle.kc_found.specs.declared.verdict.RootVerdict.{RootVerdict}
use Rattle.kc_found.specs.Violations.{Violation}
use Rattle.kc_plan.specs.Planned.{AuditAt}
use Rattle.kc_plan.specs.Roots.{Root, broken_in, root_verdict, root_verdicts}
use Rattle.kc_plan.specs.Stands.{RootStands}
use Rattle.kc_run.specs.Each.{root_at}
use Rattle.kc_repair.specs.declared.suspect.suspect.Suspect.{Suspect}
use Rattle.kc_repair.specs.declared.first.FirstWalk.{FirstWalk}
use Rattle.kc_repair.specs.Repairs.{WalkBreaks, walk_of, with_suspect, with_words}
use Rattle.kc_repair.specs.Laws.{IsCounted, IsLeft, StandsInFile}
use Rattle.kc_repair.specs.Suspect.Laws.{IsSuspect}
use Rattle.kc_report.specs.Lines.{rule_code}
use Rattle.kc_told.specs.Near.{near_word}
use Rattle.kc_told.specs.Text.{near_line}
use Rattle.kc_cause.specs.Explained.{Explained, is_broken, says_at}
use Rattle.kc_cause.specs.Signs.{sign_lines, sign_of}
use Rattle.kc_cause.specs.Suspected.{Suspected, suspected}

-- the columns of a word: its virtual and its physical address, its file offset, the number that stands there, and another
abbrev pub columns : Suspect → List ℕ
columns s = hex s.va ++ codes " " ++ hex s.pa ++ codes " " ++ hex s.off ++ codes " " ++ hex s.now ++ codes " " ++ hex s.value

-- a word as if its other number stood there
abbrev pub as_if : Suspect → VWord
as_if s = record { va = s.va; pa = s.pa; off = File s.off; value = s.value }

-- Under `leads`: what is said of a word's other number in the words of a line on a word beside an address, as if it stood there in the dump as it is.
pub record IsLed (e : Explained) (s : Suspect) (said : List ℕ) : Type 0 where
  pub words : List ℕ
  pub near : near_line e.symbols.image (near_word e.image e.shapes.objects e.shapes.cpus (Ok (as_if s))) ≡ codes "near " ++ hex s.va ++ codes " " ++ hex s.value ++ codes " " ++ words ++ codes "\n"
  pub line : said ≡ codes "leads " ++ words ++ codes "\n"

-- Before that, what the word says that stands there, in the words of a line on a word that shows a violation, or nothing.
pub record LeadsAs (e : Explained) (s : Suspect) (said : List ℕ) : Type 0 where
  pub old : List ℕ
  pub new : List ℕ
  pub is : said ≡ old ++ new
  pub says : (old ≡ []) ⊎ (old ≡ says_at e s.now (Some s.va))
  pub leads : (new ≡ []) ⊎ IsLed e s new

-- Under `stand`: so many words were tried, those before this one, it, and those after it. Each stands in the dump so. With none of those the root audit stands,
-- unless the walk that found the violation breaks with it, but for the last one, where another word repairs.
pub record IsAlone (e : Explained) (root : Root) (walk : Option FirstWalk) (s : Suspect) (said : List ℕ) : Type 0 where
  pub before : List Suspect
  pub after : List Suspect
  pub other : Option Suspect
  pub there : AllByRecursion (IsSuspect e.image) (before ++ after ++ option_to_list other)
  pub fail : AllByRecursion (λ (t : Suspect). RootStands (with_suspect e.image t) e.audits root → WalkBreaks (with_suspect e.image t) walk) (before ++ after)
  pub also : IfSome other (λ (t : Suspect). RootStands (with_suspect e.image t) e.audits root)
  pub line : said ≡ codes "stand " ++ decimal (length (s ∷ option_to_list other)) ++ codes " of " ++ decimal (length (before ++ s ∷ after ++ option_to_list other)) ++ codes " tried\n"

-- Under `elements`: the root audit is clean with some words changed, and counts so many elements of the audit with a number.
pub record CountsElements (e : Explained) (root : Root) (words : List Suspect) (number : ℕ) (said : List ℕ) : Type 0 where
  pub n : ℕ
  pub counts : IsCounted e.image e.audits root words number n
  pub line : said ≡ codes "elements " ++ decimal n ++ codes "\n"

abbrev pub CountsAs : Explained → Root → List Suspect → ℕ → List ℕ → Type 0
CountsAs e root words number said = (said ≡ []) ⊎ CountsElements e root words number said

-- Under `repair` or `fits`: a word stands in the dump so, and with the other number the root audit stands. Then follow what that number leads to, whether other
-- words would do as well, and the elements of the audit with a number.
pub record IsRepaired (e : Explained) (root : Root) (walk : Option FirstWalk) (number : ℕ) (text : List ℕ) : Type 0 where
  pub label : List ℕ
  pub one : (label ≡ codes "repair ") ⊎ (label ≡ codes "fits ")
  pub word : Suspect
  pub leads : List ℕ
  pub stand : List ℕ
  pub elements : List ℕ
  pub line : text ≡ label ++ (columns word ++ codes "\n" ++ leads ++ (stand ++ elements))
  pub there : IsSuspect e.image word
  pub stands : RootStands (with_suspect e.image word) e.audits root
  pub led : LeadsAs e word leads
  pub alone : IsAlone e root walk word stand
  pub counted : CountsAs e root (word ∷ []) number elements

-- Under `then`: a word stands in the dump so, and with the other number the root audit breaks this rule at this address.
pub record IsThen (e : Explained) (root : Root) (text : List ℕ) : Type 0 where
  pub word : Suspect
  pub v : Violation
  pub line : text ≡ codes "then " ++ columns word ++ codes " " ++ rule_code v.rule ++ codes " " ++ hex v.at ++ codes "\n"
  pub there : IsSuspect e.image word
  pub breaks : broken_in (root_verdict (with_suspect e.image word) e.audits root).verdict ≡ Some v

-- Each of some words stands so in the dump with those before it changed, and shares no byte with them.
abbrev pub StandInTurn : Image → List Suspect → List Suspect → Type 0
StandInTurn image before [] = ⊤
StandInTurn image before (s ∷ later) = IsLeft image before s × StandInTurn image (before ++ s ∷ []) later

-- a word of some, with what its other number leads to
pub record IsWord (e : Explained) (s : Suspect) (text : List ℕ) : Type 0 where
  pub leads : List ℕ
  pub led : LeadsAs e s leads
  pub line : text ≡ codes "word " ++ (columns s ++ codes "\n" ++ leads)

-- Under `chain`: so many words, in the order in which they are changed. The number of each stands at its physical address and its file offset in the
-- dump as it is, and with all their other numbers the root audit stands. The elements are those of the audit with a number then.
pub record IsChained (e : Explained) (root : Root) (number : ℕ) (text : List ℕ) : Type 0 where
  pub words : List Suspect
  pub lines : List (List ℕ)
  pub each : AllZip (IsWord e) words lines
  pub elements : List ℕ
  pub line : text ≡ codes "chain " ++ decimal (length words) ++ codes "\n" ++ concat lines ++ (sign_lines (sign_of words) ++ elements)
  pub there : StandInTurn e.image [] words
  pub in_file : AllByRecursion (StandsInFile e.image) words
  pub stands : RootStands (with_words e.image words) e.audits root
  pub counted : CountsAs e root words number elements

-- the walk that finds a violation, as it is suspected
abbrev pub walk_as : Explained → Suspected → Option FirstWalk
walk_as e s = walk_of e.image e.audits s.kind s.violation

-- Under `repair none`: so many words stand in the dump so, and with the other number of none of them the root audit stands, unless the walk that found the
-- violation breaks with it.
pub record IsUnrepaired (e : Explained) (root : Root) (walk : Option FirstWalk) (number : ℕ) (text : List ℕ) : Type 0 where
  pub tried : List Suspect
  pub label : List ℕ
  pub one : (label ≡ codes "repair none of ") ⊎ (label ≡ codes "repair none of the first ")
  pub next : List ℕ
  pub line : text ≡ label ++ decimal (length tried) ++ codes " tried\n" ++ next
  pub there : AllByRecursion (IsSuspect e.image) tried
  pub fails : All (λ s. RootStands (with_suspect e.image s) e.audits root → WalkBreaks (with_suspect e.image s) walk) tried
  pub goes_on : IsChained e root number next ⊎ ((next ≡ []) ⊎ IsThen e root next)

-- The part of a root audit that is broken begins with the audit's name, and ends with what repairs this root audit, where the violation names an audit
-- that found it.
pub record IsPart (e : Explained) (number : ℕ) (v : Violation) (part : List ℕ) : Type 0 where
  pub audit : AuditAt
  pub named : slice_get e.audits number ≡ Some audit
  pub root : Root
  pub is : root_at number e.audits ≡ Some root
  pub middle : List ℕ
  pub ending : List ℕ
  pub text : part ≡ codes "root " ++ audit.name ++ codes "\n" ++ middle ++ ending
  pub said : IfSome (slice_get e.audits v.audit) (λ (a : AuditAt).
      IsRepaired e root (walk_as e (suspected e.image v a.kind)) v.audit ending ⊎ IsUnrepaired e root (walk_as e (suspected e.image v a.kind)) v.audit ending)

-- that of one that is sound is empty
abbrev pub IsPartBy : Explained → ℕ → Option Violation → List ℕ → Type 0
IsPartBy e number None part = part ≡ []
IsPartBy e number (Some v) part = IsPart e number v part

abbrev pub IsPartOf : Explained → RootVerdict → List ℕ → Type 0
IsPartOf e r part = IsPartBy e r.root (broken_in r.verdict) part

-- the root audits that are explained: with version 2 all, and with version 1 the first that is broken
abbrev pub explained_roots : Explained → List RootVerdict
explained_roots e =
    if nat_eq e.version 2 then root_verdicts e.image e.audits else option_to_list (find is_broken (root_verdicts e.image e.audits))

-- the parts are the text, or where there is no line it is `clean`
abbrev pub IsWhole : List ℕ → List ℕ → Type 0
IsWhole [] text = text ≡ codes "clean\n"
IsWhole (c ∷ cs) text = text ≡ c ∷ cs

-- an explanation has a part for each of them, in the order of the plan
pub record IsExplanation (e : Explained) (text : List ℕ) : Type 0 where
  pub parts : List (List ℕ)
  pub are : AllZip (IsPartOf e) (explained_roots e) parts
  pub whole : IsWhole (concat parts) text
