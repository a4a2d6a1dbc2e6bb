-- Suspects that are tried one by one: what the walk that broke, and then the root audit, come to where the word of one of them holds its value.
use denote.Enum.Bare.{sameb}
use Rattle.std.specs.Prelude.{◌≡◌, ℕ, min, nat_eq, nat_lt, ◌⊎◌, Bool, ◌&&◌, if◌then◌else◌, is_none, not, List, [], ◌∷◌, filter, length, map, take, find, slice_get, Option, Some, None, option_map, option_and_then, IfSome, Result, Ok, Err}
use Rattle.std.specs.List.{All, list_any}
use Rattle.kc_memory.specs.Image.{Image}
use Rattle.kc_memory.specs.contracts.rule.Rule.{the_type}
use Rattle.kc_found.specs.declared.verdict.Verdict.{Verdict}
use Rattle.kc_found.specs.declared.verdict.Verdict.TheVariants.{Clean, Broken}
use Rattle.kc_found.specs.Violations.{Violation}
use Rattle.kc_kinds.specs.declared.kind.Kind.{Kind}
use Rattle.kc_kinds.specs.declared.kind.Kind.TheVariants.{Slub, Tasks, Pids}
use Rattle.kc_kinds.specs.Inside.{KindInside}
use Rattle.kc_kinds.specs.Structures.{nodes_of}
use Rattle.kc_plan.specs.Planned.{AuditAt}
use Rattle.kc_plan.specs.Roots.{Root, broken_in, root_verdict}
use Rattle.kc_plan.specs.Stands.{RootStands}
use Rattle.kc_found.specs.declared.failed.ReadFailed.{ReadFailed}
use Rattle.kc_found.specs.declared.failed.ReadFailed.TheVariants.{Fault, NoMemory}
use Rattle.kc_found.specs.declared.found.WalkStop.{WalkStop}
use Rattle.kc_found.specs.declared.found.WalkStop.TheVariants as ends
use Rattle.kc_repair.specs.declared.suspect.suspect.Suspect.{Suspect}
use Rattle.kc_repair.specs.Suspect.Suspects.{suspects}
use Rattle.kc_phys.specs.declared.patch.change.Change.{Change}
use Rattle.kc_phys.specs.Patch.Changed.{patched, patched_all, share}
use Rattle.kc_repair.specs.declared.first.FirstWalk.{FirstWalk}
use Rattle.kc_repair.specs.declared.first.Breaking.{Breaking}
use Rattle.kc_repair.specs.declared.outcome.Breach.{Breach}
use Rattle.kc_repair.specs.declared.seeking.Suspected.{Suspected}
use Rattle.kc_repair.specs.declared.outcome.Next.{Next}
use Rattle.kc_repair.specs.declared.outcome.Repair.{Repair}
use Rattle.kc_repair.specs.declared.outcome.Repair.TheVariants.{Stands, Nothing}

-- the change of the file that a suspect stands for
abbrev pub change_of : Suspect → Change
change_of s = record { off = s.off; value = s.value }

-- the memory of a dump whose file has a suspect's value in its word's place
abbrev pub with_suspect : Image → Suspect → Image
with_suspect image s = record { physical = patched (change_of s) image.physical; paging = image.paging }

-- and with the words of several changed, one after the other
abbrev pub with_words : Image → List Suspect → Image
with_words image words = record { physical = patched_all (map change_of words) image.physical; paging = image.paging }

-- what a root audit comes to over it
abbrev pub verdict_with : Image → List AuditAt → Root → Suspect → Verdict
verdict_with image audits root s = (root_verdict (with_suspect image s) audits root).verdict

-- ---- the walk that broke comes first

abbrev pub breach_of : Violation → Breach
breach_of v = record { rule = v.rule; at = v.at }

-- a violation of the same rule at the same address
abbrev pub is_same : Breach → Violation → Bool
is_same found v = sameb the_type v.rule found.rule && nat_eq v.at found.at

abbrev pub wrong_in : Result (List ℕ) Violation → Option Violation
wrong_in (Ok nodes) = None
wrong_in (Err v) = Some v

-- what a walk finds broken
abbrev pub found_by : Image → FirstWalk → Option Violation
found_by image w = wrong_in (nodes_of image w.kind w.asked.audit w.asked.start)

-- and where there is one
abbrev pub first_found : Image → Option FirstWalk → Option Violation
first_found image None = None
first_found image (Some w) = found_by image w

-- short of a failure, what a walk found broken is this
abbrev pub EndsAs : {A : Type 0} → Result A WalkStop → Result (Option Violation) ReadFailed → Type 0
EndsAs (Ok x) r = r ≡ Ok None
EndsAs (Err (ends.Broken v)) r = r ≡ Ok (Some v)
EndsAs (Err ends.Fault) r = r ≡ Err Fault
EndsAs (Err ends.NoMemory) r = r ≡ Err NoMemory

-- a violation that counts: any, or only one of this rule at this address
abbrev pub counted : Option Breach → Option Violation → Option Violation
counted None found = found
counted (Some only) None = None
counted (Some only) (Some v) = if is_same only v then Some v else None

-- The kind of the audit with a number in the plan.
abbrev pub planned_kind : List AuditAt → ℕ → Option Kind
planned_kind audits number = option_map (λ (a : AuditAt). a.kind) (slice_get audits number)

-- The kind whose walk is made for a violation: the one that is asked for, but where its walk reads by the kernel's types that of the audit that found it.
abbrev pub walked_kind : List AuditAt → Kind → ℕ → Option Kind
walked_kind audits (Slub shape) number = planned_kind audits number
walked_kind audits (Tasks shape) number = planned_kind audits number
walked_kind audits (Pids shape) number = planned_kind audits number
walked_kind audits kind number = Some kind

abbrev pub walk_from : List AuditAt → Kind → Violation → Option FirstWalk
walk_from audits kind v =
    option_map (λ (walked : Kind). record { kind = walked; asked = record { audit = v.audit; start = v.start } }) (walked_kind audits kind v.audit)

-- that of the audit that found it
abbrev pub planned_walk : List AuditAt → Violation → Option FirstWalk
planned_walk audits v = option_and_then (λ (kind : Kind). walk_from audits kind v) (planned_kind audits v.audit)

abbrev pub if_finds : Option FirstWalk → Option Violation → Option FirstWalk
if_finds walk None = None
if_finds walk (Some v) = walk

-- The walk of a violation: that from where it started, if that finds the same. No walk finds one of a path or of a check.
abbrev pub walk_of : Image → List AuditAt → Kind → Violation → Option FirstWalk
walk_of image audits kind v = if_finds (walk_from audits kind v) (counted (Some (breach_of v)) (first_found image (walk_from audits kind v)))

abbrev pub breaking_of : Image → List AuditAt → Kind → Violation → Breaking
breaking_of image audits kind v = record { found = breach_of v; walk = walk_of image audits kind v; only = Some (breach_of v) }

-- where words are changed already, a suspect leads to whatever that walk finds then
abbrev pub any_leads : Breaking → Breaking
any_leads b = record { found = b.found; walk = b.walk; only = None }

-- type numbers of a walk's kind that are among so many
abbrev pub WalkInside : ℕ → Option FirstWalk → Type 0
WalkInside count walk = IfSome walk (λ (w : FirstWalk). KindInside count w.kind)

-- What it comes to: what that walk finds broken, if it counts, and else what the root audit comes to.
abbrev pub or_root : Option Violation → Verdict → Verdict
or_root (Some v) root = Broken v
or_root None root = root

abbrev pub judged : Image → List AuditAt → Root → Option FirstWalk → Option Breach → Verdict
judged image audits root walk only = or_root (counted only (first_found image walk)) (root_verdict image audits root).verdict

abbrev pub judged_with : Image → List AuditAt → Root → Option FirstWalk → Option Breach → Suspect → Verdict
judged_with image audits root walk only s = judged (with_suspect image s) audits root walk only

-- ---- one suspect after the other

-- how many suspects are tried at most
abbrev pub most : ℕ
most = 4096

-- a suspect repairs where it comes to no violation
abbrev pub repairs : (Suspect → Verdict) → Suspect → Bool
repairs judge s = is_none (broken_in (judge s))

-- a violation of another rule than this, or at another address
abbrev pub IsElsewhere : Breach → Verdict → Type 0
IsElsewhere found (Clean counts) = ⊥
IsElsewhere found (Broken v) = (v.rule ≡ found.rule) × (v.at ≡ found.at) → ⊥

-- and where it is
abbrev pub IsNext : Suspect → Verdict → Option Next → Type 0
IsNext s (Clean counts) next = ⊥
IsNext s (Broken v) next = next ≡ Some (record { suspect = s; rule = v.rule; at = v.at })

-- that of the first of these suspects with which there is one
abbrev pub IsFirstNext : (Suspect → Verdict) → Breach → List Suspect → Option Next → Type 0
IsFirstNext judge found [] next = next ≡ None
IsFirstNext judge found (s ∷ later) next =
    (IsElsewhere found (judge s) × IsNext s (judge s) next)
    ⊎ ((IsElsewhere found (judge s) → ⊥) × IsFirstNext judge found later next)

-- what is answered where none repairs
pub record IsNothing (judge lead : Suspect → Verdict) (found : Breach) (suspects : List Suspect) (tried : ℕ) (more : Bool) (next : Option Next) : Type 0 where
  pub none : find (repairs judge) (take most suspects) ≡ None
  pub number : tried ≡ min most (length suspects)
  pub beyond : more ≡ nat_lt most (length suspects)
  pub goes_on : IsFirstNext lead found (take most suspects) next

-- the first suspect that repairs, of those that are tried, and else the first that leads elsewhere
abbrev pub IsRepair : (judge lead : Suspect → Verdict) → Breach → List Suspect → Repair → Type 0
IsRepair judge lead found suspects (Stands s) = find (repairs judge) (take most suspects) ≡ Some s
IsRepair judge lead found suspects (Nothing tried more next) = IsNothing judge lead found suspects tried more next

-- Any violation of the walk that broke keeps a suspect from repairing. One leads elsewhere by what that walk finds that counts, and else by what the root
-- audit finds.
abbrev pub IsRepairBy : Image → List AuditAt → Root → Breaking → List Suspect → Repair → Type 0
IsRepairBy image audits root breaking suspects r =
    IsRepair (judged_with image audits root breaking.walk None) (judged_with image audits root breaking.walk breaking.only) breaking.found suspects r

-- a walk finds something broken
abbrev pub WalkBreaks : Image → Option FirstWalk → Type 0
WalkBreaks image None = ⊥
WalkBreaks image (Some w) = (v : Violation) × (nodes_of image w.kind w.asked.audit w.asked.start ≡ Err v)

-- What an answer says of the structures: with the suspect that is told the root audit's stand, and where none is told, they stand with none of those that
-- are tried, unless the walk that comes first breaks with it.
abbrev pub StandsAs : Image → List AuditAt → Root → Option FirstWalk → List Suspect → Repair → Type 0
StandsAs image audits root walk suspects (Stands s) = RootStands (with_suspect image s) audits root
StandsAs image audits root walk suspects (Nothing tried more next) =
    All (λ s. RootStands (with_suspect image s) audits root → WalkBreaks (with_suspect image s) walk) (take most suspects)

-- The answer as a function. What a suspect leads to, where that is elsewhere:
abbrev pub next_by : Bool → Suspect → Violation → Option Next
next_by same s v = if same then None else Some (record { suspect = s; rule = v.rule; at = v.at })

abbrev pub next_of : Breach → Suspect → Verdict → Option Next
next_of found s (Clean counts) = None
next_of found s (Broken v) = next_by (is_same found v) s v

abbrev pub or_later : Option Next → Option Next → Option Next
or_later None later = later
or_later (Some next) later = Some next

-- and that of the first that leads there
abbrev pub first_next : (Suspect → Verdict) → Breach → List Suspect → Option Next
first_next lead found [] = None
first_next lead found (s ∷ later) = or_later (next_of found s (lead s)) (first_next lead found later)

-- the suspect, where it repairs
abbrev pub stands_of : Suspect → Verdict → Option Suspect
stands_of s (Clean counts) = Some s
stands_of s (Broken v) = None

-- after a trial that came to this the search for the first of which something is told ends with an answer, or goes on
abbrev pub ends_with : {X : Type 0} → Option X → Option (Result (Option X) ReadFailed)
ends_with None = None
ends_with (Some x) = Some (Ok (Some x))

abbrev pub if_told : {X : Type 0} → (Verdict → Option X) → Result Verdict ReadFailed → Option (Result (Option X) ReadFailed)
if_told tell (Ok verdict) = ends_with (tell verdict)
if_told tell (Err stop) = Some (Err stop)

-- by the first that repairs
abbrev pub repair_by : (Suspect → Verdict) → Breach → List Suspect → Option Suspect → Repair
repair_by lead found suspected (Some s) = Stands s
repair_by lead found suspected None =
    Nothing (min most (length suspected)) (nat_lt most (length suspected)) (first_next lead found (take most suspected))

abbrev pub repair : (judge lead : Suspect → Verdict) → Breach → List Suspect → Repair
repair judge lead found suspected = repair_by lead found suspected (find (repairs judge) (take most suspected))

abbrev pub repair_with : Image → List AuditAt → Root → Breaking → List Suspect → Repair
repair_with image audits root breaking suspected =
    repair (judged_with image audits root breaking.walk None) (judged_with image audits root breaking.walk breaking.only) breaking.found suspected

-- what repairs a violation that an audit of this kind found under a root audit: the words that it suspects are tried
abbrev pub repair_of : Image → List AuditAt → Root → Kind → Violation → Repair
repair_of image audits root kind v = repair_with image audits root (breaking_of image audits kind v) (suspects image kind v)

-- a suspect whose word shares no byte with those that are changed
abbrev pub is_apart : List Suspect → Suspect → Bool
is_apart earlier s = not (list_any (λ (word : Suspect). share s.off word.off) earlier)

-- what repairs one that is left in the memory with some words changed: of the words that it suspects those that aren't changed are tried
abbrev pub repair_left : Image → List AuditAt → Root → List Suspect → Kind → Violation → Repair
repair_left image audits root earlier kind v =
    repair_with (with_words image earlier) audits root (any_leads (breaking_of (with_words image earlier) audits kind v)) (filter (is_apart earlier) (suspects (with_words image earlier) kind v))

-- the code has these words, and tries them for this
abbrev pub IsSuspected : Image → List AuditAt → Kind → Violation → Suspected → Type 0
IsSuspected image audits kind v seen = (seen.suspects ≡ suspects image kind v) × (seen.breaking ≡ breaking_of image audits kind v)

abbrev pub IsSuspectedLeft : Image → List AuditAt → List Suspect → Kind → Violation → Suspected → Type 0
IsSuspectedLeft image audits earlier kind v left =
    (left.suspects ≡ filter (is_apart earlier) (suspects (with_words image earlier) kind v)) × (left.breaking ≡ any_leads (breaking_of (with_words image earlier) audits kind v))
