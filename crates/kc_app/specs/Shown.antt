-- What a command shows, as data, and its text.
use Rattle.std.specs.Prelude.{ℕ, ℤ, List, [], ◌∷◌, ◌++◌, codes, decimal, length, map, Option, Some, None}
use Rattle.std.specs.Fmt.{signed_decimal}
use Rattle.std.specs.List.{AllByRecursion}
use Rattle.kc_memory.specs.declared.rule.Rule.{Rule}
use Rattle.kc_memory.specs.declared.words.Place.{Place}
use Rattle.kc_memory.specs.Image.{Image}
use Rattle.kc_memory.specs.Places.{AllStandIn, entry_places}
use Rattle.kc_memory.specs.Stopped.{Stopped}
use Rattle.kc_btf.specs.declared.kind.Kind.{Kind}
use Rattle.kc_btf.specs.declared.kind.Kind.TheVariants.{Struct}
use Rattle.kc_btf.specs.declared.types.TypeRef.{TypeRef}
use Rattle.kc_btf.specs.Readers.{name_at}
use Rattle.kc_layout.specs.declared.listing.Line.{Line}
use Rattle.kc_text.specs.Compose.{texts}
use Rattle.kc_text.specs.Text.{hex, name_text, visible}
use Rattle.kc_report.specs.Lines.{address_text, origin_text, place_lines, rule_lines, stop_line}
use Rattle.kc_report.specs.Report.{AuditLine}
use Rattle.kc_report.specs.ReportText.{broken_lines, clean_text}
use Rattle.kc_command.specs.declared.ends.status.Status.{Status}
use Rattle.kc_command.specs.declared.ends.status.Status.TheVariants.{Done, Broken}
use Rattle.kc_command.specs.Ends.Written.{Written}

-- what is said of words of a dump, beside the words themselves: nothing; the number that they hold; the rule, the
-- virtual address, the level and the physical address of a stop; that no structure breaks a rule, with each audit's
-- counts; or the audit whose structure does, by its name, with the walk's start, the rule, the address, what should stand
-- there, and the level and physical address of a stop
pub data Said : Type 0 where
  Bare : Said
  Value : ℤ → Said
  Stop : Rule → ℕ → ℕ → ℕ → Said
  Sound : List AuditLine → Said
  Unsound : List ℕ → ℕ → Rule → ℕ → Option ℕ → Option (ℕ × ℕ) → Said

-- a root audit of a plan: its name, what is said of it, and the words that show it
pub record RootSeen : Type 0 where
  pub name : List ℕ
  pub said : Said
  pub places : List Place

-- What a command shows: what is said of words of a memory, and these words; the same of each root audit of a plan; or the
-- members of a struct or union, which no dump has: the strings, the type, the name that was asked, and the lines.
pub data Shown : Type 0 where
  Seen : Said → Image → List Place → Shown
  Rooted : Image → List RootSeen → Shown
  Listed : List ℕ → TypeRef → List ℕ → List Line → Shown

-- where reading stops
abbrev pub broken : Image → Stopped → Shown
broken image s = Seen (Stop s.rule s.va s.level s.pa) image (entry_places s.pa s.entry)

-- words alone, each by its virtual address, its physical address, its file offset and its value
abbrev pub bare_line : Place → List ℕ
bare_line p = address_text p.va ++ codes " " ++ hex p.pa ++ codes " " ++ origin_text p.off ++ codes " " ++ hex p.value ++ codes "\n"

abbrev pub bare_lines : List Place → List ℕ
bare_lines [] = []
bare_lines (p ∷ ps) = bare_line p ++ bare_lines ps

-- what a report says of a violation, with the words that show it
abbrev pub unsound_lines : List ℕ → ℕ → Rule → ℕ → Option ℕ → Option (ℕ × ℕ) → List Place → List ℕ
unsound_lines audit start rule at expected stop places =
    broken_lines (record { audit = audit; start = start; rule = rule; at = at; expected = expected; stop = stop; places = places })

-- what is said of words, with them
abbrev pub seen_text : Said → List Place → List ℕ
seen_text Bare places = bare_lines places
seen_text (Value v) places = codes "value " ++ signed_decimal v ++ codes "\n" ++ place_lines places
seen_text (Stop rule va level pa) places = rule_lines rule va ++ stop_line rule level pa ++ place_lines places
seen_text (Sound lines) places = clean_text lines ++ place_lines places
seen_text (Unsound audit start rule at expected stop) places = unsound_lines audit start rule at expected stop places

-- the text of a root audit, which begins with its name
abbrev pub root_text : RootSeen → List ℕ
root_text r = codes "root " ++ r.name ++ codes " " ++ seen_text r.said r.places

-- those of all, after how many there are
abbrev pub rooted_text : List RootSeen → List ℕ
rooted_text roots = codes "roots " ++ decimal (length roots) ++ codes "\n" ++ texts root_text roots

-- a width in bits, or a dash where it isn't known
abbrev pub width_text : Option ℕ → List ℕ
width_text None = codes "-"
width_text (Some width) = decimal width

-- the line of a member whose name stands in the strings
abbrev pub member_line : List ℕ → Line → List ℕ
member_line strings l = codes "member " ++ decimal l.bit ++ codes " " ++ width_text l.width ++ codes " " ++ name_text (name_at strings l.name) ++ codes "\n"

abbrev pub member_lines : List ℕ → List Line → List ℕ
member_lines strings [] = []
member_lines strings (l ∷ ls) = member_line strings l ++ member_lines strings ls

-- the kind
abbrev pub compound_word : Kind → List ℕ
compound_word Struct = codes "struct "
compound_word _ = codes "union "

-- the first line: the name that was asked, and the size in bytes
abbrev pub compound_line : TypeRef → List ℕ → List ℕ
compound_line t name = compound_word t.kind ++ map visible name ++ codes " size " ++ decimal t.rest ++ codes "\n"

-- the text of what is shown
abbrev pub shown_text : Shown → List ℕ
shown_text (Seen said image places) = seen_text said places
shown_text (Rooted image roots) = rooted_text roots
shown_text (Listed strings t name lines) = compound_line t name ++ member_lines strings lines

-- and the status
abbrev pub said_status : Said → Status
said_status Bare = Done
said_status (Value v) = Done
said_status (Stop rule va level pa) = Broken
said_status (Sound lines) = Done
said_status (Unsound audit start rule at expected stop) = Broken

-- broken, where one of two is
abbrev pub either_broken : Status → Status → Status
either_broken Broken status = Broken
either_broken _ status = status

abbrev pub roots_status : List RootSeen → Status
roots_status [] = Done
roots_status (r ∷ rs) = either_broken (said_status r.said) (roots_status rs)

abbrev pub shown_status : Shown → Status
shown_status (Seen said image places) = said_status said
shown_status (Rooted image roots) = roots_status roots
shown_status (Listed strings t name lines) = Done

-- every word that is shown stands in its memory, at the places that are shown
abbrev pub IsTrueOfDump : Shown → Type 0
IsTrueOfDump (Seen said image places) = AllStandIn image places
IsTrueOfDump (Rooted image roots) = AllByRecursion (λ (r : RootSeen). AllStandIn image r.places) roots
IsTrueOfDump (Listed strings t name lines) = Unit {0}

-- and so what is written of it
abbrev pub shown_written : Shown → Written
shown_written shown = record { out = shown_text shown; err = []; status = shown_status shown }
