-- The lines that explain a violation.
use Rattle.std.specs.Prelude.{ℕ, ◌*◌, ◌/◌, ◌%◌, ◌==◌, ◌||◌, if◌then◌else◌, Bool, true, false, List, [], ◌∷◌, ◌++◌, codes, decimal, length, map, Option, Some, None}
use Rattle.std.specs.Option.{option_map_or}
use Rattle.kc_btf.specs.Btf.{Types}
use Rattle.kc_btf.specs.Readers.{name_at, type_numbered}
use Rattle.kc_memory.specs.declared.rule.Rule.{Rule}
use Rattle.kc_memory.specs.declared.rule.Rule.TheVariants.{M1, M2, M3, M4, M5, M6, N, K, A, X5, X6, X7, X8, X9, U3, U4, U6, T2, C}
use Rattle.kc_text.specs.Compose.{texts}
use Rattle.kc_text.specs.Text.{hex, visible}
use Rattle.kc_found.specs.Violations.{Violation}
use Rattle.kc_kinds.specs.declared.kind.Kind.{Kind}
use Rattle.kc_plan.specs.Planned.{AuditAt}
use Rattle.kc_plan.specs.Seen.{container_of}
use Rattle.kc_report.specs.Lines.{rule_code}
use Rattle.kc_layout.specs.MemberPath.MemberPaths.{member_path}
use Rattle.kc_element.specs.declared.element.Element.{Element}
use Rattle.kc_element.specs.declared.number.FoundNumber.{FoundNumber}
use Rattle.kc_element.specs.Confirmed.{is_confirmed}
use Rattle.kc_element.specs.Elements.{element_of}
use Rattle.kc_element.specs.Numbers.{differing, part_of}
use Rattle.kc_repair.specs.declared.suspect.suspect.Suspect.{Suspect}
use Rattle.kc_repair.specs.declared.outcome.Next.{Next}
use Rattle.kc_repair.specs.declared.outcome.Repair.{Repair}
use Rattle.kc_repair.specs.declared.outcome.Repair.TheVariants.{Stands, Nothing}
use Rattle.kc_repair.specs.declared.others.Stand.{Stand}
use Rattle.kc_cause.specs.declared.repairs.Mended.{Mended}
use Rattle.kc_cause.specs.Sentences.{sentence}
use Rattle.kc_cause.specs.Signs.{sign_lines, sign_of}

abbrev pub bytes_line : List ℕ → List ℕ → List ℕ
bytes_line label bytes = label ++ bytes ++ codes "\n"

-- the rule, with what it says
abbrev pub rule_line : Rule → List ℕ
rule_line rule = codes "rule " ++ rule_code rule ++ codes " " ++ sentence rule ++ codes "\n"

-- C and U4 are about a whole element, and the others about a member of one
abbrev pub is_of_member : Rule → Bool
is_of_member C = false
is_of_member U4 = false
is_of_member _ = true

abbrev pub type_name : Types → ℕ → List ℕ
type_name types ty = option_map_or (λ t. name_at types.strings t.name) (type_numbered types ty) []

-- an element: its type and its address
abbrev pub typed_part : Types → Element → List ℕ
typed_part types e = codes "element " ++ map visible (type_name types e.ty) ++ codes " " ++ hex e.at

-- the path of a member, where there is one
abbrev pub path_part : List ℕ → List ℕ
path_part [] = []
path_part (c ∷ cs) = codes " " ++ c ∷ cs

-- the member of it in which a violation's address lies
abbrev pub about_part : Types → Violation → Element → List ℕ
about_part types v e = if is_of_member v.rule then path_part (member_path types e.ty (container_of e.at v.at)) else []

-- where what stands there doesn't lead back to where the walk came from, it may be no such element
abbrev pub confirmed_part : Bool → List ℕ
confirmed_part true = []
confirmed_part false = codes " unconfirmed"

-- the element that a violation is about, where that is told
abbrev pub element_line : Types → Bool → Violation → Element → List ℕ
element_line types confirmed v e = typed_part types e ++ about_part types v e ++ confirmed_part confirmed ++ codes "\n"

abbrev pub element_lines : Types → Bool → Violation → Option Element → List ℕ
element_lines types confirmed v element = option_map_or (element_line types confirmed v) element []

-- a number against the one that is expected, and in how many bits they differ
abbrev pub number_line : FoundNumber → List ℕ
number_line p = codes "expected " ++ hex p.expected ++ codes " found " ++ hex p.found ++ (codes " bits " ++ decimal (differing p)) ++ codes "\n"

abbrev pub number_lines : Kind → Violation → List ℕ
number_lines kind v = option_map_or number_line (part_of kind v) []

-- a violation of an audit, up to its words
abbrev pub named_lines : Types → AuditAt → Violation → List ℕ
named_lines types a v = bytes_line (codes "audit ") a.name ++ rule_line v.rule ++ element_lines types (is_confirmed a.kind v.rule) v (element_of types a v)

-- a word that is suspected: the four columns of a place, and the number that it may have held
abbrev pub suspect_part : Suspect → List ℕ
suspect_part s = hex s.va ++ codes " " ++ hex s.pa ++ codes " " ++ hex s.off ++ codes " " ++ hex s.now ++ codes " " ++ hex s.value

-- how many were tried, and whether there were more
abbrev pub tried_part : ℕ → Bool → List ℕ
tried_part tried true = codes "the first " ++ decimal tried
tried_part tried false = decimal tried

-- what comes after one of them: the rule that is broken then, and where
abbrev pub next_line : Next → List ℕ
next_line n = codes "then " ++ suspect_part n.suspect ++ codes " " ++ rule_code n.rule ++ codes " " ++ hex n.at ++ codes "\n"

abbrev pub next_lines : Option Next → List ℕ
next_lines next = option_map_or next_line next []

-- A word that repairs has a number that only fits where the rule lets others stand as well: a check, sizes and numbers of objects, and a leader's
-- two numbers; where the numbers of a node's slots or values are made to fit what its slots hold, or an odd slot is emptied, which may be any of
-- its values; and where a link leads nowhere, which drops what it led to.
abbrev pub only_fits : Rule → ℕ → Suspect → Bool
only_fits C at s = true
only_fits U3 at s = true
only_fits U6 at s = true
only_fits T2 at s = true
only_fits X5 at s = (s.va == at / 8 * 8) || (s.now % 2 == 1)
only_fits X6 at s = true
only_fits M1 at s = s.value == 0
only_fits M2 at s = s.value == 0
only_fits M3 at s = s.value == 0
only_fits M4 at s = s.value == 0
only_fits M5 at s = s.value == 0
only_fits M6 at s = s.value == 0
only_fits N at s = s.value == 0
only_fits K at s = s.value == 0
only_fits A at s = s.value == 0
only_fits X7 at s = s.value == 0
only_fits X8 at s = s.value == 0
only_fits X9 at s = s.value == 0
only_fits _ at s = false

abbrev pub repair_label : Bool → List ℕ
repair_label true = codes "fits "
repair_label false = codes "repair "

-- a word that is suspected, and what its other number leads to
abbrev pub led_lines : (Suspect → List ℕ) → Suspect → List ℕ
led_lines leads s = suspect_part s ++ codes "\n" ++ leads s

-- how many elements the audit that found the violation meets with the word that repairs, or with the words
abbrev pub elements_lines : Option ℕ → List ℕ
elements_lines elements = option_map_or (λ (n : ℕ). codes "elements " ++ decimal n ++ codes "\n") elements []

-- words that repair together: how many, and each of them in the order in which they are changed
abbrev pub word_line : (Suspect → List ℕ) → Suspect → List ℕ
word_line leads s = codes "word " ++ led_lines leads s

abbrev pub count_line : List Suspect → List ℕ
count_line words = codes "chain " ++ decimal (length words) ++ codes "\n"

abbrev pub counted_lines : (Suspect → List ℕ) → List Suspect → List ℕ
counted_lines leads words = count_line words ++ texts (word_line leads) words

-- and what they show, and how many elements there are with them
abbrev pub ending_lines : List Suspect → Option ℕ → List ℕ
ending_lines words elements = sign_lines (sign_of words) ++ elements_lines elements

abbrev pub chain_lines : (Suspect → List ℕ) → List Suspect → Option ℕ → List ℕ
chain_lines leads words elements = counted_lines leads words ++ ending_lines words elements

-- after that no word repairs: those that do together, or what the first leads to that leads elsewhere
abbrev pub after_lines : (Suspect → List ℕ) → Option (List Suspect) → Option ℕ → Option Next → List ℕ
after_lines leads (Some words) elements next = chain_lines leads words elements
after_lines leads None elements next = next_lines next

abbrev pub none_line : ℕ → Bool → List ℕ
none_line tried more = codes "repair none of " ++ tried_part tried more ++ codes " tried\n"

-- whether others would do as well as the word that repairs: how many do, of so many that were tried
abbrev pub number_of : Bool → ℕ
number_of also = if also then 2 else 1

abbrev pub stand_line : Stand → List ℕ
stand_line s = codes "stand " ++ decimal (number_of s.also) ++ codes " of " ++ decimal s.tried ++ codes " tried\n"

abbrev pub stand_lines : Option Stand → List ℕ
stand_lines stand = option_map_or stand_line stand []

-- what it is worth
abbrev pub worth_lines : Mended → List ℕ
worth_lines m = stand_lines m.stand ++ elements_lines m.elements

-- one word that repairs
abbrev pub one_lines : (Suspect → List ℕ) → Violation → Mended → Suspect → List ℕ
one_lines leads v m s = repair_label (only_fits v.rule v.at s) ++ (led_lines leads s ++ worth_lines m)

-- what repairs a violation
abbrev pub repair_lines : (Suspect → List ℕ) → Violation → Mended → Repair → List ℕ
repair_lines leads v m (Stands s) = one_lines leads v m s
repair_lines leads v m (Nothing tried more next) = none_line tried more ++ after_lines leads m.words m.elements next

abbrev pub mended_lines : (Suspect → List ℕ) → Violation → Mended → List ℕ
mended_lines leads v m = repair_lines leads v m m.repair
