-- What is printed.
use Rattle.std.specs.Prelude.{ℕ, ◌==◌, ◌&&◌, nat_lt, List, [], ◌∷◌, ◌++◌, codes, count_by, decimal, map, unwrap_or, Bool, true, false}
use Rattle.kc_notes.specs.Values.{value_of}
use Rattle.kc_text.specs.Text.{hex, name_text, visible}
use Rattle.kc_match.specs.declared.beside.TypesBeside.{TypesBeside}
use Rattle.kc_match.specs.declared.beside.TypesBeside.TheVariants as beside
use Rattle.kc_match.specs.declared.outcome.Other.{Other}
use Rattle.kc_match.specs.declared.outcome.Other.TheVariants.{Map, Btf}
use Rattle.kc_match.specs.declared.outcome.Outcome.{Outcome}
use Rattle.kc_match.specs.declared.outcome.Outcome.TheVariants.{Same, Differs, Unknown}
use Rattle.kc_match.specs.Findings.{Finding}
use Rattle.kc_match.specs.Outcomes.{differs, is_same, is_unknown}

-- what a file tells in place of what is stated
abbrev pub other_text : Other → List ℕ
other_text (Map address) = codes " map " ++ hex address
other_text (Btf count) = codes " btf " ++ decimal count

-- a line where something differs, and what the file tells
abbrev pub outcome_text : List ℕ → Outcome → List ℕ
outcome_text line Same = []
outcome_text line (Differs other) = codes "differ " ++ map visible line ++ other_text other ++ codes "\n"
outcome_text line Unknown = []

abbrev pub finding_text : Finding → List ℕ
finding_text f = outcome_text f.line f.outcome

abbrev pub finding_lines : List Finding → List ℕ
finding_lines [] = []
finding_lines (f ∷ fs) = finding_text f ++ finding_lines fs

-- the line of a key of the note: its value, or a dash
abbrev pub key_line : List ℕ → List ℕ → List ℕ
key_line key note = key ++ codes " " ++ name_text (unwrap_or (value_of key note) []) ++ codes "\n"

-- how many findings are the same, differ and are unknown
abbrev pub same_count : List Finding → ℕ
same_count found = count_by (λ f. is_same f.outcome) found

abbrev pub differs_count : List Finding → ℕ
differs_count found = count_by (λ f. differs f.outcome) found

abbrev pub unknown_count : List Finding → ℕ
unknown_count found = count_by (λ f. is_unknown f.outcome) found

abbrev pub count_line : List Finding → List ℕ
count_line found =
    codes "same " ++ decimal (same_count found) ++ codes " differ " ++ decimal (differs_count found)
    ++ codes " unknown " ++ decimal (unknown_count found) ++ codes "\n"

-- the line of the types beside those that the dump holds
abbrev pub types_line : TypesBeside → List ℕ
types_line beside.Same = codes "types same\n"
types_line (beside.Differs at) = codes "types differ at " ++ decimal at ++ codes "\n"
types_line beside.Unknown = codes "types unknown\n"

-- what is found of a note's lines, its kernel's release and build and how far KASLR moved it, the types beside the dump's, and the counts
abbrev pub match_text : List ℕ → List Finding → TypesBeside → List ℕ
match_text note found types =
    finding_lines found ++ key_line (codes "OSRELEASE") note ++ key_line (codes "BUILD-ID") note ++ key_line (codes "KERNELOFFSET") note
    ++ types_line types ++ count_line found

-- the types are those of the dump, or these aren't found
abbrev pub fits : TypesBeside → Bool
fits beside.Same = true
fits (beside.Differs at) = false
fits beside.Unknown = true

-- the files agree with the dump: something is the same, and nothing differs
abbrev pub agree : List Finding → TypesBeside → Bool
agree found types = nat_lt 0 (same_count found) && (differs_count found == 0) && fits types
