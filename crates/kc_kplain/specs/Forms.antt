-- What the words of a command line ask for.
use Rattle.std.specs.Prelude.{ℕ, nat_eq, Bool, false, ◌||◌, if◌then◌else◌, List, [], ◌∷◌, codes, length}
use Rattle.std.specs.Str.{bytes_eq}
use Rattle.kc_kplain.specs.declared.form.PlainForm.{PlainForm}
use Rattle.kc_kplain.specs.declared.form.PlainForm.TheVariants as code

-- the plain core file of the dump of a name, a command of kaudit's, or nothing
pub data Asks : Type 0 where
  Core : List ℕ → Asks
  Audit : Asks
  Usage : Asks

-- whether a command of kaudit's that reads a dump has this name and so many words after it
abbrev pub is_audit : List ℕ → ℕ → Bool
is_audit name count =
    if bytes_eq name (codes "word") then nat_eq count 3
    else (if bytes_eq name (codes "show") then nat_eq count 6
    else (if bytes_eq name (codes "check") then (nat_eq count 4 || nat_eq count 5)
    else (if bytes_eq name (codes "certify") then nat_eq count 4
    else (if bytes_eq name (codes "recheck") then nat_eq count 5
    else false))))

-- what the words after `core` ask for
abbrev pub name_form : List (List ℕ) → Asks
name_form (name ∷ []) = Core name
name_form _ = Usage

-- what the words after the program's name ask for
abbrev pub form_of : List (List ℕ) → Asks
form_of [] = Usage
form_of (word ∷ words) =
    if bytes_eq word (codes "core") then name_form words
    else (if is_audit word (length words) then Audit
    else Usage)

-- a line for each way to write a command
abbrev pub usage_text : List ℕ
usage_text = codes "usage: kplain core DUMP\nusage: kplain word DUMP TABLE ADDRESS\nusage: kplain show DUMP BTF MAP SYMBOL TYPE PATH\nusage: kplain check DUMP BTF MAP PLAN\nusage: kplain check DUMP BTF MAP PLAN MODULE\nusage: kplain certify DUMP BTF MAP PLAN\nusage: kplain recheck DUMP BTF MAP PLAN CERT\n"

-- as the code keeps it
abbrev pub form_view : PlainForm → Asks
form_view (code.Core name) = Core name.now
form_view code.Audit = Audit
form_view code.Usage = Usage
