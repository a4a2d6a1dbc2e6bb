-- The commands that show words of a dump, and which one the words of a command line are.
use Rattle.std.specs.Prelude.{ℕ, List, [], ◌∷◌, ◌++◌, codes, find, Option, None, option_and_then}
use Rattle.std.specs.Str.{bytes_eq}
use Rattle.kc_command.specs.Ends.Asked.{Asked}
use Rattle.kc_app.specs.CheckModule.{check_form}
use Rattle.kc_app.specs.Form.{Form}
use Rattle.kc_app.specs.Layout.{layout_form}
use Rattle.kc_app.specs.Selftest.{selftest_form}
use Rattle.kc_app.specs.Show.{show_form}
use Rattle.kc_app.specs.Shown.{Shown}
use Rattle.kc_app.specs.Word.{word_form}

-- the commands in the order of usage
abbrev pub forms : (most : ℕ) → List (Form Shown)
forms most = word_form most ∷ layout_form ∷ show_form most ∷ check_form most ∷ selftest_form ∷ []

-- what the words behind the program's name ask for: the first one names the command, the others are its words
abbrev pub command : (most : ℕ) → List (List ℕ) → Option (Asked Shown)
command most [] = None
command most (name ∷ words) = option_and_then (λ form. form.asks words) (find (λ form. bytes_eq name form.name) (forms most))

-- a line for each way to write a command
abbrev pub usage_of : List ℕ → List (List ℕ) → List ℕ
usage_of name [] = []
usage_of name (words ∷ ways) = codes "usage: kaudit " ++ name ++ codes " " ++ words ++ codes "\n" ++ usage_of name ways

abbrev pub usage_lines : {A : Type 0} → List (Form A) → List ℕ
usage_lines [] = []
usage_lines (form ∷ forms) = usage_of form.name form.words ++ usage_lines forms
