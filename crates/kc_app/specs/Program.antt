-- All commands of the program, and which one the words of a command line are.
use Rattle.std.specs.Prelude.{ℕ, List, [], ◌∷◌, ◌++◌, find, Option, None, option_and_then, option_map}
use Rattle.std.specs.Option.{option_or}
use Rattle.std.specs.Str.{bytes_eq}
use Rattle.kc_command.specs.Ends.Asked.{Asked}
use Rattle.kc_app.specs.declared.certs.CertAsks.{CertAsks}
use Rattle.kc_app.specs.declared.certs.CertAsks.TheVariants as certs
use Rattle.kc_app.specs.Certify.{certify_asked, certify_form}
use Rattle.kc_app.specs.Check.{files_view}
use Rattle.kc_app.specs.Commands.{command, forms, usage_lines}
use Rattle.kc_app.specs.Form.{Form}
use Rattle.kc_app.specs.Recheck.{cert_files, recheck_asked, recheck_form}
use Rattle.kc_app.specs.Reply.{Reply, shows}

-- the commands of certificates, in the order of usage
abbrev pub cert_forms : (most : ℕ) → List (Form Reply)
cert_forms most = certify_form most ∷ recheck_form most ∷ []

-- what words ask for, where they are one of these
abbrev pub certs_asks : (most : ℕ) → List (List ℕ) → Option (Asked Reply)
certs_asks most [] = None
certs_asks most (name ∷ words) = option_and_then (λ form. form.asks words) (find (λ form. bytes_eq name form.name) (cert_forms most))

-- and where they are any command, over dumps of at most so many program headers
abbrev pub program : (most : ℕ) → List (List ℕ) → Option (Asked Reply)
program most words = option_or (certs_asks most words) (option_map shows (command most words))

-- that of usage is the same for each number of program headers
abbrev pub usage_text : List ℕ
usage_text = usage_lines (forms 65536) ++ usage_lines (cert_forms 65536)

-- as the code keeps them
abbrev pub certs_view : CertAsks → Asked Reply
certs_view (certs.Certify a) = certify_asked a.most (files_view a)
certs_view (certs.Recheck a) = recheck_asked a.files.most (cert_files a)
