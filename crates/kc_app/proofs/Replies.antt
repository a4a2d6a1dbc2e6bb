-- That the words which a reply shows are true of the dump.
use Rattle.std.proofs.Common.{◌≡◌, ℕ, Bool, true, false, cond, List, [], ◌∷◌, Option, Some, None, option_map, IfSome, Ok, Err}
use Rattle.std.specs.Prelude.{find, option_and_then}
use Rattle.std.specs.Option.{option_or}
use Rattle.std.specs.List.{AllByRecursion}
use Rattle.std.specs.Str.{bytes_eq}
use Rattle.kc_outside.specs.declared.store.Slot.{Slot}
use Rattle.kc_outside.specs.declared.store.Slot.TheVariants.{Dump, Btf, Map, Plan, Report}
use Rattle.kc_memory.specs.Places.{AllStandIn}
use Rattle.kc_found.specs.declared.verdict.Verdict.{Verdict}
use Rattle.kc_found.specs.declared.verdict.Verdict.TheVariants.{Clean, Broken}
use Rattle.kc_plan.specs.Verdicts.{verdict, verdict_places}
use Rattle.kc_cert.specs.declared.text.certificate.CertStep.{CertStep}
use Rattle.kc_cert.specs.Rechecking.Certificates.{answer}
use Rattle.kc_command.specs.Made.{◌>>=◌, Made, gives}
use Rattle.kc_command.specs.Ends.Asked.{Asked}
use Rattle.kc_command.specs.Ends.Output.{Ends, output_of}
use Rattle.kc_app.specs.Certify.{certified, certified_by, certify_asks, certify_made}
use Rattle.kc_app.specs.Check.{Audited, audited}
use Rattle.kc_app.specs.Commands.{command}
use Rattle.kc_app.specs.Form.{Form}
use Rattle.kc_app.specs.Output.{IsTrueReply, ShownStand, StandsIn}
use Rattle.kc_app.specs.Program.{cert_forms, certs_asks}
use Rattle.kc_app.specs.Recheck.{cert_file, recheck_asks, recheck_made}
use Rattle.kc_app.specs.Reply.{Reply, Rechecks, shows, shows_made}
use Rattle.kc_app.specs.Shown.{Shown}
use Rattle.kc_app.proofs.Stands.{AskStands, Known, ShowsTrue, commands_stand}

-- what steps make replies such words
abbrev MadeReplies : Made Reply → Type 0
MadeReplies made = IfSome (option_map Ends made) StandsIn

bound : {A : Type 0} (m : Made A) (f : A → Made Reply) → ((a : A) → MadeReplies (f a)) → MadeReplies (m >>= f)
bound None f each = tt
bound (Some (Err refusal)) f each = tt
bound (Some (Ok a)) f each = each a

certified_true : (all : Audited) (found : Verdict) → AllStandIn all.image (verdict_places found) → IsTrueReply (certified_by all found)
certified_true all (Clean counts) there = tt
certified_true all (Broken v) there = there

certify_replies : (most : ℕ) → Known → (dump btf map plan : Option (List ℕ)) → MadeReplies (certify_made most dump btf map plan)
certify_replies most known dump btf map plan =
    bound (audited most dump btf map plan) (λ all. gives (certified all)) (λ all. certified_true all (verdict all.image all.audits) (known.verdicts all.image all.audits))

recheck_replies : (most : ℕ) (dump btf map plan cert : Option (List ℕ)) → MadeReplies (recheck_made most dump btf map plan cert)
recheck_replies most dump btf map plan cert =
    bound (audited most dump btf map plan) (λ all. cert_file cert >>= (λ steps. gives (Rechecks (answer all.image all.audits steps))))
    (λ all. bound (cert_file cert) (λ steps. gives (Rechecks (answer all.image all.audits steps))) (λ steps. tt))

abbrev AskReplies : (Slot → Option (List ℕ)) → Option (Asked Reply) → Type 0
AskReplies files asked = IfSome (output_of asked files) StandsIn

certify_ask : (most : ℕ) → Known → (files : Slot → Option (List ℕ)) (words : List (List ℕ)) → AskReplies files (certify_asks most words)
certify_ask most known files [] = tt
certify_ask most known files (a ∷ []) = tt
certify_ask most known files (a ∷ b ∷ []) = tt
certify_ask most known files (a ∷ b ∷ c ∷ []) = tt
certify_ask most known files (dump ∷ btf ∷ map ∷ plan ∷ []) = certify_replies most known (files Dump) (files Btf) (files Map) (files Plan)
certify_ask most known files (a ∷ b ∷ c ∷ d ∷ e ∷ words) = tt

recheck_ask : (most : ℕ) (files : Slot → Option (List ℕ)) (words : List (List ℕ)) → AskReplies files (recheck_asks most words)
recheck_ask most files [] = tt
recheck_ask most files (a ∷ []) = tt
recheck_ask most files (a ∷ b ∷ []) = tt
recheck_ask most files (a ∷ b ∷ c ∷ []) = tt
recheck_ask most files (a ∷ b ∷ c ∷ d ∷ []) = tt
recheck_ask most files (dump ∷ btf ∷ map ∷ plan ∷ cert ∷ []) = recheck_replies most (files Dump) (files Btf) (files Map) (files Plan) (files Report)
recheck_ask most files (a ∷ b ∷ c ∷ d ∷ e ∷ f ∷ words) = tt

found_replies : (files : Slot → Option (List ℕ)) (name : List ℕ) (words : List (List ℕ)) (fs : List (Form Reply)) → AllByRecursion (λ (form : Form Reply). AskReplies files (form.asks words)) fs
    → AskReplies files (option_and_then (λ (form : Form Reply). form.asks words) (find (λ form. bytes_eq name form.name) fs))
found_replies files name words [] all = tt
found_replies files name words (f ∷ fs) all = by_test (bytes_eq name f.name) (found_replies files name words fs all.1)
  where
    by_test : (b : Bool) → AskReplies files (option_and_then (λ (form : Form Reply). form.asks words) (find (λ form. bytes_eq name form.name) fs))
        → AskReplies files (option_and_then (λ (form : Form Reply). form.asks words) (cond b (Some f) (find (λ form. bytes_eq name form.name) fs)))
    by_test true later = all.0
    by_test false later = later

certs_reply : (most : ℕ) → Known → (words : List (List ℕ)) (files : Slot → Option (List ℕ)) → AskReplies files (certs_asks most words)
certs_reply most known [] files = tt
certs_reply most known (name ∷ words) files = found_replies files name words (cert_forms most) (certify_ask most known files words, (recheck_ask most files words, tt))

-- what is shown is true as a reply
shows_true : (made : Made Shown) → IfSome (option_map Ends made) ShowsTrue → MadeReplies (shows_made made)
shows_true None there = tt
shows_true (Some (Err refusal)) there = tt
shows_true (Some (Ok shown)) there = there

shows_ask : (files : Slot → Option (List ℕ)) (asked : Option (Asked Shown)) → AskStands files asked → AskReplies files (option_map shows asked)
shows_ask files None there = tt
shows_ask files (Some asked) there = shows_true (asked.made files) there

either_ask : (files : Slot → Option (List ℕ)) (one other : Option (Asked Reply)) → AskReplies files one → AskReplies files other → AskReplies files (option_or one other)
either_ask files None other first second = second
either_ask files (Some one) other first second = first

pub shown_stand : Known → ShownStand
shown_stand known most words files =
    either_ask files (certs_asks most words) (option_map shows (command most words)) (certs_reply most known words files) (shows_ask files (command most words) (commands_stand most known words files))
