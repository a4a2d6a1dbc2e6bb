-- That the end of a check says what stands in the dump.
use Rattle.std.proofs.Common.{◌≡◌, ℕ, nat_eq, Bool, true, false, if◌then◌else◌, List, Option, Some, None, option_map, IfSome, Ok, Err, refl, sym, subst, arith}
use Rattle.std.specs.Prelude.{◌↔◌}
use Rattle.std.specs.Bool.{OnTrue}
use Rattle.std.proofs.lemmas.Bool.Decides.{nat_tests}
use Rattle.std.proofs.lemmas.List.{append-nil}
use Rattle.kc_outside.specs.declared.store.Slot.TheVariants.{Dump, Btf, Map, Plan}
use Rattle.kc_outside.specs.Files.{Files as Told}
use Rattle.kc_outside.specs.Texts.{with_piece}
use Rattle.kc_found.specs.declared.verdict.Verdict.{Verdict}
use Rattle.kc_found.specs.declared.verdict.Verdict.TheVariants as found
use Rattle.kc_plan.specs.Roots.{root_verdicts}
use Rattle.kc_plan.specs.Seen.{roots}
use Rattle.kc_plan.specs.Verdicts.{IsClean, verdict, verdict_places}
use Rattle.kc_run.specs.Laws.{CleanRootsStand, CleanWhereStanding, FirstOfRoots}
use Rattle.kc_cert.specs.declared.text.certificate.CertStep.{CertStep}
use Rattle.kc_report.specs.declared.report.Report.{Report}
use Rattle.kc_report.specs.Copies.{counted, report_each, report_of}
use Rattle.kc_report.specs.IsReport.{report_text}
use Rattle.kc_report.specs.ReportText.{clean_text}
use Rattle.kc_command.specs.Made.{◌>>=◌, Made, gives}
use Rattle.kc_command.specs.declared.ends.status.Status.{Status}
use Rattle.kc_command.specs.declared.ends.status.Status.TheVariants.{Done, Broken}
use Rattle.kc_command.specs.Ends.Ends.{IsTold, IsWritten}
use Rattle.kc_command.specs.Ends.Output.{Output, Ends, word_files}
use Rattle.kc_command.specs.Ends.Status.{is_answer}
use Rattle.kc_audit.specs.Audits.{names_of}
use Rattle.kc_app.specs.Check.{Audited, ChecksStand, ReportsShown, RootsTold, TellsRoots, TellsStanding, audited, audited_shown, roots_shown, verdict_said, verdict_shown}
use Rattle.kc_app.specs.Headline.{CheckEnds, CheckPrints, ChecksEnd, EndsBy, PrintsBy, check_words}
use Rattle.kc_app.specs.Output.{FitsFiles, FitsOutput, IsToldBy, ShownStand, StandsIn, TookTrue, out_of, output_written, written_of}
use Rattle.kc_app.specs.Program.{program}
use Rattle.kc_app.specs.Reply.{Reply, shows_made}
use Rattle.kc_app.specs.Shown.{Shown, said_status, seen_text, shown_status, shown_text}
use Rattle.kc_app.proofs.Rooted.{each_same, roots_end, roots_told}

-- what is shown of one verdict on all audits, or of each root audit
abbrev pub shown_by : Bool → Audited → Shown
shown_by each all =
    if each then roots_shown all.image (names_of all.audits) (root_verdicts all.image all.audits)
    else verdict_shown all.image (names_of all.audits) (verdict all.image all.audits)

-- a verdict that is clean exactly where something holds is shown with 0 exactly there, and else with 1
said_stands : {P : Type 0} (names : List (List ℕ)) (seen : Verdict) → IsClean seen ↔ P
    → ((said_status (verdict_said names seen) ≡ Done) ↔ P) × ((said_status (verdict_said names seen) ≡ Broken) ↔ ¬ P)
said_stands names (found.Clean counts) clean =
    (((λ done. clean.0 tt), (λ holds. refl)), ((λ broken. absurd (let none : ⊥ = cc in none)), (λ fails. absurd (fails (clean.0 tt)))))
said_stands names (found.Broken v) clean =
    (((λ done. absurd (let none : ⊥ = cc in none)), (λ holds. absurd (clean.1 holds))), ((λ broken holds. clean.1 holds), (λ fails. refl)))

-- the same of the verdicts on root audits, which are all clean where that on the plan is
versions_stand : CleanWhereStanding → FirstOfRoots → (all : Audited) (each : Bool) → TellsStanding all (shown_status (shown_by each all))
versions_stand clean first all true =
    let same = (first all.image all.audits).1 in
    let other = (first all.image all.audits).2 in
    let stands = clean all.image all.audits in
    roots_end (names_of all.audits) (root_verdicts all.image all.audits) ((λ vs. stands.0 (other vs)), (λ plan. same (stands.1 plan)))
versions_stand clean first all false = said_stands (names_of all.audits) (verdict all.image all.audits) (clean all.image all.audits)

pub checks_stand : CleanWhereStanding → FirstOfRoots → ChecksStand
checks_stand clean first all = versions_stand clean first all (nat_eq all.version 2)

-- what is said of each root audit
is_two : (version : ℕ) → nat_eq version 2 ≡ true → version ≡ 2
is_two version is = grind (arith, nat_tests)

isnt_two : (version : ℕ) → nat_eq version 2 ≡ false → ¬ (version ≡ 2)
isnt_two version isnt is = absurd (let no : nat_eq 2 2 ≡ false = subst (λ (n : ℕ). nat_eq n 2 ≡ false) is isnt in let none : ⊥ = cc in none)

versions_told : CleanRootsStand → (all : Audited) (each : Bool) → nat_eq all.version 2 ≡ each → TellsRoots all (shown_by each all)
versions_told law all true is = (is_two all.version is, roots_told law all (roots 0 all.audits))
versions_told law all false isnt = isnt_two all.version isnt

pub roots_are_told : CleanRootsStand → RootsTold
roots_are_told law all = versions_told law all (nat_eq all.version 2) refl

-- the text is a report's
verdict_same : (names : List (List ℕ)) (seen : Verdict) → seen_text (verdict_said names seen) (verdict_places seen) ≡ report_text (report_of names seen)
verdict_same names (found.Clean counts) = append-nil (clean_text (counted names counts))
verdict_same names (found.Broken v) = refl

abbrev report_by : Bool → Audited → Report
report_by each all =
    if each then report_each (names_of all.audits) (root_verdicts all.image all.audits)
    else report_of (names_of all.audits) (verdict all.image all.audits)

versions_shown : (all : Audited) (each : Bool) → shown_text (shown_by each all) ≡ report_text (report_by each all)
versions_shown all true = sym (each_same (names_of all.audits) (root_verdicts all.image all.audits))
versions_shown all false = verdict_same (names_of all.audits) (verdict all.image all.audits)

pub reports_are_shown : ReportsShown
reports_are_shown all = versions_shown all (nat_eq all.version 2)

-- what is made of what is audited ends by it
pub made_ends : ChecksStand → (cert : List CertStep) (made : Made Audited)
    → IfSome (option_map Ends (shows_made (made >>= (λ all. gives (audited_shown all))))) (λ (output : Output Reply). EndsBy made (output_written cert output).status)
made_ends stand cert None = tt
made_ends stand cert (Some (Err refusal)) = refl
made_ends stand cert (Some (Ok all)) = stand all

pub checks_end : ChecksStand → ChecksEnd
checks_end stand most cert f files = made_ends stand cert (audited most (files Dump) (files Btf) (files Map) (files Plan))

pub on_true : {P Q : Type 0} (b : Bool) → (P → Q) → OnTrue b P → OnTrue b Q
on_true true follows p = follows p
on_true false follows p = tt

-- and so does what is written of it
pub written_ends : (cert : List CertStep) (made : Made Audited) (output : Option (Output Reply)) (status : Status) (out_old out_new err_old err_new : Option (List ℕ))
    → IfSome output (λ o. EndsBy made (output_written cert o).status) → IsWritten (option_map (output_written cert) output) status out_old out_new err_old err_new → EndsBy made status
written_ends cert made None status out_old out_new err_old err_new ends is = absurd is
written_ends cert made (Some o) status out_old out_new err_old err_new ends is = rw is.ends ends

check_written : (most : ℕ) (cert : List CertStep) (words : List (List ℕ)) (files : Told) (status : Status) (out_old out_new err_old err_new : Option (List ℕ))
    → ChecksEnd → IsWritten (written_of most cert words files) status out_old out_new err_old err_new → CheckEnds most words files status
check_written most cert words files status out_old out_new err_old err_new law is f same =
    written_ends cert (audited most (files Dump f.dump) (files Btf f.btf) (files Map f.map) (files Plan f.plan)) (out_of most (check_words f) files) status out_old out_new err_old err_new
    (law most cert f (word_files (program most (check_words f)) files)) (rw same at is)

check_told : (most : ℕ) (cert : List CertStep) (words : List (List ℕ)) (files : Option Told) (status : Status) (out_old out_new err_old err_new : Option (List ℕ))
    → ChecksEnd → IsTold (written_of most cert words) files status out_old out_new err_old err_new → IfSome files (λ f. CheckEnds most words f status)
check_told most cert words None status out_old out_new err_old err_new law is = tt
check_told most cert words (Some files) status out_old out_new err_old err_new law is = check_written most cert words files status out_old out_new err_old err_new law is

-- an answer of the program ends a check by what its files hold
pub answer_ends : (most : ℕ) → ChecksEnd → (words : List (List ℕ)) (files : Option Told) (status : Status) (out_old out_new err_old err_new : Option (List ℕ))
    → OnTrue (is_answer status) (IsToldBy most words files status out_old out_new err_old err_new) → OnTrue (is_answer status) (IfSome files (λ f. CheckEnds most words f status))
answer_ends most law words files status out_old out_new err_old err_new told =
    on_true (is_answer status) (λ is. check_told most is.0 words files status out_old out_new err_old err_new law is.2) told

-- a check prints what is shown of what it audits
took_shown : (cert : List CertStep) (made : Made Audited) (all : Audited) (status : Status) (out_old out_new err_old err_new : Option (List ℕ))
    → made ≡ gives all → IsWritten (option_map (output_written cert) (option_map Ends (shows_made (made >>= (λ all. gives (audited_shown all)))))) status out_old out_new err_old err_new
    → out_new ≡ with_piece out_old (shown_text (audited_shown all))
took_shown cert None all status out_old out_new err_old err_new is written = absurd (let none : ⊥ = cc in none)
took_shown cert (Some (Err refusal)) all status out_old out_new err_old err_new is written = absurd (let none : ⊥ = cc in none)
took_shown cert (Some (Ok other)) all status out_old out_new err_old err_new is written =
    let same : other ≡ all = cc in
    subst (λ (a : Audited). out_new ≡ with_piece out_old (shown_text (audited_shown a))) same written.out_took

pub prints_by : (cert : List CertStep) (made : Made Audited) (status : Status) (out_old out_new err_old err_new : Option (List ℕ))
    → RootsTold → IsWritten (option_map (output_written cert) (option_map Ends (shows_made (made >>= (λ all. gives (audited_shown all)))))) status out_old out_new err_old err_new → PrintsBy made out_old out_new
prints_by cert made status out_old out_new err_old err_new law written all is = (took_shown cert made all status out_old out_new err_old err_new is written, law all)

check_prints : (most : ℕ) (cert : List CertStep) (words : List (List ℕ)) (files : Told) (status : Status) (out_old out_new err_old err_new : Option (List ℕ))
    → RootsTold → IsWritten (written_of most cert words files) status out_old out_new err_old err_new → CheckPrints most words files out_old out_new
check_prints most cert words files status out_old out_new err_old err_new law is f same =
    prints_by cert (audited most (files Dump f.dump) (files Btf f.btf) (files Map f.map) (files Plan f.plan)) status out_old out_new err_old err_new law (rw same at is)

prints_told : (most : ℕ) (cert : List CertStep) (words : List (List ℕ)) (files : Option Told) (status : Status) (out_old out_new err_old err_new : Option (List ℕ))
    → RootsTold → IsTold (written_of most cert words) files status out_old out_new err_old err_new → IfSome files (λ f. CheckPrints most words f out_old out_new)
prints_told most cert words None status out_old out_new err_old err_new law is = tt
prints_told most cert words (Some files) status out_old out_new err_old err_new law is = check_prints most cert words files status out_old out_new err_old err_new law is

-- an answer of the program prints so
pub answer_prints : (most : ℕ) → RootsTold → (words : List (List ℕ)) (files : Option Told) (status : Status) (out_old out_new err_old err_new : Option (List ℕ))
    → OnTrue (is_answer status) (IsToldBy most words files status out_old out_new err_old err_new) → OnTrue (is_answer status) (IfSome files (λ f. CheckPrints most words f out_old out_new))
answer_prints most law words files status out_old out_new err_old err_new told =
    on_true (is_answer status) (λ is. prints_told most is.0 words files status out_old out_new err_old err_new law is.2) told

-- what is written of an output whose words are true of the dump
written_true : (cert : List CertStep) (output : Option (Output Reply)) (status : Status) (out_old out_new err_old err_new : Option (List ℕ))
    → IfSome output StandsIn → FitsOutput cert output → IsWritten (option_map (output_written cert) output) status out_old out_new err_old err_new → TookTrue output out_old out_new
written_true cert None status out_old out_new err_old err_new stands fits is = absurd is
written_true cert (Some o) status out_old out_new err_old err_new stands fits is = (cert, fits, is.out_took, stands)

told_true : (most : ℕ) (cert : List CertStep) (words : List (List ℕ)) (files : Option Told) (status : Status) (out_old out_new err_old err_new : Option (List ℕ))
    → ShownStand → FitsFiles most cert words files → IsTold (written_of most cert words) files status out_old out_new err_old err_new → IfSome files (λ f. TookTrue (out_of most words f) out_old out_new)
told_true most cert words None status out_old out_new err_old err_new law fits is = tt
told_true most cert words (Some files) status out_old out_new err_old err_new law fits is =
    written_true cert (out_of most words files) status out_old out_new err_old err_new (law most words (word_files (program most words) files)) fits is

-- an answer of the program shows words that are true of the dump
pub answer_true : (most : ℕ) → ShownStand → (words : List (List ℕ)) (files : Option Told) (status : Status) (out_old out_new err_old err_new : Option (List ℕ))
    → OnTrue (is_answer status) (IsToldBy most words files status out_old out_new err_old err_new) → OnTrue (is_answer status) (IfSome files (λ f. TookTrue (out_of most words f) out_old out_new))
answer_true most law words files status out_old out_new err_old err_new told =
    on_true (is_answer status) (λ is. told_true most is.0 words files status out_old out_new err_old err_new law is.1 is.2) told
