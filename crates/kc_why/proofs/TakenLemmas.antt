-- What standard output took is true of the dump.
use Rattle.std.proofs.Common.{Bool, true, false, List, ℕ, Option, Some, None, option_map, IfSome, Ok, Err}
use Rattle.std.specs.Bool.{OnTrue}
use Rattle.kc_outside.specs.Files.{Files}
use Rattle.kc_command.specs.declared.ends.status.Status.{Status}
use Rattle.kc_command.specs.Ends.Ends.{IsTold, IsWritten}
use Rattle.kc_command.specs.Ends.Output.{Output, Usage, Ends, written}
use Rattle.kc_command.specs.Ends.Status.{is_answer}
use Rattle.kc_why.specs.Laws.{ShownStand}
use Rattle.kc_why.specs.Taken.{StandsIn, TookTrue, out_of}
use Rattle.kc_why.specs.Why.{Shown, usage_text, why_written, written_of}

stands_in : ShownStand → (output : Output Shown) → StandsIn output
stands_in law Usage = tt
stands_in law (Ends (Ok shown)) = law shown
stands_in law (Ends (Err refusal)) = tt

written_true : (output : Option (Output Shown)) (status : Status) (out_old out_new err_old err_new : Option (List ℕ))
    → ShownStand → IsWritten (option_map (written usage_text why_written) output) status out_old out_new err_old err_new → TookTrue output out_old out_new
written_true None status out_old out_new err_old err_new law is = absurd is
written_true (Some output) status out_old out_new err_old err_new law is = (is.out_took, stands_in law output)

told_true : (words : List (List ℕ)) (files : Option Files) (status : Status) (out_old out_new err_old err_new : Option (List ℕ))
    → ShownStand → IsTold (written_of words) files status out_old out_new err_old err_new → IfSome files (λ f. TookTrue (out_of words f) out_old out_new)
told_true words None status out_old out_new err_old err_new law is = tt
told_true words (Some files) status out_old out_new err_old err_new law is = written_true (out_of words files) status out_old out_new err_old err_new law is

on_true : {P Q : Type 0} (b : Bool) → (P → Q) → OnTrue b P → OnTrue b Q
on_true true follows p = follows p
on_true false follows p = tt

-- an answer of the program shows what is true of the dump
pub answer_true : ShownStand → (words : List (List ℕ)) (files : Option Files) (status : Status) (out_old out_new err_old err_new : Option (List ℕ))
    → OnTrue (is_answer status) (IsTold (written_of words) files status out_old out_new err_old err_new) → OnTrue (is_answer status) (IfSome files (λ f. TookTrue (out_of words f) out_old out_new))
answer_true law words files status out_old out_new err_old err_new told = on_true (is_answer status) (told_true words files status out_old out_new err_old err_new law) told
