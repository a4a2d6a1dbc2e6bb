-- What standard output took before the rest of an answer, and with it.
use Rattle.std.proofs.Common.{◌≡◌, ◌⊎◌, ℕ, ◌+◌, ◌-◌, ◌^◌, ◌<◌, Bool, true, false, nat_eq, List, [], ◌++◌, length, take, Option, Some, None, option_map, IfSome, inl, inr, Result, Ok, Err, append-nil, refl, sym, ap, subst, ◌∙◌, arith}
use Rattle.std.proofs.Math.Seq.{take-append-add, take-append_seam}
use Rattle.std.proofs.lemmas.List.{append_assoc, length-append, take-append-le}
use Rattle.std.specs.Bool.{OnTrue}
use Rattle.kc_outside.specs.declared.store.Slot.{Slot}
use Rattle.kc_outside.specs.Counts.{Rose}
use Rattle.kc_outside.specs.Files.{Files}
use Rattle.kc_outside.specs.Texts.{with_piece}
use Rattle.kc_command.specs.declared.halt.Halt.{Halt}
use Rattle.kc_command.specs.declared.halt.Halt.TheVariants.{Refused, Store, Memory}
use Rattle.kc_command.specs.Made.{Halts, Made}
use Rattle.kc_command.specs.declared.ends.answer.Answer.{Answer}
use Rattle.kc_command.specs.declared.ends.answer.Answer.TheVariants.{Done, Broken}
use Rattle.kc_command.specs.declared.ends.status.Status.{Status}
use Rattle.kc_command.specs.declared.ends.status.Status.TheVariants as status
use Rattle.kc_command.specs.Ends.Answers.{OnStoreIn, Prints, PrintsOf, ending, written_by}
use Rattle.kc_command.specs.Ends.Asked.{Asked, asked_files}
use Rattle.kc_command.specs.Ends.Ends.{ErrFailed, IsTold, IsWritten, TookErr, TookLine, TookOut, TookPart, TookPrefix}
use Rattle.kc_command.specs.Ends.Output.{Ends, ended, written, written_files}
use Rattle.kc_command.specs.Ends.Status.{At, is_answer, is_silent, number}
use Rattle.kc_command.specs.Ends.Written.{Written}
use Rattle.kc_why.specs.Rest.{Comes, HasRest, Leaves, LeavesOf, TookFront, after}

-- ---- texts

pub with_none : (old : Option (List ℕ)) → old ≡ with_piece old []
with_none None = refl
with_none (Some o) = ap (λ (t : List ℕ). Some t) (sym (append-nil o))

with_two : (old : Option (List ℕ)) (one two : List ℕ) → with_piece (with_piece old one) two ≡ with_piece old (one ++ two)
with_two None one two = refl
with_two (Some o) one two = ap (λ (t : List ℕ). Some t) (append_assoc o one two)

-- a first part of a text after a front
prefix_after : (old mid new : Option (List ℕ)) (front text : List ℕ) → mid ≡ with_piece old front → TookPrefix mid new text → TookPrefix old new (front ++ text)
prefix_after old mid new front text is took = record {
  count = length front + took.count;
  within = omega (arith, took.within, length-append front text);
  took = took.took
      ∙ ap (λ (t : Option (List ℕ)). with_piece t (take took.count text)) is
      ∙ with_two old front (take took.count text)
      ∙ ap (with_piece old) (sym (take-append-add front text took.count));
}

-- a front of a text, and a first part of one
front_part : (old new : Option (List ℕ)) (front rest : List ℕ) → new ≡ with_piece old front → TookPrefix old new (front ++ rest)
front_part old new front rest is = record {
  count = length front;
  within = omega (arith, length-append front rest);
  took = is ∙ ap (with_piece old) (sym (take-append_seam front rest));
}

pub part_longer : (old new : Option (List ℕ)) (text rest : List ℕ) → TookPrefix old new text → TookPrefix old new (text ++ rest)
part_longer old new text rest took = record {
  count = took.count;
  within = omega (arith, took.within, length-append text rest);
  took = took.took ∙ ap (with_piece old) (sym (take-append-le took.count text rest took.within));
}

-- ---- what the code came to

-- where nothing was taken before
whole_after : {A : Type 0} (write : A → Written) (made : Made A) (answer : Answer) (old err : Option (List ℕ)) → option_map (ended write) made ≡ Some (written_by answer) → HasRest write made answer old old err err
whole_after write made (Done text) old err is = record { front = []; lines = []; took = with_none old; said = with_none err; whole = is }
whole_after write made (Broken text) old err is = record { front = []; lines = []; took = with_none old; said = with_none err; whole = is }

pub halted_after : {A : Type 0} (write : A → Written) (made : Made A) (halt : Halt) (old err : Option (List ℕ)) → Halts made halt → Leaves write made (Err halt) old old err err
halted_after write made (Refused refusal) old err is = (is, refl, refl)
halted_after write made Store old err is = inl refl
halted_after write made Memory old err is = inl refl

leaves_whole : {A : Type 0} (write : A → Written) (made : Made A) (r : Result Answer Halt) (old err : Option (List ℕ)) → Prints write made r → Leaves write made r old old err err
leaves_whole write made (Ok answer) old err prints = whole_after write made answer old err prints
leaves_whole write made (Err halt) old err prints = halted_after write made halt old err prints

pub leaves_whole_of : {A : Type 0} (write : A → Written) (made : Files → Made A) (files : Option Files) (r : Result Answer Halt) (old err : Option (List ℕ)) → PrintsOf write made files r → LeavesOf write made files r old old err err
leaves_whole_of write made None r old err prints = tt
leaves_whole_of write made (Some f) r old err prints = leaves_whole write (made f) r old err prints

-- ---- the output of the words

ends_written : {A : Type 0} (usage : List ℕ) (write : A → Written) (made : Made A) → option_map (written usage write) (option_map Ends made) ≡ option_map (ended write) made
ends_written usage write None = refl
ends_written usage write (Some r) = refl

-- what is written of words that ask for something
pub asked_written : {A : Type 0} (usage : List ℕ) (write : A → Written) (asks : Option (Asked A)) (asked : Asked A) (f : Files) → asks ≡ Some asked
    → written_files usage write asks f ≡ option_map (ended write) (asked.made (asked_files asked f))
asked_written usage write asks asked f is = ap (λ (a : Option (Asked _)). written_files usage write a f) is ∙ ends_written usage write (asked.made (asked_files asked f))

-- the sinks took a front of it and lines, and the rest is what the words came to; before another text for standard error no lines
record IsAfter (old mid err_old err_mid : Option (List ℕ)) (w : Written) (output : Option Written) : Type 0 where
  front : List ℕ
  lines : List ℕ
  took : mid ≡ with_piece old front
  said : err_mid ≡ with_piece err_old lines
  alone : (lines ≡ []) ⊎ (w.err ≡ [])
  is : output ≡ Some (after front lines w)

abbrev IsFront : Option Written → (Files → Option Written) → Option Files → Option (List ℕ) → Option (List ℕ) → Option (List ℕ) → Option (List ℕ) → Type 0
IsFront came output files old mid err_old err_mid = IfSome files (λ f. IfSome came (λ w. IsAfter old mid err_old err_mid w (output f)))

no_err : (answer : Answer) → (written_by answer).err ≡ []
no_err (Done text) = refl
no_err (Broken text) = refl

comes_front : {A : Type 0} (usage : List ℕ) (write : A → Written) (asks : Option (Asked A)) (files : Option Files) (outcome : Option (Result Answer Halt)) (opened_old opened_new : Slot → Option (List ℕ)) (old mid err_old err_mid : Option (List ℕ))
    → Comes write asks files outcome opened_old opened_new old mid err_old err_mid → IsFront (ending usage outcome) (written_files usage write asks) files old mid err_old err_mid
comes_front usage write asks None outcome opened_old opened_new old mid err_old err_mid comes = tt
comes_front usage write asks (Some f) None opened_old opened_new old mid err_old err_mid comes =
    record {
      front = [];
      lines = [];
      took = comes.1 ∙ with_none old;
      said = comes.2 ∙ with_none err_old;
      alone = inl refl;
      is = ap (λ (a : Option (Asked _)). written_files usage write a f) comes.0;
    }
comes_front usage write asks (Some f) (Some (Ok answer)) opened_old opened_new old mid err_old err_mid comes =
    record {
      front = comes.leaves.front;
      lines = comes.leaves.lines;
      took = comes.leaves.took;
      said = comes.leaves.said;
      alone = inr (no_err answer);
      is = asked_written usage write asks comes.asked f comes.is ∙ comes.leaves.whole;
    }
comes_front usage write asks (Some f) (Some (Err (Refused refusal))) opened_old opened_new old mid err_old err_mid comes =
    record {
      front = [];
      lines = [];
      took = comes.leaves.1 ∙ with_none old;
      said = comes.leaves.2 ∙ with_none err_old;
      alone = inl refl;
      is = asked_written usage write asks comes.asked f comes.is ∙ ap (option_map (ended write)) comes.leaves.0;
    }
comes_front usage write asks (Some f) (Some (Err Store)) opened_old opened_new old mid err_old err_mid comes = tt
comes_front usage write asks (Some f) (Some (Err Memory)) opened_old opened_new old mid err_old err_mid comes = tt

-- before the rest it took nothing, or a first part
pub comes_part : {A : Type 0} (usage : List ℕ) (write : A → Written) (asks : Option (Asked A)) (files : Option Files) (outcome : Option (Result Answer Halt)) (opened_old opened_new : Slot → Option (List ℕ)) (old mid err_old err_mid : Option (List ℕ))
    → Comes write asks files outcome opened_old opened_new old mid err_old err_mid → IfSome files (λ f. TookFront (written_files usage write asks f) old mid)
comes_part usage write asks None outcome opened_old opened_new old mid err_old err_mid comes = tt
comes_part usage write asks (Some f) None opened_old opened_new old mid err_old err_mid comes = inl comes.1
comes_part usage write asks (Some f) (Some (Ok answer)) opened_old opened_new old mid err_old err_mid comes =
    inr (subst (λ (o : Option Written). TookOut o old mid) (sym (asked_written usage write asks comes.asked f comes.is ∙ comes.leaves.whole))
    (front_part old mid comes.leaves.front (written_by answer).out comes.leaves.took))
comes_part usage write asks (Some f) (Some (Err (Refused refusal))) opened_old opened_new old mid err_old err_mid comes = inl comes.leaves.1
comes_part usage write asks (Some f) (Some (Err Store)) opened_old opened_new old mid err_old err_mid comes =
    subst (λ (o : Option Written). TookFront o old mid) (sym (asked_written usage write asks comes.asked f comes.is)) comes.leaves
comes_part usage write asks (Some f) (Some (Err Memory)) opened_old opened_new old mid err_old err_mid comes =
    subst (λ (o : Option Written). TookFront o old mid) (sym (asked_written usage write asks comes.asked f comes.is)) comes.leaves

pub comes_part_at : {A : Type 0} (usage : List ℕ) (write : A → Written) (asks : Option (Asked A)) (files : Option Files) (outcome : Option (Result Answer Halt)) (opened_old opened_new : Slot → Option (List ℕ)) (old mid new err_old err_mid : Option (List ℕ))
    → Comes write asks files outcome opened_old opened_new old mid err_old err_mid → new ≡ mid → IfSome files (λ f. TookFront (written_files usage write asks f) old new)
comes_part_at usage write asks files outcome opened_old opened_new old mid new err_old err_mid comes is =
    subst (λ (m : Option (List ℕ)). IfSome files (λ f. TookFront (written_files usage write asks f) old m)) (sym is)
    (comes_part usage write asks files outcome opened_old opened_new old mid err_old err_mid comes)

-- ---- how a program ends by what its words came to

on_true : {P Q : Type 0} (b : Bool) → (P → Q) → OnTrue b P → OnTrue b Q
on_true true follows p = follows p
on_true false follows p = tt

tells_after : (output : Files → Option Written) (files : Option Files) (came : Option Written) (s : Status) (old mid new err_old err_mid err_new : Option (List ℕ))
    → IsFront came output files old mid err_old err_mid → IsWritten came s mid new err_mid err_new → IsTold output files s old new err_old err_new
tells_after output None came s old mid new err_old err_mid err_new is ends = tt
tells_after output (Some f) None s old mid new err_old err_mid err_new is ends = absurd ends
tells_after output (Some f) (Some w) s old mid new err_old err_mid err_new is ends =
    subst (λ (o : Option Written). IsWritten o s old new err_old err_new) (sym is.is)
    (record {
      ends = ends.ends;
      out_took = ends.out_took ∙ ap (λ (t : Option (List ℕ)). with_piece t w.out) is.took ∙ with_two old is.front w.out;
      err_took = ends.err_took ∙ ap (λ (t : Option (List ℕ)). with_piece t w.err) is.said ∙ with_two err_old is.lines w.err;
    })

pub rest_told : {A : Type 0} (usage : List ℕ) (write : A → Written) (asks : Option (Asked A)) (files : Option Files) (outcome : Option (Result Answer Halt)) (opened_old opened_new : Slot → Option (List ℕ)) (s : Status) (old mid new err_old err_mid err_new : Option (List ℕ))
    → Comes write asks files outcome opened_old opened_new old mid err_old err_mid → OnTrue (is_answer s) (IsWritten (ending usage outcome) s mid new err_mid err_new)
    → OnTrue (is_answer s) (IsTold (written_files usage write asks) files s old new err_old err_new)
rest_told usage write asks files outcome opened_old opened_new s old mid new err_old err_mid err_new comes told =
    on_true (is_answer s)
    (tells_after (written_files usage write asks) files (ending usage outcome) s old mid new err_old err_mid err_new (comes_front usage write asks files outcome opened_old opened_new old mid err_old err_mid comes)) told

took_after : (output : Files → Option Written) (files : Option Files) (came : Option Written) (old mid new err_old err_mid : Option (List ℕ)) → IsFront came output files old mid err_old err_mid → TookOut came mid new → TookPart output files old new
took_after output None came old mid new err_old err_mid is took = tt
took_after output (Some f) None old mid new err_old err_mid is took = absurd took
took_after output (Some f) (Some w) old mid new err_old err_mid is took = subst (λ (o : Option Written). TookOut o old new) (sym is.is) (prefix_after old mid new is.front w.out is.took took)

-- the counts are those of standard output
pub rest_part : {A : Type 0} (usage : List ℕ) (write : A → Written) (asks : Option (Asked A)) (files : Option Files) (outcome : Option (Result Answer Halt)) (opened_old opened_new : Slot → Option (List ℕ)) (s : Status) (faults_old faults_mid faults_new : ℕ) (old mid new err_old err_mid : Option (List ℕ))
    → Comes write asks files outcome opened_old opened_new old mid err_old err_mid → faults_mid ≡ faults_old → At s status.SinkFailed (faults_mid < faults_new → TookOut (ending usage outcome) mid new)
    → At s status.SinkFailed (faults_old < faults_new → TookPart (written_files usage write asks) files old new)
rest_part usage write asks files outcome opened_old opened_new s faults_old faults_mid faults_new old mid new err_old err_mid comes same took =
    on_true (nat_eq (number s) 4)
    (λ part rose. took_after (written_files usage write asks) files (ending usage outcome) old mid new err_old err_mid (comes_front usage write asks files outcome opened_old opened_new old mid err_old err_mid comes)
    (part (subst (λ (n : ℕ). n < faults_new) (sym same) rose))) took

-- a first part of what is written to standard error after the lines is one of all of it, where either is none
took_nothing : (mid new : Option (List ℕ)) (text : List ℕ) → TookPrefix mid new [] → TookPrefix mid new text
took_nothing mid new text took = record {
  count = 0;
  within = omega arith;
  took = took.took ∙ ap (λ (n : ℕ). with_piece mid (take n [])) (let none : took.count ≡ 0 = omega (arith, took.within) in none);
}

err_alone : (lines text : List ℕ) (mid new : Option (List ℕ)) → (lines ≡ []) ⊎ (text ≡ []) → TookPrefix mid new text → TookPrefix mid new (lines ++ text)
err_alone lines text mid new (inl none) took = subst (λ (l : List ℕ). TookPrefix mid new (l ++ text)) (sym none) took
err_alone lines text mid new (inr none) took = took_nothing mid new (lines ++ text) (subst (TookPrefix mid new) none took)

err_at : (output : Option Written) (w : Written) (old mid err_old err_mid err_new : Option (List ℕ)) → IsAfter old mid err_old err_mid w output → TookPrefix err_mid err_new w.err
    → TookErr output err_mid err_new
err_at output w old mid err_old err_mid err_new is took =
    subst (λ (o : Option Written). TookErr o err_mid err_new) (sym is.is) (err_alone is.lines w.err err_mid err_new is.alone took)

line_after : {P Q : Type 0} (output : Files → Option Written) (files : Option Files) (came : Option Written) (old mid err_old err_mid err_new : Option (List ℕ))
    → IsFront came output files old mid err_old err_mid → (P → Q) → TookLine came P err_mid err_new → ErrFailed output files Q err_mid err_new
line_after output None came old mid err_old err_mid err_new is rose took = tt
line_after output (Some f) None old mid err_old err_mid err_new is rose (inl took) = absurd took
line_after output (Some f) None old mid err_old err_mid err_new is rose (inr (inl took)) = inr (inl took)
line_after output (Some f) None old mid err_old err_mid err_new is rose (inr (inr took)) = inr (inr (rose took.0, took.1))
line_after output (Some f) (Some w) old mid err_old err_mid err_new is rose (inl took) = inl (err_at (output f) w old mid err_old err_mid err_new is took)
line_after output (Some f) (Some w) old mid err_old err_mid err_new is rose (inr (inl took)) = inr (inl took)
line_after output (Some f) (Some w) old mid err_old err_mid err_new is rose (inr (inr took)) = inr (inr (rose took.0, took.1))

rose_where_failed : {P : Type 0} (outcome : Option (Result Answer Halt)) → OnStoreIn outcome P → outcome ≡ Some (Err Store) → P
rose_where_failed {P} outcome cause is = subst (λ (o : Option (Result Answer Halt)). OnStoreIn o P) is cause

pub rest_fails : {A : Type 0} (usage : List ℕ) (write : A → Written) (asks : Option (Asked A)) (files : Option Files) (outcome : Option (Result Answer Halt)) (opened_old opened_new : Slot → Option (List ℕ)) (s : Status) (store_old store_new faults_old faults_mid faults_new : ℕ) (old mid err_old err_mid err_new : Option (List ℕ)) (Q : Type 0)
    → Comes write asks files outcome opened_old opened_new old mid err_old err_mid → OnStoreIn outcome (Rose store_old store_new) → faults_mid ≡ faults_old
    → (ErrFailed (written_files usage write asks) files (Rose store_old store_new) err_mid err_new → Q)
    → At s status.SinkFailed (faults_mid < 2 ^ 64 - 1 → faults_new ≡ faults_mid → TookLine (ending usage outcome) (outcome ≡ Some (Err Store)) err_mid err_new)
    → At s status.SinkFailed (faults_old < 2 ^ 64 - 1 → faults_new ≡ faults_old → Q)
rest_fails usage write asks files outcome opened_old opened_new s store_old store_new faults_old faults_mid faults_new old mid err_old err_mid err_new Q comes cause quiet follows failed =
    on_true (nat_eq (number s) 4)
    (λ took few same. follows (line_after (written_files usage write asks) files (ending usage outcome) old mid err_old err_mid err_new (comes_front usage write asks files outcome opened_old opened_new old mid err_old err_mid comes)
    (rose_where_failed outcome cause) (took (subst (λ (n : ℕ). n < 2 ^ 64 - 1) (sym quiet) few) (same ∙ sym quiet)))) failed

pub on_silent : (P Q : Type 0) (s : Status) → (P → Q) → OnTrue (is_silent s) P → OnTrue (is_silent s) Q
on_silent P Q s follows p = on_true (is_silent s) follows p

pub at_sink : (P Q : Type 0) (s : Status) → (P → Q) → At s status.SinkFailed P → At s status.SinkFailed Q
at_sink P Q s follows p = on_true (nat_eq (number s) 4) follows p

pub at_status : (P Q : Type 0) (s one : Status) → (P → Q) → At s one P → At s one Q
at_status P Q s one follows p = on_true (nat_eq (number s) (number one)) follows p

-- ---- usage stands alone, and so does a first part where another sink failed

on_both : {P Q R : Type 0} (b : Bool) → (P → Q → R) → OnTrue b P → OnTrue b Q → OnTrue b R
on_both true follows p q = follows p q
on_both false follows p q = tt

none_before : {A : Type 0} (write : A → Written) (asks : Option (Asked A)) (files : Option Files) (outcome : Option (Result Answer Halt)) (opened_old opened_new : Slot → Option (List ℕ)) (old mid err_old err_mid : Option (List ℕ))
    → Comes write asks files outcome opened_old opened_new old mid err_old err_mid → outcome ≡ None → err_mid ≡ err_old
none_before write asks files outcome opened_old opened_new old mid err_old err_mid comes is =
    (subst (λ (o : Option (Result Answer Halt)). Comes write asks files o opened_old opened_new old mid err_old err_mid) is comes).2

pub usage_alone : {A : Type 0} (write : A → Written) (asks : Option (Asked A)) (files : Option Files) (outcome : Option (Result Answer Halt)) (opened_old opened_new : Slot → Option (List ℕ)) (s : Status) (usage : List ℕ) (old mid err_old err_mid err_new : Option (List ℕ))
    → Comes write asks files outcome opened_old opened_new old mid err_old err_mid → At s status.NoCommand (outcome ≡ None) → At s status.NoCommand (err_new ≡ with_piece err_mid usage)
    → At s status.NoCommand (err_new ≡ with_piece err_old usage)
usage_alone write asks files outcome opened_old opened_new s usage old mid err_old err_mid err_new comes =
    on_both (nat_eq (number s) 6)
    (λ none took. took ∙ ap (λ (t : Option (List ℕ)). with_piece t usage) (none_before write asks files outcome opened_old opened_new old mid err_old err_mid comes none))

pub front_of : (output : Files → Option Written) (files : Option Files) (old new : Option (List ℕ)) → TookPart output files old new → IfSome files (λ f. TookFront (output f) old new)
front_of output None old new took = tt
front_of output (Some f) old new took = inr took
