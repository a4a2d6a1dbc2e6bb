-- What standard error took of how far a search is.
use Rattle.std.proofs.Common.{◌≡◌, ◌⊎◌, ℕ, ◌+◌, ◌-◌, ◌/◌, ◌≤◌, Bool, true, false, List, [], Option, Some, None, option_map, IfSome, inl, inr, Result, Ok, Err, OnErr, refl, sym, ap, subst, ◌∙◌, arith}
use Rattle.std.specs.Bool.{OnTrue}
use Rattle.std.proofs.lemmas.Bool.{OnTrue_at}
use Rattle.kc_word.specs.declared.plain.Segment.{Segment}
use Rattle.kc_outside.specs.declared.store.Slot.TheVariants as slot
use Rattle.kc_outside.specs.Files.{Files, named}
use Rattle.kc_outside.specs.Texts.{with_piece}
use Rattle.kc_command.specs.declared.halt.Halt.{Halt}
use Rattle.kc_command.specs.declared.halt.Halt.TheVariants.{Memory}
use Rattle.kc_command.specs.declared.kernel.Kernel.{Kernel}
use Rattle.kc_command.specs.Inputs.{view_headers}
use Rattle.kc_command.specs.Kernels.{KernelAt, kernel_in, kernel_view}
use Rattle.kc_command.specs.Made.{IsOf}
use Rattle.kc_command.specs.declared.ends.answer.Answer.{Answer}
use Rattle.kc_command.specs.Ends.Asked.{Asked, asked_files}
use Rattle.kc_command.specs.Ends.Ends.{ErrFailed, TookErr, TookPrefix}
use Rattle.kc_command.specs.Ends.Output.{ended, written_files}
use Rattle.kc_command.specs.Ends.Written.{Written}
use Rattle.kc_refs.specs.Progress.{TookUntil, gigabyte, gigabytes, goal_of, lines_to, progress_text, read_lines, words_in}
use Rattle.kc_refs.specs.Says.{Says}
use Rattle.kc_why.specs.declared.files.Aim.{Aim}
use Rattle.kc_why.specs.declared.files.FailedSink.{FailedSink}
use Rattle.kc_why.specs.declared.files.FailedSink.TheVariants.{Shown, Progress}
use Rattle.kc_why.specs.declared.searching.Hunt.{Hunt}
use Rattle.kc_why.specs.Ready.{IsReady}
use Rattle.kc_why.specs.Said.{After, AreLines, IsFirst, OnProgress, SearchSays, TookLines, UnlessProgress}
use Rattle.kc_why.specs.Why.{Question, Words, found_in, shown_in, why_made, why_written}
use Rattle.kc_why.proofs.HuntLemmas.{holds_made, words_written}
use Rattle.kc_why.proofs.RestLemmas.{asked_written, with_none}

-- ---- where nothing was said

none_told : (written : Option (Option Written)) → IfSome written (AreLines [])
none_told None = tt
none_told (Some None) = refl
none_told (Some (Some w)) = inl refl

pub said_nothing : (wanted : Bool) (written : Option (Option Written)) (old new : Option (List ℕ)) → new ≡ old → TookLines wanted written old new
said_nothing wanted written old new same = record { lines = []; took = same ∙ with_none old; unwanted = λ _. refl; told = none_told written }

-- ---- what a search said

-- the lines up to a word are the first
first_lines : (progress : Bool) (segments : List Segment) (at : ℕ) → at ≤ words_in segments
    → (lines_to (goal_of progress segments) 0 at ≡ []) ⊎ IsFirst (lines_to (goal_of progress segments) 0 at) (progress_text progress segments)
first_lines false segments at within = inl refl
first_lines true segments at within =
    let earlier : at / gigabyte ≤ words_in segments / gigabyte = omega (arith, within) in
    let sum : words_in segments / gigabyte - 0 / gigabyte ≡ (at / gigabyte - 0 / gigabyte) + (words_in segments / gigabyte - at / gigabyte) = omega (arith, earlier) in
    inr (record {
      all = gigabytes (words_in segments);
      count = at / gigabyte - 0 / gigabyte;
      more = words_in segments / gigabyte - at / gigabyte;
      first = refl;
      whole = ap (read_lines (gigabytes (words_in segments)) 0) sum;
    })

unwanted_lines : (progress : Bool) (segments : List Segment) (at : ℕ) → progress ≡ false → lines_to (goal_of progress segments) 0 at ≡ []
unwanted_lines false segments at is = refl
unwanted_lines true segments at is = absurd (let none : ⊥ = cc in none)

-- where the dump is told, they are the first of what is written of it
ready_lines : (content now : Option (List ℕ)) (aim : Aim) (kernel : KernelAt) (h : Hunt) (at : ℕ) → IsReady aim kernel content now (Ok h) → at ≤ words_in kernel.segments
    → IfSome (option_map (λ bytes. option_map (ended why_written) (found_in bytes aim kernel)) content) (AreLines (lines_to (goal_of aim.progress kernel.segments) 0 at))
ready_lines None now aim kernel h at begins within = tt
ready_lines (Some bytes) now aim kernel h at begins within =
    subst (AreLines (lines_to (goal_of aim.progress kernel.segments) 0 at)) (sym (words_written aim kernel bytes now h begins)) (first_lines aim.progress kernel.segments at within)

until_lines : (content now : Option (List ℕ)) (aim : Aim) (kernel : KernelAt) (h : Hunt) (old new : Option (List ℕ)) → IsReady aim kernel content now (Ok h)
    → TookUntil (goal_of aim.progress kernel.segments) 0 (words_in kernel.segments) old new
    → TookLines aim.progress (option_map (λ bytes. option_map (ended why_written) (found_in bytes aim kernel)) content) old new
until_lines content now aim kernel h old new begins took = record {
  lines = lines_to (goal_of aim.progress kernel.segments) 0 took.at;
  took = took.took;
  unwanted = unwanted_lines aim.progress kernel.segments took.at;
  told = ready_lines content now aim kernel h took.at begins took.within;
}

took_all : (goal : Option ℕ) (words : ℕ) (old new : Option (List ℕ)) → new ≡ with_piece old (lines_to goal 0 words) → TookUntil goal 0 words old new
took_all goal words old new took = record { at = words; after = omega arith; within = omega arith; took = took }

unless_progress : {A P : Type 0} (r : Result A FailedSink) → P → UnlessProgress r P
unless_progress (Ok a) p = p
unless_progress (Err Shown) p = p
unless_progress (Err Progress) p = tt

pub unless_then : {A P Q : Type 0} (r : Result A FailedSink) → (P → Q) → UnlessProgress r P → UnlessProgress r Q
unless_then (Ok a) follows p = follows p
unless_then (Err Shown) follows p = follows p
unless_then (Err Progress) follows p = tt

pub on_then : {A P Q : Type 0} (r : Result A FailedSink) → (P → Q) → OnProgress r P → OnProgress r Q
on_then (Ok a) follows p = tt
on_then (Err Shown) follows p = tt
on_then (Err Progress) follows p = follows p

-- which sink failed
pub if_shown : (A P : Type 0) (e : FailedSink) → e ≡ Shown → UnlessProgress {A = A} (Err e) P → P
if_shown A P Shown is p = p
if_shown A P Progress is p = absurd (let none : ⊥ = cc in none)

pub if_progress : (A P : Type 0) (e : FailedSink) → e ≡ Progress → OnProgress {A = A} (Err e) P → P
if_progress A P Shown is p = absurd (let none : ⊥ = cc in none)
if_progress A P Progress is p = p

said_lines : (content now : Option (List ℕ)) (aim : Aim) (kernel : KernelAt) (h : Hunt) (r : Result (Result Answer Halt) FailedSink) (old new : Option (List ℕ)) → IsReady aim kernel content now (Ok h)
    → SearchSays (goal_of aim.progress kernel.segments) (words_in kernel.segments) r old new
    → UnlessProgress r (TookLines aim.progress (option_map (λ bytes. option_map (ended why_written) (found_in bytes aim kernel)) content) old new)
said_lines content now aim kernel h (Ok (Ok answer)) old new begins said =
    until_lines content now aim kernel h old new begins (took_all (goal_of aim.progress kernel.segments) (words_in kernel.segments) old new said)
said_lines content now aim kernel h (Ok (Err halt)) old new begins said = until_lines content now aim kernel h old new begins said
said_lines content now aim kernel h (Err Shown) old new begins said = until_lines content now aim kernel h old new begins said
said_lines content now aim kernel h (Err Progress) old new begins said = tt

lines_at : (same : Bool) (content now : Option (List ℕ)) (aim : Aim) (kernel : KernelAt) (h : Hunt) (r : Result (Result Answer Halt) FailedSink) (old new : Option (List ℕ)) → IsReady aim kernel content now (Ok h)
    → OnTrue same (SearchSays (goal_of aim.progress kernel.segments) (words_in kernel.segments) r old new) → (same ≡ false → new ≡ old)
    → UnlessProgress r (TookLines aim.progress (option_map (λ bytes. option_map (ended why_written) (found_in bytes aim kernel)) content) old new)
lines_at true content now aim kernel h r old new begins said unsaid = said_lines content now aim kernel h r old new begins said
lines_at false content now aim kernel h r old new begins said unsaid =
    unless_progress r (said_nothing aim.progress (option_map (λ bytes. option_map (ended why_written) (found_in bytes aim kernel)) content) old new (unsaid refl))

pub hunted_lines : (content now : Option (List ℕ)) (aim : Aim) (kernel : KernelAt) (h : Hunt) (r : Result (Result Answer Halt) FailedSink) (old new : Option (List ℕ)) → IsReady aim kernel content now (Ok h)
    → OnTrue h.same (SearchSays (goal_of aim.progress kernel.segments) (words_in kernel.segments) r old new) → (h.same ≡ false → new ≡ old)
    → UnlessProgress r (TookLines aim.progress (option_map (λ bytes. option_map (ended why_written) (found_in bytes aim kernel)) content) old new)
hunted_lines content now aim kernel h r old new begins said unsaid = lines_at h.same content now aim kernel h r old new begins said unsaid

-- what follows the words is made, or no memory was left
pub says_rest : (same : Bool) (goal : Option ℕ) (words count : ℕ) (r : Result Answer Halt) (old new : Option (List ℕ)) → OnTrue same (Says goal 0 words (Ok count) old new) → OnErr r (r ≡ Err Memory)
    → OnTrue same (SearchSays goal words (Ok r) old new)
says_rest false goal words count r old new said err = tt
says_rest true goal words count (Ok answer) old new said err = said
says_rest true goal words count (Err halt) old new said err = took_all goal words old new said

-- where its sink failed, it took a first part
pub hunted_part : (content now : Option (List ℕ)) (aim : Aim) (kernel : KernelAt) (h : Hunt) (r : Result (Result Answer Halt) FailedSink) (old new : Option (List ℕ)) → IsReady aim kernel content now (Ok h)
    → OnTrue h.same (SearchSays (goal_of aim.progress kernel.segments) (words_in kernel.segments) r old new)
    → OnProgress r (IfSome content (λ bytes. TookErr (option_map (ended why_written) (found_in bytes aim kernel)) old new))
hunted_part content now aim kernel h (Ok r) old new begins said = tt
hunted_part content now aim kernel h (Err Shown) old new begins said = tt
hunted_part None now aim kernel h (Err Progress) old new begins said = tt
hunted_part (Some bytes) now aim kernel h (Err Progress) old new begins said =
    subst (λ (o : Option Written). TookErr o old new) (sym (words_written aim kernel bytes now h begins)) (OnTrue_at begins.same said)

-- ---- by the files, and by the words

told_map : {X Y : Type 0} (f : X → Y) (o : Option X) (P : Y → Type 0) → IfSome (option_map f o) P → IfSome o (λ x. P (f x))
told_map f None P told = tt
told_map f (Some x) P told = told

map_told : {X Y : Type 0} (f : X → Y) (o : Option X) (P : Y → Type 0) → IfSome o (λ x. P (f x)) → IfSome (option_map f o) P
map_told f None P told = tt
map_told f (Some x) P told = told

pub lines_made : (question : Question) (files : Option Files) (dump btf map : List ℕ) (kernel : Kernel) (content : Option (List ℕ)) (wanted : Bool) (old new : Option (List ℕ))
    → IsOf kernel_view (λ told. kernel_in view_headers (told slot.Dump dump) (told slot.Btf btf) (told slot.Map map)) files (Ok kernel) → content ≡ named files slot.Dump dump
    → TookLines wanted (option_map (λ bytes. option_map (ended why_written) (shown_in question bytes (kernel_view kernel))) content) old new
    → TookLines wanted (option_map (λ told. option_map (ended why_written) (why_made question (told slot.Dump dump) (told slot.Btf btf) (told slot.Map map))) files) old new
lines_made question files dump btf map kernel content wanted old new is same took = record {
  lines = took.lines;
  took = took.took;
  unwanted = took.unwanted;
  told = map_told (λ (told : Files). option_map (ended why_written) (why_made question (told slot.Dump dump) (told slot.Btf btf) (told slot.Map map))) files (AreLines took.lines)
      (holds_made question files dump btf map kernel content (AreLines took.lines) is same
      (told_map (λ (bytes : List ℕ). option_map (ended why_written) (shown_in question bytes (kernel_view kernel))) content (AreLines took.lines) took.told));
}

each_of : {X : Type 0} (o : Option X) (P Q : X → Type 0) → ((x : X) → P x → Q x) → IfSome o P → IfSome o Q
each_of None P Q follows p = tt
each_of (Some x) P Q follows p = follows x p

pub holds_asked : {A : Type 0} (usage : List ℕ) (write : A → Written) (asks : Option (Asked A)) (asked : Asked A) (files : Option Files) (P : Option Written → Type 0) → asks ≡ Some asked
    → IfSome files (λ f. P (option_map (ended write) (asked.made (asked_files asked f)))) → IfSome files (λ f. P (written_files usage write asks f))
holds_asked usage write asks asked files P is holds =
    each_of files (λ f. P (option_map (ended write) (asked.made (asked_files asked f)))) (λ f. P (written_files usage write asks f))
    (λ f p. subst P (sym (asked_written usage write asks asked f is)) p) holds

pub lines_asked : {A : Type 0} (usage : List ℕ) (write : A → Written) (asks : Option (Asked A)) (asked : Asked A) (files : Option Files) (progress wanted : Bool) (old new : Option (List ℕ))
    → asks ≡ Some asked → progress ≡ wanted → TookLines progress (option_map (λ f. option_map (ended write) (asked.made (asked_files asked f))) files) old new
    → TookLines wanted (option_map (written_files usage write asks) files) old new
lines_asked usage write asks asked files progress wanted old new is same took = record {
  lines = took.lines;
  took = took.took;
  unwanted = λ none. took.unwanted (same ∙ none);
  told = map_told (written_files usage write asks) files (AreLines took.lines)
      (holds_asked usage write asks asked files (AreLines took.lines) is
      (told_map (λ f. option_map (ended write) (asked.made (asked_files asked f))) files (AreLines took.lines) took.told));
}

-- what is said after the lines
pub after_lines : {wanted : Bool} {written : Option (Option Written)} {old mid : Option (List ℕ)} {P : Option (List ℕ) → Type 0} → TookLines wanted written old mid → P mid → After wanted written old P
after_lines {wanted} {written} {old} {mid} took p = record { mid = mid; took = took; then = p }

-- where its own sink failed, that took a first part of what is written to it
pub cut_fails : (output : Files → Option Written) (files : Option Files) (Q : Type 0) (old new : Option (List ℕ)) → IfSome files (λ f. TookErr (output f) old new) → ErrFailed output files Q old new
cut_fails output None Q old new took = tt
cut_fails output (Some f) Q old new took = inl took
