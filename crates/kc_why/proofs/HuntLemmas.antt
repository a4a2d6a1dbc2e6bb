-- What is found where a search began, and what is made of it.
use Rattle.std.proofs.Common.{◌≡◌, ℕ, Bool, true, false, List, [], length, Option, Some, None, option_map, inl, inr, Result, Ok, Err, IfOk, IfSome, OnErr, append-nil, refl, sym, ap, subst, ◌∙◌, arith}
use Rattle.std.proofs.Math.Seq.{take-length}
use Rattle.std.specs.Bool.{OnTrue}
use Rattle.std.proofs.lemmas.Bool.{OnTrue_at}
use Rattle.kc_outside.specs.declared.store.Slot.TheVariants as slot
use Rattle.kc_outside.specs.Files.{Files, named}
use Rattle.kc_outside.specs.Texts.{with_piece}
use Rattle.kc_text.specs.Compose.{texts}
use Rattle.kc_syms.specs.Rows.{RowText}
use Rattle.kc_command.specs.declared.halt.Halt.{Halt}
use Rattle.kc_command.specs.declared.halt.Halt.TheVariants.{Refused, Store, Memory}
use Rattle.kc_command.specs.declared.kernel.Kernel.{Kernel}
use Rattle.kc_command.specs.Inputs.{rows_in, view_headers}
use Rattle.kc_command.specs.Kernels.{KernelAt, kernel_in, kernel_view}
use Rattle.kc_command.specs.Made.{IsOf, Made}
use Rattle.kc_command.specs.declared.ends.answer.Answer.{Answer}
use Rattle.kc_command.specs.declared.ends.status.Status.TheVariants.{Done}
use Rattle.kc_command.specs.Ends.Answers.{written_by}
use Rattle.kc_command.specs.Ends.Ends.{TookOut, TookPrefix}
use Rattle.kc_command.specs.Ends.Output.{ended}
use Rattle.kc_command.specs.Ends.Written.{Written}
use Rattle.kc_found.specs.Violations.{Violation}
use Rattle.kc_owner.specs.declared.object.keys.FreeKeys.{FreeKeys}
use Rattle.kc_owner.specs.declared.object.shape.ObjectShape.{ObjectShape}
use Rattle.kc_owner.specs.Object.Shapes.{object_shape}
use Rattle.kc_sight.specs.declared.refs.place.FoundWord.{FoundWord}
use Rattle.kc_sight.specs.Refs.Holding.{in_segments}
use Rattle.kc_sight.specs.Refs.Stops.{Told}
use Rattle.kc_sight.specs.Refs.Writings.{Sought}
use Rattle.kc_refs.specs.Lines.{found_lines}
use Rattle.kc_refs.specs.Progress.{goal_of, progress_text, words_in}
use Rattle.kc_refs.specs.Put.{Wrote}
use Rattle.kc_told.specs.Objects.{kernel_by}
use Rattle.kc_why.specs.declared.files.Aim.{Aim}
use Rattle.kc_why.specs.declared.files.FailedSink.{FailedSink}
use Rattle.kc_why.specs.declared.searching.Hunt.{Hunt}
use Rattle.kc_why.specs.Memory.{memory_of}
use Rattle.kc_why.specs.Ready.{Begins, IsReady}
use Rattle.kc_why.specs.Rest.{Leaves, LeavesOf, LeavesOfBytes, PartOf, PartOfBytes, Searches, after}
use Rattle.kc_why.specs.Said.{SearchSays}
use Rattle.kc_why.specs.Searching.{IsThere, keys_in, keys_of, sought_by}
use Rattle.kc_why.specs.Why.{Finds, Question, Shown, found_in, shown_in, why_made, why_written}
use Rattle.kc_why.specs.WordText.{rest_text, words_text}
use Rattle.kc_why.proofs.RestLemmas.{halted_after, part_longer}

-- a search begins with what is made of the map and the dump
pub ready : (content now : Option (List ℕ)) (aim : Aim) (kernel : KernelAt) (read : List RowText) (shape : Option ObjectShape) (h : Hunt)
    → rows_in kernel.map ≡ Some (Ok read) → shape ≡ object_shape (kernel_by kernel.types read kernel.told)
    → Told content (λ bytes. h.told ≡ keys_of (memory_of kernel bytes) shape) → h.sought ≡ sought_by aim.value h.told → IsThere h.same content now
    → IsReady aim kernel content now (Ok h)
ready None now aim kernel read shape h is shaped told sought there = tt
ready (Some bytes) now aim kernel read shape h is shaped told sought there = record {
  same = there.0;
  here = there.1;
  sought = sought;
  made = rw is (ap (λ (k : Option (Result FreeKeys Violation)). Some (Ok (Finds (record { bytes = bytes; segments = kernel.segments; keys = k; value = aim.value; progress = aim.progress }))))
      (sym (told ∙ ap (keys_of (memory_of kernel bytes)) shaped)));
}

-- what is written of it
pub words_written : (aim : Aim) (kernel : KernelAt) (bytes : List ℕ) (now : Option (List ℕ)) (h : Hunt) → Begins aim kernel bytes now h
    → option_map (ended why_written) (found_in bytes aim kernel) ≡ Some (record { out = words_text h.told (in_segments (sought_by aim.value h.told) bytes kernel.segments); err = progress_text aim.progress kernel.segments; status = Done })
words_written aim kernel bytes now h begins = ap (option_map (ended why_written)) begins.made

part_written : (aim : Aim) (kernel : KernelAt) (bytes : List ℕ) (now : Option (List ℕ)) (h : Hunt) (old new : Option (List ℕ)) → Begins aim kernel bytes now h
    → TookPrefix old new (texts (found_lines (keys_in h.told)) (in_segments (sought_by aim.value h.told) bytes kernel.segments))
    → TookOut (option_map (ended why_written) (found_in bytes aim kernel)) old new
part_written aim kernel bytes now h old new begins took =
    let found = in_segments (sought_by aim.value h.told) bytes kernel.segments in
    subst (λ (o : Option Written). TookOut o old new) (sym (words_written aim kernel bytes now h begins))
    (part_longer old new (texts (found_lines (keys_in h.told)) found) (rest_text h.told (length found)) took)

searched : (aim : Aim) (kernel : KernelAt) (bytes : List ℕ) (now : Option (List ℕ)) (h : Hunt) (r : Result Answer Halt) (old new err_old err_new : Option (List ℕ)) → Begins aim kernel bytes now h
    → SearchSays (goal_of aim.progress kernel.segments) (words_in kernel.segments) (Ok r) err_old err_new
    → Searches h.told (in_segments (sought_by aim.value h.told) bytes kernel.segments) r old new → Leaves why_written (found_in bytes aim kernel) r old new err_old err_new
searched aim kernel bytes now h (Ok answer) old new err_old err_new begins says wrote = record {
  front = texts (found_lines (keys_in h.told)) (in_segments (sought_by aim.value h.told) bytes kernel.segments);
  lines = progress_text aim.progress kernel.segments;
  took = wrote.took;
  said = says;
  whole = words_written aim kernel bytes now h begins
      ∙ ap (λ (e : List ℕ). Some (record { out = words_text h.told (in_segments (sought_by aim.value h.told) bytes kernel.segments); err = e; status = Done })) (sym (append-nil (progress_text aim.progress kernel.segments)))
      ∙ ap (λ (w : Written). Some (after (texts (found_lines (keys_in h.told)) (in_segments (sought_by aim.value h.told) bytes kernel.segments)) (progress_text aim.progress kernel.segments) w)) (sym wrote.rest);
}
searched aim kernel bytes now h (Err (Refused refusal)) old new err_old err_new begins says wrote = absurd wrote
searched aim kernel bytes now h (Err Store) old new err_old err_new begins says wrote = inr (part_written aim kernel bytes now h old new begins wrote)
searched aim kernel bytes now h (Err Memory) old new err_old err_new begins says wrote = inr (part_written aim kernel bytes now h old new begins wrote)

-- what is said of the words of a dump that is told
of_words : (aim : Aim) (kernel : KernelAt) (bytes : List ℕ) (now : Option (List ℕ)) (h : Hunt) (P : List FoundWord → Type 0) → Begins aim kernel bytes now h
    → OnTrue h.same (Told now (λ bytes. P (in_segments h.sought bytes kernel.segments))) → P (in_segments (sought_by aim.value h.told) bytes kernel.segments)
of_words aim kernel bytes now h P begins wrote =
    subst (λ (s : Sought). P (in_segments s bytes kernel.segments)) begins.sought
    (subst (λ (c : Option (List ℕ)). Told c (λ b. P (in_segments h.sought b kernel.segments))) begins.here (OnTrue_at begins.same wrote))

pub hunted : (content now : Option (List ℕ)) (aim : Aim) (kernel : KernelAt) (h : Hunt) (r : Result Answer Halt) (old new err_old err_new : Option (List ℕ)) → IsReady aim kernel content now (Ok h)
    → OnTrue h.same (SearchSays (goal_of aim.progress kernel.segments) (words_in kernel.segments) (Ok r) err_old err_new)
    → OnTrue h.same (Told now (λ bytes. Searches h.told (in_segments h.sought bytes kernel.segments) r old new))
    → LeavesOfBytes why_written (λ bytes. found_in bytes aim kernel) content r old new err_old err_new
hunted None now aim kernel h r old new err_old err_new begins says wrote = tt
hunted (Some bytes) now aim kernel h r old new err_old err_new begins says wrote =
    searched aim kernel bytes now h r old new err_old err_new begins (OnTrue_at begins.same says) (of_words aim kernel bytes now h (λ found. Searches h.told found r old new) begins wrote)

pub hunt_cut : (content now : Option (List ℕ)) (aim : Aim) (kernel : KernelAt) (h : Hunt) (old new : Option (List ℕ)) → IsReady aim kernel content now (Ok h)
    → OnTrue h.same (Told now (λ bytes. TookPrefix old new (texts (found_lines (keys_in h.told)) (in_segments h.sought bytes kernel.segments))))
    → PartOfBytes why_written (λ bytes. found_in bytes aim kernel) content old new
hunt_cut None now aim kernel h old new begins took = tt
hunt_cut (Some bytes) now aim kernel h old new begins took =
    part_written aim kernel bytes now h old new begins (of_words aim kernel bytes now h (λ found. TookPrefix old new (texts (found_lines (keys_in h.told)) found)) begins took)

-- no search begins
pub not_ready : (content now : Option (List ℕ)) (aim : Aim) (kernel : KernelAt) (halt : Halt) (old err : Option (List ℕ)) → IsReady aim kernel content now (Err halt)
    → LeavesOfBytes why_written (λ bytes. found_in bytes aim kernel) content (Err halt) old old err err
not_ready None now aim kernel halt old err halts = tt
not_ready (Some bytes) now aim kernel halt old err halts = halted_after why_written (found_in bytes aim kernel) halt old err halts

-- what is shown of a kernel is what is made of its files
made_is : (question : Question) (dump btf map : Option (List ℕ)) (kernel : KernelAt) (P : Made Shown → Type 0) → kernel_in view_headers dump btf map ≡ Some (Ok kernel)
    → ((bytes : List ℕ) → dump ≡ Some bytes → P (shown_in question bytes kernel)) → P (why_made question dump btf map)
made_is question None btf map kernel P is p = absurd (let none : ⊥ = cc in none)
made_is question (Some bytes) btf map kernel P is p = rw is (p bytes refl)

pub leaves_made : (question : Question) (files : Option Files) (dump btf map : List ℕ) (kernel : Kernel) (content : Option (List ℕ)) (r : Result Answer Halt) (old new err_old err_new : Option (List ℕ))
    → IsOf kernel_view (λ told. kernel_in view_headers (told slot.Dump dump) (told slot.Btf btf) (told slot.Map map)) files (Ok kernel) → content ≡ named files slot.Dump dump
    → LeavesOfBytes why_written (λ bytes. shown_in question bytes (kernel_view kernel)) content r old new err_old err_new
    → LeavesOf why_written (λ told. why_made question (told slot.Dump dump) (told slot.Btf btf) (told slot.Map map)) files r old new err_old err_new
leaves_made question None dump btf map kernel content r old new err_old err_new is same leaves = tt
leaves_made question (Some files) dump btf map kernel content r old new err_old err_new is same leaves =
    made_is question (files slot.Dump dump) (files slot.Btf btf) (files slot.Map map) (kernel_view kernel) (λ made. Leaves why_written made r old new err_old err_new) is
    (λ bytes there. subst (λ (c : Option (List ℕ)). LeavesOfBytes why_written (λ bytes. shown_in question bytes (kernel_view kernel)) c r old new err_old err_new) (same ∙ there) leaves)

-- what is said of what is written of the dump's bytes is said of what is written of the files
pub holds_made : (question : Question) (files : Option Files) (dump btf map : List ℕ) (kernel : Kernel) (content : Option (List ℕ)) (P : Option Written → Type 0)
    → IsOf kernel_view (λ told. kernel_in view_headers (told slot.Dump dump) (told slot.Btf btf) (told slot.Map map)) files (Ok kernel) → content ≡ named files slot.Dump dump
    → IfSome content (λ bytes. P (option_map (ended why_written) (shown_in question bytes (kernel_view kernel))))
    → IfSome files (λ told. P (option_map (ended why_written) (why_made question (told slot.Dump dump) (told slot.Btf btf) (told slot.Map map))))
holds_made question None dump btf map kernel content P is same holds = tt
holds_made question (Some files) dump btf map kernel content P is same holds =
    made_is question (files slot.Dump dump) (files slot.Btf btf) (files slot.Map map) (kernel_view kernel) (λ made. P (option_map (ended why_written) made)) is
    (λ bytes there. subst (λ (c : Option (List ℕ)). IfSome c (λ bytes. P (option_map (ended why_written) (shown_in question bytes (kernel_view kernel))))) (same ∙ there) holds)

pub part_made : (question : Question) (files : Option Files) (dump btf map : List ℕ) (kernel : Kernel) (content : Option (List ℕ)) (old new : Option (List ℕ))
    → IsOf kernel_view (λ told. kernel_in view_headers (told slot.Dump dump) (told slot.Btf btf) (told slot.Map map)) files (Ok kernel) → content ≡ named files slot.Dump dump
    → PartOfBytes why_written (λ bytes. shown_in question bytes (kernel_view kernel)) content old new
    → PartOf why_written (λ told. why_made question (told slot.Dump dump) (told slot.Btf btf) (told slot.Map map)) files old new
part_made question None dump btf map kernel content old new is same took = tt
part_made question (Some files) dump btf map kernel content old new is same took =
    made_is question (files slot.Dump dump) (files slot.Btf btf) (files slot.Map map) (kernel_view kernel) (λ made. TookOut (option_map (ended why_written) made) old new) is
    (λ bytes there. subst (λ (c : Option (List ℕ)). PartOfBytes why_written (λ bytes. shown_in question bytes (kernel_view kernel)) c old new) (same ∙ there) took)

-- where the kernel's files aren't read, nothing is made
pub leaves_unread : (question : Question) (files : Option Files) (dump btf map : List ℕ) (halt : Halt) (old err : Option (List ℕ))
    → IsOf kernel_view (λ told. kernel_in view_headers (told slot.Dump dump) (told slot.Btf btf) (told slot.Map map)) files (Err halt)
    → LeavesOf why_written (λ told. why_made question (told slot.Dump dump) (told slot.Btf btf) (told slot.Map map)) files (Err halt) old old err err
leaves_unread question None dump btf map halt old err halts = tt
leaves_unread question (Some files) dump btf map (Refused refusal) old err halts = rw halts (refl, refl, refl)
leaves_unread question (Some files) dump btf map Store old err halts = inl refl
leaves_unread question (Some files) dump btf map Memory old err halts = inl refl

-- what follows the lines of the words is the rest
wrote_rest : (told : Option (Result FreeKeys Violation)) (found : List FoundWord) (count : ℕ) (r : Result Answer Halt) (old new : Option (List ℕ)) → Wrote (keys_in told) found old new count
    → IfOk r (λ answer. written_by answer ≡ record { out = rest_text told count; err = []; status = Done }) → OnErr r (r ≡ Err Memory) → Searches told found r old new
wrote_rest told found count (Ok answer) old new wrote rest err = let by : ℕ → Written = λ n. record { out = rest_text told n; err = []; status = Done } in record {
  took = wrote.took;
  rest = rest ∙ ap by wrote.counted;
}
wrote_rest told found count (Err (Refused refusal)) old new wrote rest err = absurd (let none : ⊥ = cc in none)
wrote_rest told found count (Err Store) old new wrote rest err = absurd (let none : ⊥ = cc in none)
wrote_rest told found count (Err Memory) old new wrote rest err = record {
  count = length (texts (found_lines (keys_in told)) found);
  within = omega arith;
  took = wrote.took ∙ ap (with_piece old) (sym (take-length (texts (found_lines (keys_in told)) found)));
}

pub rest_of : (same : Bool) (content : Option (List ℕ)) (told : Option (Result FreeKeys Violation)) (found : List ℕ → List FoundWord) (count : ℕ) (r : Result Answer Halt) (old new : Option (List ℕ))
    → OnTrue same (Told content (λ bytes. Wrote (keys_in told) (found bytes) old new count))
    → IfOk r (λ answer. written_by answer ≡ record { out = rest_text told count; err = []; status = Done }) → OnErr r (r ≡ Err Memory)
    → OnTrue same (Told content (λ bytes. Searches told (found bytes) r old new))
rest_of false content told found count r old new wrote rest err = tt
rest_of true None told found count r old new wrote rest err = tt
rest_of true (Some bytes) told found count r old new wrote rest err = wrote_rest told (found bytes) count r old new wrote rest err

-- where the search ended in any way
pub hunted_as : (content now : Option (List ℕ)) (aim : Aim) (kernel : KernelAt) (h : Hunt) (r : Result (Result Answer Halt) FailedSink) (old new err_old err_new : Option (List ℕ)) → IsReady aim kernel content now (Ok h)
    → OnTrue h.same (SearchSays (goal_of aim.progress kernel.segments) (words_in kernel.segments) r err_old err_new)
    → OnTrue h.same (IfOk r (λ r. Told now (λ bytes. Searches h.told (in_segments h.sought bytes kernel.segments) r old new)))
    → IfOk r (λ r. LeavesOfBytes why_written (λ bytes. found_in bytes aim kernel) content r old new err_old err_new)
hunted_as content now aim kernel h (Ok r) old new err_old err_new begins says wrote = hunted content now aim kernel h r old new err_old err_new begins says wrote
hunted_as content now aim kernel h (Err e) old new err_old err_new begins says wrote = tt

pub hunt_cut_as : (content now : Option (List ℕ)) (aim : Aim) (kernel : KernelAt) (h : Hunt) (r : Result (Result Answer Halt) FailedSink) (old new : Option (List ℕ)) → IsReady aim kernel content now (Ok h)
    → OnTrue h.same (OnErr r (Told now (λ bytes. TookPrefix old new (texts (found_lines (keys_in h.told)) (in_segments h.sought bytes kernel.segments)))))
    → OnErr r (PartOfBytes why_written (λ bytes. found_in bytes aim kernel) content old new)
hunt_cut_as content now aim kernel h (Ok r) old new begins took = tt
hunt_cut_as content now aim kernel h (Err e) old new begins took = hunt_cut content now aim kernel h old new begins took
