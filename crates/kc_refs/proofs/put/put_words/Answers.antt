use Rattle.std.proofs.Common.{◌≡◌, ℕ, ◌+◌, [], take, drop, get_or, Option, Ok, Err, refl, sym, subst, ◌∙◌, rules, arith}
use Rattle.std.proofs.lemmas.Grind.{common_steps}
use Rattle.kc_word.specs.declared.plain.Segment.{Segment}
use Rattle.kc_outside.specs.declared.store.Slot.TheVariants.{Dump}
use Rattle.kc_outside.specs.Files.{content}
use Rattle.kc_text.specs.Compose.{texts}
use Rattle.kc_sight.specs.Refs.Holding.{in_segment, in_segments, word_count}
use Rattle.kc_sight.specs.Refs.Stops.{Told}
use Rattle.kc_command.specs.Ends.Ends.{TookPrefix}
use Rattle.kc_refs.specs.Lines.{found_lines}
use Rattle.kc_refs.specs.Pace.{InPace, found_until}
use Rattle.kc_refs.specs.Parts.{words_from}
use Rattle.kc_refs.specs.Progress.{TookUntil, goal_of, lines_to, words_in}
use Rattle.kc_refs.specs.Put.{Wrote}
use Rattle.kc_refs.specs.Says.{Says}
use Rattle.kc_refs.specs.declared.stop.RefsStop.TheVariants.{Memory}
use Rattle.kc_refs.proofs.PaceLemmas.{found_none, found_on, found_whole, lines_on, pace_further, pace_whole}
use Rattle.kc_refs.proofs.PartLemmas.{all_segments, no_segments, segments_more}
use Rattle.kc_refs.proofs.ProgressLemmas.{says_after, says_begin, says_more, says_step, took_at, took_begin, words_all, words_next, words_within}
use Rattle.kc_refs.proofs.PutLemmas.{on_err_of, told_more, told_none, told_part, told_whole}
use Rattle.kc_refs.proofs.StoreLemmas.{stays_on, told_before}
use Rattle.kc_refs.proofs.put.put_words.Goals as goal

-- a segment that is none, for places beyond the last
abbrev no_segment : Segment
no_segment = record { paddr = 0; filesz = 0; memsz = 0; offset = 0 }

pub loop-segment-init : goal.loop-segment-init
loop-segment-init g c = record {
  stays = record { same_opened = refl; same_sizes = refl; same_files = refl; may_still = λ s n may. may; may_no_more = λ s n may. may; asked_later = omega arith };
  store_quiet = refl;
  sink_quiet = refl;
  progress_quiet = refl;
  untold = λ _. refl;
  aim = refl;
  read = λ _ _. refl;
  says = says_begin c.in_ok-goal.goal 0 (g.E.Sink.taken c.args.err.now);
  wrote = told_none (content (g.S.Store.files c.args.store.now) Dump (g.S.Store.opened c.args.store.now Dump)) c.args.search.now.keys.now (λ bytes. in_segments c.args.search.now.sought.now bytes []) (g.O.Sink.taken c.args.out.now) (λ bytes. no_segments c.args.search.now.sought.now bytes);
}

pub returns-in_err-more-clause-part : goal.returns-in_err-more-clause-part
returns-in_err-more-clause-part g c =
    let segments = c.args.segments.now in
    let sought = c.args.search.now.sought.now in
    let keys = c.args.search.now.keys.now in
    let i = c.loop-segment.segment-index in
    let s = get_or segments i no_segment in
    let mid = g.O.Sink.taken c.loop-segment.out in
    let new = g.O.Sink.taken c.put_segment.new.out in
    on_err_of c.from_residual-in_err-more.result
    (told_part (content (g.S.Store.files c.args.store.now) Dump (g.S.Store.opened c.args.store.now Dump)) keys (λ bytes. in_segments sought bytes (take i segments)) (λ bytes. in_segment sought bytes s)
    (λ bytes. in_segments sought bytes (drop (i + 1) segments)) (λ bytes. in_segments sought bytes segments) (g.O.Sink.taken c.args.out.now) mid new c.loop-segment.found
    (λ bytes. all_segments sought bytes segments i no_segment (grind (arith, common_steps))) c.loop-segment.invariant.wrote
    (told_before g.S.Store.opened g.S.Store.sizes g.S.Store.files g.S.Store.may g.S.Store.asked c.args.store.now c.loop-segment.store
    (λ bytes. TookPrefix mid new (texts (found_lines keys) (in_segment sought bytes s))) c.loop-segment.invariant.stays c.in_err-more.ensures.part))

pub returns-in_err-found-clause-part : goal.returns-in_err-found-clause-part
returns-in_err-found-clause-part g c =
    let segments = c.args.segments.now in
    let sought = c.args.search.now.sought.now in
    let keys = c.args.search.now.keys.now in
    let i = c.loop-segment.segment-index in
    let s = get_or segments i no_segment in
    let mid = g.O.Sink.taken c.loop-segment.out in
    let new = g.O.Sink.taken c.put_segment.new.out in
    let told = content (g.S.Store.files c.args.store.now) Dump (g.S.Store.opened c.args.store.now Dump) in
    on_err_of c.from_residual-in_err-found.result
    (told_part told keys (λ bytes. in_segments sought bytes (take i segments)) (λ bytes. in_segment sought bytes s)
    (λ bytes. in_segments sought bytes (drop (i + 1) segments)) (λ bytes. in_segments sought bytes segments) (g.O.Sink.taken c.args.out.now) mid new c.loop-segment.found
    (λ bytes. all_segments sought bytes segments i no_segment (grind (arith, common_steps))) c.loop-segment.invariant.wrote
    (told_whole told keys (λ bytes. in_segment sought bytes s) mid new c.in_ok-more.more
    (told_before g.S.Store.opened g.S.Store.sizes g.S.Store.files g.S.Store.may g.S.Store.asked c.args.store.now c.loop-segment.store
    (λ bytes. Wrote keys (in_segment sought bytes s) mid new c.in_ok-more.more) c.loop-segment.invariant.stays c.in_ok-more.ensures.wrote)))

pub returns-in_err-goal-clause-says : goal.returns-in_err-goal-clause-says
returns-in_err-goal-clause-says g c =
    let ended : c.from_residual.result ≡ Err Memory = search rules in
    rw ended (took_begin (goal_of c.args.search.now.progress c.args.segments.now) 0 (words_in c.args.segments.now) (g.E.Sink.taken c.args.err.now) (omega arith))

pub returns-in_err-more-clause-says : goal.returns-in_err-more-clause-says
returns-in_err-more-clause-says g c =
    let segments = c.args.segments.now in
    let i = c.loop-segment.segment-index in
    let s = get_or segments i no_segment in
    let now = g.E.Sink.taken c.loop-segment.err in
    let new = g.E.Sink.taken c.put_segment.new.err in
    let more = words_next segments i no_segment (grind (arith, common_steps)) in
    let ended : c.from_residual-in_err-more.result ≡ Err c.in_err-more.field-0.0 = search rules in
    rw ended
    (subst (λ (aim : Option ℕ). Says {A = ℕ} aim 0 (words_in segments) (Err c.in_err-more.field-0.0) (g.E.Sink.taken c.args.err.now) new) c.in_ok-goal.ensures.goal
    (says_after ℕ ℕ c.in_err-more.field-0.0 c.in_ok-goal.goal 0 (words_in (take i segments)) (words_in (take (i + 1) segments)) (words_in segments) (g.E.Sink.taken c.args.err.now) now new
    (omega arith) (omega (arith, more)) (words_within segments (i + 1)) c.loop-segment.invariant.says
    (says_step {A = ℕ} (Err c.in_err-more.field-0.0) c.loop-segment.course.goal c.in_ok-goal.goal c.loop-segment.course.read (word_count s) (words_in (take i segments)) (words_in (take (i + 1) segments)) now new
    c.loop-segment.invariant.aim c.loop-segment.invariant.read more c.in_err-more.ensures.says)))

pub returns-in_err-found-clause-says : goal.returns-in_err-found-clause-says
returns-in_err-found-clause-says g c =
    let segments = c.args.segments.now in
    let i = c.loop-segment.segment-index in
    let s = get_or segments i no_segment in
    let old = g.E.Sink.taken c.args.err.now in
    let now = g.E.Sink.taken c.loop-segment.err in
    let new = g.E.Sink.taken c.put_segment.new.err in
    let more = words_next segments i no_segment (grind (arith, common_steps)) in
    let ended : c.from_residual-in_err-found.result ≡ Err Memory = search rules in
    rw ended
    (subst (λ (aim : Option ℕ). TookUntil aim 0 (words_in segments) old new) c.in_ok-goal.ensures.goal
    (took_at c.in_ok-goal.goal 0 (words_in (take (i + 1) segments)) (words_in segments) old new (omega arith) (words_within segments (i + 1))
    (says_more c.in_ok-goal.goal 0 (words_in (take i segments)) (words_in (take (i + 1) segments)) old now new (omega arith) (omega (arith, more)) c.loop-segment.invariant.says
    (says_step (Ok c.in_ok-more.more) c.loop-segment.course.goal c.in_ok-goal.goal c.loop-segment.course.read (word_count s) (words_in (take i segments)) (words_in (take (i + 1) segments)) now new
    c.loop-segment.invariant.aim c.loop-segment.invariant.read more c.in_ok-more.ensures.says))))

pub returns-in_err-goal-clause-pace : goal.returns-in_err-goal-clause-pace
returns-in_err-goal-clause-pace g c =
    let segments = c.args.segments.now in
    let sought = c.args.search.now.sought.now in
    let keys = c.args.search.now.keys.now in
    let aim = goal_of c.args.search.now.progress segments in
    let told = content (g.S.Store.files c.args.store.now) Dump (g.S.Store.opened c.args.store.now Dump) in
    let out = g.O.Sink.taken c.args.out.now in
    let err = g.E.Sink.taken c.args.err.now in
    on_err_of c.from_residual.result
    (pace_whole told keys (λ bytes k. found_until sought bytes segments k) (λ k. lines_to aim 0 k) 0 (words_in segments) 0 out out err err (omega arith)
    (told_none told keys (λ bytes. found_until sought bytes segments 0) out (λ bytes. found_none sought bytes segments)) (says_begin aim 0 err))

pub returns-in_err-more-clause-pace : goal.returns-in_err-more-clause-pace
returns-in_err-more-clause-pace g c =
    let segments = c.args.segments.now in
    let sought = c.args.search.now.sought.now in
    let keys = c.args.search.now.keys.now in
    let i = c.loop-segment.segment-index in
    let s = get_or segments i no_segment in
    let before = words_in (take i segments) in
    let course = c.loop-segment.course in
    let told = content (g.S.Store.files c.args.store.now) Dump (g.S.Store.opened c.args.store.now Dump) in
    let old = g.O.Sink.taken c.args.out.now in
    let mid = g.O.Sink.taken c.loop-segment.out in
    let new = g.O.Sink.taken c.put_segment.new.out in
    let err_old = g.E.Sink.taken c.args.err.now in
    let err_mid = g.E.Sink.taken c.loop-segment.err in
    let err_new = g.E.Sink.taken c.put_segment.new.err in
    on_err_of c.from_residual-in_err-more.result
    (subst (λ (aim : Option ℕ). Told told (λ bytes. InPace (λ k. texts (found_lines keys) (found_until sought bytes segments k)) (λ k. lines_to aim 0 k) (words_in segments) old new err_old err_new)) c.in_ok-goal.ensures.goal
    (pace_further told keys (λ bytes. in_segments sought bytes (take i segments)) (λ bytes k. words_from sought bytes s 0 k) (λ bytes k. found_until sought bytes segments k)
    (lines_to c.in_ok-goal.goal 0 before) (λ k. lines_to course.goal course.read (course.read + k)) (λ k. lines_to c.in_ok-goal.goal 0 k) before (word_count s) (words_in segments) c.loop-segment.found
    old mid new err_old err_mid err_new (words_all segments i no_segment (grind (arith, common_steps)))
    (λ bytes k within. found_on sought bytes segments i no_segment k (grind (arith, common_steps)) within)
    (λ k. lines_on c.in_ok-goal.goal course.goal course.read before k c.loop-segment.invariant.aim c.loop-segment.invariant.read) c.loop-segment.invariant.wrote c.loop-segment.invariant.says
    (told_before g.S.Store.opened g.S.Store.sizes g.S.Store.files g.S.Store.may g.S.Store.asked c.args.store.now c.loop-segment.store
    (λ bytes. InPace (λ k. texts (found_lines keys) (words_from sought bytes s 0 k)) (λ k. lines_to course.goal course.read (course.read + k)) (word_count s) mid new err_mid err_new)
    c.loop-segment.invariant.stays c.in_err-more.ensures.pace)))

pub returns-in_err-found-clause-pace : goal.returns-in_err-found-clause-pace
returns-in_err-found-clause-pace g c =
    let segments = c.args.segments.now in
    let sought = c.args.search.now.sought.now in
    let keys = c.args.search.now.keys.now in
    let i = c.loop-segment.segment-index in
    let s = get_or segments i no_segment in
    let before = words_in (take i segments) in
    let count = word_count s in
    let sum = c.loop-segment.found + c.in_ok-more.more in
    let told = content (g.S.Store.files c.args.store.now) Dump (g.S.Store.opened c.args.store.now Dump) in
    let old = g.O.Sink.taken c.args.out.now in
    let mid = g.O.Sink.taken c.loop-segment.out in
    let new = g.O.Sink.taken c.put_segment.new.out in
    let err_old = g.E.Sink.taken c.args.err.now in
    let err_mid = g.E.Sink.taken c.loop-segment.err in
    let err_new = g.E.Sink.taken c.put_segment.new.err in
    on_err_of c.from_residual-in_err-found.result
    (subst (λ (aim : Option ℕ). Told told (λ bytes. InPace (λ k. texts (found_lines keys) (found_until sought bytes segments k)) (λ k. lines_to aim 0 k) (words_in segments) old new err_old err_new)) c.in_ok-goal.ensures.goal
    (pace_whole told keys (λ bytes k. found_until sought bytes segments k) (λ k. lines_to c.in_ok-goal.goal 0 k) (before + count) (words_in segments) sum
    old new err_old err_new (words_all segments i no_segment (grind (arith, common_steps)))
    (told_more told keys (λ bytes. in_segments sought bytes (take i segments)) (λ bytes. in_segment sought bytes s) (λ bytes. found_until sought bytes segments (before + count))
    old mid new c.loop-segment.found c.in_ok-more.more sum (λ bytes. found_whole sought bytes segments i no_segment (grind (arith, common_steps))) refl c.loop-segment.invariant.wrote
    (told_before g.S.Store.opened g.S.Store.sizes g.S.Store.files g.S.Store.may g.S.Store.asked c.args.store.now c.loop-segment.store
    (λ bytes. Wrote keys (in_segment sought bytes s) mid new c.in_ok-more.more) c.loop-segment.invariant.stays c.in_ok-more.ensures.wrote))
    (says_more c.in_ok-goal.goal 0 before (before + count) err_old err_mid err_new (omega arith) (omega arith) c.loop-segment.invariant.says
    (says_step (Ok c.in_ok-more.more) c.loop-segment.course.goal c.in_ok-goal.goal c.loop-segment.course.read count before (before + count) err_mid err_new
    c.loop-segment.invariant.aim c.loop-segment.invariant.read refl c.in_ok-more.ensures.says))))

pub loop-segment-preserved : goal.loop-segment-preserved
loop-segment-preserved g c =
    let segments = c.args.segments.now in
    let sought = c.args.search.now.sought.now in
    let keys = c.args.search.now.keys.now in
    let i = c.loop-segment.segment-index in
    let s = get_or segments i no_segment in
    let mid = g.O.Sink.taken c.loop-segment.out in
    let new = g.O.Sink.taken c.put_segment.new.out in
    record {
      stays = stays_on g.S.Store.opened g.S.Store.sizes g.S.Store.files g.S.Store.may g.S.Store.asked c.args.store.now c.loop-segment.store c.put_segment.new.store c.loop-segment.invariant.stays c.put_segment.ensures.stays;
      store_quiet = c.in_ok-more.ensures.store_counts ∙ c.loop-segment.invariant.store_quiet;
      sink_quiet = c.in_ok-more.ensures.sink_counts ∙ c.loop-segment.invariant.sink_quiet;
      progress_quiet = c.in_ok-more.ensures.progress_counts ∙ c.loop-segment.invariant.progress_quiet;
      untold = λ none. c.put_segment.ensures.untold (c.loop-segment.invariant.aim ∙ none) ∙ c.loop-segment.invariant.untold none;
      aim = c.after-course.ensures.goal ∙ c.loop-segment.invariant.aim;
      read = λ n there.
          (let counted = c.after-course.ensures.read n (c.loop-segment.invariant.aim ∙ there) in
          let before = c.loop-segment.invariant.read n there in
          let more = words_next segments i no_segment (grind (arith, common_steps)) in
          omega (arith, counted, before, more));
      says = says_more c.in_ok-goal.goal 0 (words_in (take i segments)) (words_in (take (i + 1) segments)) (g.E.Sink.taken c.args.err.now) (g.E.Sink.taken c.loop-segment.err) (g.E.Sink.taken c.put_segment.new.err)
          (omega arith) (let more = words_next segments i no_segment (grind (arith, common_steps)) in omega (arith, more)) c.loop-segment.invariant.says
          (says_step (Ok c.in_ok-more.more) c.loop-segment.course.goal c.in_ok-goal.goal c.loop-segment.course.read (word_count s) (words_in (take i segments)) (words_in (take (i + 1) segments))
          (g.E.Sink.taken c.loop-segment.err) (g.E.Sink.taken c.put_segment.new.err) c.loop-segment.invariant.aim c.loop-segment.invariant.read (words_next segments i no_segment (grind (arith, common_steps))) c.in_ok-more.ensures.says);
      wrote = told_more (content (g.S.Store.files c.args.store.now) Dump (g.S.Store.opened c.args.store.now Dump)) keys (λ bytes. in_segments sought bytes (take i segments)) (λ bytes. in_segment sought bytes s)
          (λ bytes. in_segments sought bytes (take (i + 1) segments)) (g.O.Sink.taken c.args.out.now) mid new c.loop-segment.found c.in_ok-more.more c.in_ok-found.found
          (λ bytes. segments_more sought bytes segments i no_segment (grind (arith, common_steps))) c.in_ok-found.ensures.ok c.loop-segment.invariant.wrote
          (told_before g.S.Store.opened g.S.Store.sizes g.S.Store.files g.S.Store.may g.S.Store.asked c.args.store.now c.loop-segment.store
          (λ bytes. Wrote keys (in_segment sought bytes s) mid new c.in_ok-more.more) c.loop-segment.invariant.stays c.in_ok-more.ensures.wrote);
    }

pub put_segment-requires-clause-counted : goal.put_segment-requires-clause-counted
put_segment-requires-clause-counted g c = λ n there.
    (let segments = c.args.segments.now in
    let i = c.loop-segment.segment-index in
    let aim = sym c.loop-segment.invariant.aim ∙ there in
    let read = c.loop-segment.invariant.read n aim in
    let few = c.in_ok-goal.ensures.counted n aim in
    let all = words_all segments i no_segment (grind (arith, common_steps)) in
    omega (arith, read, few, all))

pub after-course-requires : goal.after-course-requires
after-course-requires g c = record {
  counted = λ n there.
      (let segments = c.args.segments.now in
      let i = c.loop-segment.segment-index in
      let aim = sym c.loop-segment.invariant.aim ∙ there in
      let read = c.loop-segment.invariant.read n aim in
      let few = c.in_ok-goal.ensures.counted n aim in
      let all = words_all segments i no_segment (grind (arith, common_steps)) in
      let count : c.word_count.result ≡ word_count (get_or segments i no_segment) = search rules in
      omega (arith, read, few, all, count));
}
