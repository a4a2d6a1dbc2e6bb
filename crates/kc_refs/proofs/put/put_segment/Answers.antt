use Rattle.std.proofs.Common.{◌≡◌, ℕ, ◌+◌, ◌-◌, ◌∙◌, Ok, Err, refl, rules, arith}
use Rattle.std.proofs.lemmas.Grind.{common_steps}
use Rattle.kc_outside.specs.declared.store.Slot.TheVariants.{Dump}
use Rattle.kc_outside.specs.Files.{content}
use Rattle.kc_text.specs.Compose.{texts}
use Rattle.kc_sight.specs.Refs.Holding.{in_segment, word_count}
use Rattle.kc_command.specs.Ends.Ends.{TookPrefix}
use Rattle.kc_refs.specs.Lines.{found_lines}
use Rattle.kc_refs.specs.Parts.{words_from}
use Rattle.kc_refs.specs.Progress.{lines_to}
use Rattle.kc_refs.specs.Put.{Wrote}
use Rattle.kc_refs.specs.declared.stop.RefsStop.TheVariants.{Memory}
use Rattle.kc_refs.proofs.PaceLemmas.{pace_part, pace_whole, says_prefix}
use Rattle.kc_refs.proofs.PartLemmas.{part_count, segment_parts, words_more}
use Rattle.kc_refs.proofs.ProgressLemmas.{said_joined, says_after, says_more, says_step, took_at}
use Rattle.kc_refs.proofs.PutLemmas.{on_err_of, told_more, told_part, told_whole}
use Rattle.kc_refs.proofs.StoreLemmas.{stays_on, told_before}
use Rattle.kc_refs.proofs.put.put_segment.Goals as goal

pub returns-in_err-more-clause-part : goal.returns-in_err-more-clause-part
returns-in_err-more-clause-part g c =
    let segment = c.args.segment.now in
    let sought = c.args.search.now.sought.now in
    let keys = c.args.search.now.keys.now in
    let first = c.loop-first.first in
    let count = c.min-count.result in
    let p = c.part-part.result in
    let mid = g.O.Sink.taken c.loop-first.out in
    let new = g.O.Sink.taken c.put_part.new.out in
    on_err_of c.from_residual.result
    (told_part (content (g.S.Store.files c.args.store.now) Dump (g.S.Store.opened c.args.store.now Dump)) keys (λ bytes. words_from sought bytes segment 0 first) (λ bytes. in_segment sought bytes p)
    (λ bytes. words_from sought bytes segment (first + count) (word_count segment - (first + count))) (λ bytes. in_segment sought bytes segment) (g.O.Sink.taken c.args.out.now) mid new c.loop-first.found
    (λ bytes. segment_parts sought bytes segment p first count c.part-part.ensures (grind (arith, common_steps))) c.loop-first.invariant.wrote
    (told_before g.S.Store.opened g.S.Store.sizes g.S.Store.files g.S.Store.may g.S.Store.asked c.args.store.now c.loop-first.store
    (λ bytes. TookPrefix mid new (texts (found_lines keys) (in_segment sought bytes p))) c.loop-first.invariant.stays c.in_err-more.ensures.part))

pub returns-in_err-found-clause-part : goal.returns-in_err-found-clause-part
returns-in_err-found-clause-part g c =
    let segment = c.args.segment.now in
    let sought = c.args.search.now.sought.now in
    let keys = c.args.search.now.keys.now in
    let first = c.loop-first.first in
    let count = c.min-count.result in
    let p = c.part-part.result in
    let mid = g.O.Sink.taken c.loop-first.out in
    let new = g.O.Sink.taken c.put_part.new.out in
    let told = content (g.S.Store.files c.args.store.now) Dump (g.S.Store.opened c.args.store.now Dump) in
    on_err_of c.from_residual-in_err-found.result
    (told_part told keys (λ bytes. words_from sought bytes segment 0 first) (λ bytes. in_segment sought bytes p)
    (λ bytes. words_from sought bytes segment (first + count) (word_count segment - (first + count))) (λ bytes. in_segment sought bytes segment) (g.O.Sink.taken c.args.out.now) mid new c.loop-first.found
    (λ bytes. segment_parts sought bytes segment p first count c.part-part.ensures (grind (arith, common_steps))) c.loop-first.invariant.wrote
    (told_whole told keys (λ bytes. in_segment sought bytes p) mid new c.in_ok-more.more
    (told_before g.S.Store.opened g.S.Store.sizes g.S.Store.files g.S.Store.may g.S.Store.asked c.args.store.now c.loop-first.store
    (λ bytes. Wrote keys (in_segment sought bytes p) mid new c.in_ok-more.more) c.loop-first.invariant.stays c.in_ok-more.ensures.wrote)))

pub returns-in_err-more-clause-says : goal.returns-in_err-more-clause-says
returns-in_err-more-clause-says g c =
    let segment = c.args.segment.now in
    let from = c.args.course.read in
    let first = c.loop-first.first in
    let count = c.min-count.result in
    let p = c.part-part.result in
    let now = g.E.Sink.taken c.loop-first.err in
    let new = g.E.Sink.taken c.put_part.new.err in
    let ended : c.from_residual.result ≡ Err c.in_err-more.field-0.0 = search rules in
    rw ended
    (says_after ℕ ℕ c.in_err-more.field-0.0 c.args.course.goal from (from + first) (from + (first + count)) (from + word_count segment) (g.E.Sink.taken c.args.err.now) now new
    (omega arith) (omega arith) (grind (arith, common_steps)) c.loop-first.invariant.says
    (says_step {A = ℕ} (Err c.in_err-more.field-0.0) c.after-course.result.goal c.args.course.goal c.after-course.result.read (word_count p) (from + first) (from + (first + count)) now new
    c.after-course.ensures.goal c.after-course.ensures.read (let counted = part_count segment p first count c.part-part.ensures in omega (arith, counted)) c.in_err-more.ensures.says))

pub returns-in_err-found-clause-says : goal.returns-in_err-found-clause-says
returns-in_err-found-clause-says g c =
    let segment = c.args.segment.now in
    let from = c.args.course.read in
    let first = c.loop-first.first in
    let count = c.min-count.result in
    let p = c.part-part.result in
    let old = g.E.Sink.taken c.args.err.now in
    let now = g.E.Sink.taken c.loop-first.err in
    let new = g.E.Sink.taken c.put_part.new.err in
    let ended : c.from_residual-in_err-found.result ≡ Err Memory = search rules in
    rw ended
    (took_at c.args.course.goal from (from + (first + count)) (from + word_count segment) old new (omega arith) (grind (arith, common_steps))
    (says_more c.args.course.goal from (from + first) (from + (first + count)) old now new (omega arith) (omega arith) c.loop-first.invariant.says
    (says_step (Ok c.in_ok-more.more) c.after-course.result.goal c.args.course.goal c.after-course.result.read (word_count p) (from + first) (from + (first + count)) now new
    c.after-course.ensures.goal c.after-course.ensures.read (let counted = part_count segment p first count c.part-part.ensures in omega (arith, counted)) c.in_ok-more.ensures.says)))

pub returns-in_err-more-clause-pace : goal.returns-in_err-more-clause-pace
returns-in_err-more-clause-pace g c =
    let segment = c.args.segment.now in
    let sought = c.args.search.now.sought.now in
    let keys = c.args.search.now.keys.now in
    let aim = c.args.course.goal in
    let from = c.args.course.read in
    let first = c.loop-first.first in
    let count = c.min-count.result in
    let p = c.part-part.result in
    let mid = g.O.Sink.taken c.loop-first.out in
    let new = g.O.Sink.taken c.put_part.new.out in
    let err_mid = g.E.Sink.taken c.loop-first.err in
    let err_new = g.E.Sink.taken c.put_part.new.err in
    on_err_of c.from_residual.result
    (pace_part (content (g.S.Store.files c.args.store.now) Dump (g.S.Store.opened c.args.store.now Dump)) keys (λ bytes k. words_from sought bytes segment 0 k) (λ bytes. in_segment sought bytes p)
    (λ k. lines_to aim from (from + k)) (lines_to aim (from + first) (from + (first + count))) first (first + count) (word_count segment) c.loop-first.found
    (g.O.Sink.taken c.args.out.now) mid new (g.E.Sink.taken c.args.err.now) err_mid err_new (omega arith) (grind (arith, common_steps)) (grind (arith, common_steps))
    (λ bytes. words_more sought bytes segment p first count c.part-part.ensures) (said_joined aim from (from + first) (from + (first + count)) (omega arith) (omega arith)) c.loop-first.invariant.wrote
    (told_before g.S.Store.opened g.S.Store.sizes g.S.Store.files g.S.Store.may g.S.Store.asked c.args.store.now c.loop-first.store
    (λ bytes. TookPrefix mid new (texts (found_lines keys) (in_segment sought bytes p))) c.loop-first.invariant.stays c.in_err-more.ensures.part)
    c.loop-first.invariant.says
    (says_prefix ℕ c.in_err-more.field-0.0 aim (from + first) (from + (first + count)) err_mid err_new
    (says_step {A = ℕ} (Err c.in_err-more.field-0.0) c.after-course.result.goal aim c.after-course.result.read (word_count p) (from + first) (from + (first + count)) err_mid err_new
    c.after-course.ensures.goal c.after-course.ensures.read (let counted = part_count segment p first count c.part-part.ensures in omega (arith, counted)) c.in_err-more.ensures.says)))

pub returns-in_err-found-clause-pace : goal.returns-in_err-found-clause-pace
returns-in_err-found-clause-pace g c =
    let segment = c.args.segment.now in
    let sought = c.args.search.now.sought.now in
    let keys = c.args.search.now.keys.now in
    let aim = c.args.course.goal in
    let from = c.args.course.read in
    let first = c.loop-first.first in
    let count = c.min-count.result in
    let p = c.part-part.result in
    let mid = g.O.Sink.taken c.loop-first.out in
    let new = g.O.Sink.taken c.put_part.new.out in
    let err_mid = g.E.Sink.taken c.loop-first.err in
    let err_new = g.E.Sink.taken c.put_part.new.err in
    let told = content (g.S.Store.files c.args.store.now) Dump (g.S.Store.opened c.args.store.now Dump) in
    on_err_of c.from_residual-in_err-found.result
    (pace_whole told keys (λ bytes k. words_from sought bytes segment 0 k) (λ k. lines_to aim from (from + k)) (first + count) (word_count segment) (c.loop-first.found + c.in_ok-more.more)
    (g.O.Sink.taken c.args.out.now) new (g.E.Sink.taken c.args.err.now) err_new (grind (arith, common_steps))
    (told_more told keys (λ bytes. words_from sought bytes segment 0 first) (λ bytes. in_segment sought bytes p) (λ bytes. words_from sought bytes segment 0 (first + count))
    (g.O.Sink.taken c.args.out.now) mid new c.loop-first.found c.in_ok-more.more (c.loop-first.found + c.in_ok-more.more)
    (λ bytes. words_more sought bytes segment p first count c.part-part.ensures) refl c.loop-first.invariant.wrote
    (told_before g.S.Store.opened g.S.Store.sizes g.S.Store.files g.S.Store.may g.S.Store.asked c.args.store.now c.loop-first.store
    (λ bytes. Wrote keys (in_segment sought bytes p) mid new c.in_ok-more.more) c.loop-first.invariant.stays c.in_ok-more.ensures.wrote))
    (says_more aim from (from + first) (from + (first + count)) (g.E.Sink.taken c.args.err.now) err_mid err_new (omega arith) (omega arith) c.loop-first.invariant.says
    (says_step (Ok c.in_ok-more.more) c.after-course.result.goal aim c.after-course.result.read (word_count p) (from + first) (from + (first + count)) err_mid err_new
    c.after-course.ensures.goal c.after-course.ensures.read (let counted = part_count segment p first count c.part-part.ensures in omega (arith, counted)) c.in_ok-more.ensures.says)))

pub loop-first-preserved : goal.loop-first-preserved
loop-first-preserved g c =
    let segment = c.args.segment.now in
    let sought = c.args.search.now.sought.now in
    let keys = c.args.search.now.keys.now in
    let first = c.loop-first.first in
    let count = c.min-count.result in
    let p = c.part-part.result in
    let mid = g.O.Sink.taken c.loop-first.out in
    let new = g.O.Sink.taken c.put_part.new.out in
    record {
      within = grind (arith, common_steps);
      stays = stays_on g.S.Store.opened g.S.Store.sizes g.S.Store.files g.S.Store.may g.S.Store.asked c.args.store.now c.loop-first.store c.put_part.new.store c.loop-first.invariant.stays c.put_part.ensures.stays;
      store_quiet = c.in_ok-more.ensures.store_counts ∙ c.loop-first.invariant.store_quiet;
      sink_quiet = c.in_ok-more.ensures.sink_counts ∙ c.loop-first.invariant.sink_quiet;
      progress_quiet = c.in_ok-more.ensures.progress_counts ∙ c.loop-first.invariant.progress_quiet;
      untold = λ none. c.put_part.ensures.untold (c.after-course.ensures.goal ∙ none) ∙ c.loop-first.invariant.untold none;
      says = says_more c.args.course.goal c.args.course.read (c.args.course.read + first) (c.args.course.read + (first + count)) (g.E.Sink.taken c.args.err.now) (g.E.Sink.taken c.loop-first.err) (g.E.Sink.taken c.put_part.new.err)
          (omega arith) (omega arith) c.loop-first.invariant.says
          (says_step (Ok c.in_ok-more.more) c.after-course.result.goal c.args.course.goal c.after-course.result.read (word_count p) (c.args.course.read + first) (c.args.course.read + (first + count))
          (g.E.Sink.taken c.loop-first.err) (g.E.Sink.taken c.put_part.new.err) c.after-course.ensures.goal c.after-course.ensures.read
          (let counted = part_count segment p first count c.part-part.ensures in omega (arith, counted)) c.in_ok-more.ensures.says);
      wrote = told_more (content (g.S.Store.files c.args.store.now) Dump (g.S.Store.opened c.args.store.now Dump)) keys (λ bytes. words_from sought bytes segment 0 first) (λ bytes. in_segment sought bytes p)
          (λ bytes. words_from sought bytes segment 0 (first + count)) (g.O.Sink.taken c.args.out.now) mid new c.loop-first.found c.in_ok-more.more c.in_ok-found.found
          (λ bytes. words_more sought bytes segment p first count c.part-part.ensures) c.in_ok-found.ensures.ok c.loop-first.invariant.wrote
          (told_before g.S.Store.opened g.S.Store.sizes g.S.Store.files g.S.Store.may g.S.Store.asked c.args.store.now c.loop-first.store
          (λ bytes. Wrote keys (in_segment sought bytes p) mid new c.in_ok-more.more) c.loop-first.invariant.stays c.in_ok-more.ensures.wrote);
    }
