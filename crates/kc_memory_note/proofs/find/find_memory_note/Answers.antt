use Rattle.std.proofs.Common.{◌≡◌, ◌∙◌, ◌+◌, List, None, option_map, ℕ, rules, arith, drop, get_or}
use Rattle.std.proofs.lemmas.Grind.{common_steps}
use Rattle.std.proofs.lemmas.List.{drop_more}
use Rattle.kc_word.specs.declared.plain.Segment.{Segment}
use Rattle.std.specs.Global.{Vec}
use Rattle.kc_outside.specs.declared.store.Slot.TheVariants.{Dump}
use Rattle.kc_outside.specs.Files.{content}
use Rattle.kc_memory_note.specs.Notes.{segment_note}
use Rattle.kc_memory_note.proofs.NoteLemmas.{no_text, segment_found, segment_passed, segments_ended, some_text, stays_on, told_before}
use Rattle.kc_memory_note.proofs.find.find_memory_note.Goals as goal

-- a segment that is none, for places beyond the last
abbrev no_segment : Segment
no_segment = record { paddr = 0; filesz = 0; memsz = 0; offset = 0 }

pub returns-in-Some-clause-text : goal.returns-in-Some-clause-text
returns-in-Some-clause-text g c =
    let bytes = content (g.S.Store.files c.args.store.now) Dump (g.S.Store.opened c.args.store.now Dump) in
    let segment = get_or c.args.segments.now c.loop-segment.segment-index no_segment in
    let here = drop_more c.args.segments.now c.loop-segment.segment-index no_segment (grind (arith, common_steps)) in
    let read = told_before g.S.Store.opened g.S.Store.sizes g.S.Store.files g.S.Store.may g.S.Store.asked c.args.store.now c.loop-segment.store
    (λ (b : List ℕ). option_map (λ (v : Vec ℕ). v.items) c.in_ok-text.field-0 ≡ segment_note b segment) c.loop-segment.invariant.stays c.in_ok-text.ensures.text in
    segment_found bytes c.args.segments.now (drop c.loop-segment.segment-index c.args.segments.now) (drop (c.loop-segment.segment-index + 1) c.args.segments.now) segment c.in-Some.text.items here c.loop-segment.invariant.left
    (some_text bytes (λ (d : List ℕ). segment_note d segment) c.in_ok-text.field-0 c.in-Some.text (search rules) read)

pub loop-segment-preserved : goal.loop-segment-preserved
loop-segment-preserved g c =
    let bytes = content (g.S.Store.files c.args.store.now) Dump (g.S.Store.opened c.args.store.now Dump) in
    let segment = get_or c.args.segments.now c.loop-segment.segment-index no_segment in
    let here = drop_more c.args.segments.now c.loop-segment.segment-index no_segment (grind (arith, common_steps)) in
    let none : c.in_ok-text.field-0 ≡ None = search rules in
    let read = told_before g.S.Store.opened g.S.Store.sizes g.S.Store.files g.S.Store.may g.S.Store.asked c.args.store.now c.loop-segment.store
    (λ (b : List ℕ). option_map (λ (v : Vec ℕ). v.items) c.in_ok-text.field-0 ≡ segment_note b segment) c.loop-segment.invariant.stays c.in_ok-text.ensures.text in
    record {
      left = segment_passed bytes c.args.segments.now (drop c.loop-segment.segment-index c.args.segments.now) (drop (c.loop-segment.segment-index + 1) c.args.segments.now) segment here c.loop-segment.invariant.left
          (no_text bytes (λ (d : List ℕ). segment_note d segment) c.in_ok-text.field-0 none read);
      stays = stays_on g.S.Store.opened g.S.Store.sizes g.S.Store.files g.S.Store.may g.S.Store.asked c.args.store.now c.loop-segment.store c.read_segment.new.store c.loop-segment.invariant.stays c.read_segment.ensures.stays;
      quiet = c.in_ok-text.ensures.cause ∙ c.loop-segment.invariant.quiet;
    }

pub returns-clause-text : goal.returns-clause-text
returns-clause-text g c = segments_ended _ c.args.segments.now c.loop-segment.segment-index (grind (arith, common_steps)) c.loop-segment.invariant.left
