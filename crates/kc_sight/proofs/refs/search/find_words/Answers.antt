use Rattle.std.proofs.Common.{◌≡◌, ◌+◌, ◌≤◌, ◌++◌, ℕ, List, Option, Some, length, get_or, refl, sym, ap, ◌∙◌, arith}
use Rattle.std.proofs.lemmas.Grind.{common_steps}
use Rattle.std.proofs.lemmas.List.{drop_more}
use Rattle.std.proofs.lemmas.List.Elements.{All-get_or}
use Rattle.kc_word.specs.declared.plain.Segment.{Segment}
use Rattle.kc_outside.specs.declared.store.Slot.{Slot}
use Rattle.kc_outside.specs.declared.store.Slot.TheVariants.{Dump}
use Rattle.kc_sight.specs.Refs.Holding.{IsInside, in_segment}
use Rattle.kc_sight.proofs.RefsLemmas.BlockLemmas.{told_all, told_next, told_none}
use Rattle.kc_sight.proofs.RefsLemmas.StoreLemmas.{stays_on, told_before}
use Rattle.kc_sight.proofs.refs.search.find_words.Goals as goal

-- a segment that is none, for places beyond the last
abbrev no_segment : Segment
no_segment = record { paddr = 0; filesz = 0; memsz = 0; offset = 0 }

pub loop-segment-init : goal.loop-segment-init
loop-segment-init g c = record {
  length = grind (arith, common_steps);
  found = told_none _ c.args.sought.now c.args.segments.now c.new-found.result.items (grind (arith, common_steps));
  stays = record { same_opened = refl; same_sizes = refl; same_files = refl; may_still = λ s n may. may; may_no_more = λ s n may. may; asked_later = omega arith };
  quiet = refl;
}

pub search_segment-requires-clause-within : goal.search_segment-requires-clause-within
search_segment-requires-clause-within g c = λ size is.
    All-get_or (IsInside size) c.args.segments.now c.loop-segment.segment-index no_segment (grind (arith, common_steps))
    (c.requires.within size (ap (λ (sizes : Slot → Option ℕ). sizes Dump) (sym c.loop-segment.invariant.stays.same_sizes) ∙ is))

pub returns-in_err-search_segment-clause-stays : goal.returns-in_err-search_segment-clause-stays
returns-in_err-search_segment-clause-stays g c = stays_on g.S.Store.opened g.S.Store.sizes g.S.Store.files g.S.Store.may g.S.Store.asked c.args.store.now c.loop-segment.store c.search_segment.new.store c.loop-segment.invariant.stays c.search_segment.ensures.stays

pub loop-segment-preserved : goal.loop-segment-preserved
loop-segment-preserved g c =
    let segment = get_or c.args.segments.now c.loop-segment.segment-index no_segment in
    let more = told_before g.S.Store.opened g.S.Store.sizes g.S.Store.files g.S.Store.may g.S.Store.asked c.args.store.now c.loop-segment.store
    (λ bytes. c.search_segment.new.found.items ≡ c.loop-segment.found.items ++ in_segment c.args.sought.now bytes segment)
    c.loop-segment.invariant.stays c.in_ok-search_segment.ensures.found in
    record {
      length = c.loop-segment.invariant.length;
      found = told_next _ c.args.sought.now c.loop-segment.segment-index c.args.segments.now segment c.loop-segment.found.items c.search_segment.new.found.items
          (drop_more c.args.segments.now c.loop-segment.segment-index no_segment (grind (arith, common_steps))) c.loop-segment.invariant.found more;
      stays = stays_on g.S.Store.opened g.S.Store.sizes g.S.Store.files g.S.Store.may g.S.Store.asked c.args.store.now c.loop-segment.store c.search_segment.new.store c.loop-segment.invariant.stays c.search_segment.ensures.stays;
      quiet = c.in_ok-search_segment.ensures.cause ∙ c.loop-segment.invariant.quiet;
    }

pub returns-clause-found : goal.returns-clause-found
returns-clause-found g c = told_all _ c.args.sought.now c.loop-segment.segment-index c.args.segments.now c.loop-segment.found.items (grind (arith, common_steps)) c.loop-segment.invariant.found
