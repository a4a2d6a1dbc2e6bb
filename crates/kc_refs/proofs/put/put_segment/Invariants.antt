use Rattle.std.proofs.Common.{◌≡◌, ◌+◌, ◌≤◌, ◌-◌, None}
use Rattle.kc_outside.specs.declared.store.Slot.TheVariants.{Dump}
use Rattle.kc_outside.specs.Files.{content}
use Rattle.kc_outside.specs.Texts.{with_piece}
use Rattle.kc_elf.specs.Stays.{StoreStays}
use Rattle.kc_sight.specs.Refs.Stops.{Told}
use Rattle.kc_refs.specs.Parts.{words_from}
use Rattle.kc_refs.specs.Progress.{lines_to}
use Rattle.kc_refs.specs.Put.{Wrote}
use Rattle.kc_refs.proofs.put.put_segment.Given as goal

-- the store and the sinks as they were, but for their calls; and what was written and said of the words so far
abbrev pub invariant-loop-first : goal.invariant-loop-first
invariant-loop-first g l = record {
  within : l.first ≤ l.words;
  stays : StoreStays g.S.Store.opened g.S.Store.sizes g.S.Store.files g.S.Store.may g.S.Store.asked l.initial.store l.store;
  store_quiet : g.S.Store.faults l.store ≡ g.S.Store.faults l.initial.store;
  sink_quiet : g.O.Sink.faults l.out ≡ g.O.Sink.faults l.initial.out;
  progress_quiet : g.E.Sink.faults l.err ≡ g.E.Sink.faults l.initial.err;
  untold : l.course.goal ≡ None → l.err ≡ l.initial.err;
  says : g.E.Sink.taken l.err ≡ with_piece (g.E.Sink.taken l.initial.err) (lines_to l.course.goal l.course.read (l.course.read + l.first));
  wrote : Told (content (g.S.Store.files l.initial.store) Dump (g.S.Store.opened l.initial.store Dump)) (λ bytes.
      Wrote l.search.keys.now (words_from l.search.sought.now bytes l.segment 0 l.first) (g.O.Sink.taken l.initial.out) (g.O.Sink.taken l.out) l.found);
}

abbrev pub decreases-loop-first : goal.decreases-loop-first
decreases-loop-first g l = l.words - l.first
