use Rattle.std.proofs.Common.{◌≡◌, None, take}
use Rattle.std.specs.Option.{ForSome}
use Rattle.kc_outside.specs.declared.store.Slot.TheVariants.{Dump}
use Rattle.kc_outside.specs.Files.{content}
use Rattle.kc_outside.specs.Texts.{with_piece}
use Rattle.kc_elf.specs.Stays.{StoreStays}
use Rattle.kc_sight.specs.Refs.Holding.{in_segments}
use Rattle.kc_sight.specs.Refs.Stops.{Told}
use Rattle.kc_refs.specs.Progress.{lines_to, words_in}
use Rattle.kc_refs.specs.Put.{Wrote}
use Rattle.kc_refs.proofs.put.put_words.Given as goal

-- the store and the sinks as they were, but for their calls; and what was written and said of the segments so far
abbrev pub invariant-loop-segment : goal.invariant-loop-segment
invariant-loop-segment g l = record {
  stays : StoreStays g.S.Store.opened g.S.Store.sizes g.S.Store.files g.S.Store.may g.S.Store.asked l.initial.store l.store;
  store_quiet : g.S.Store.faults l.store ≡ g.S.Store.faults l.initial.store;
  sink_quiet : g.O.Sink.faults l.out ≡ g.O.Sink.faults l.initial.out;
  progress_quiet : g.E.Sink.faults l.err ≡ g.E.Sink.faults l.initial.err;
  untold : l.initial.course.goal ≡ None → l.err ≡ l.initial.err;
  aim : l.course.goal ≡ l.initial.course.goal;
  read : ForSome l.initial.course.goal (λ _. l.course.read ≡ words_in (take l.segment-index l.segments));
  says : g.E.Sink.taken l.err ≡ with_piece (g.E.Sink.taken l.initial.err) (lines_to l.initial.course.goal 0 (words_in (take l.segment-index l.segments)));
  wrote : Told (content (g.S.Store.files l.initial.store) Dump (g.S.Store.opened l.initial.store Dump)) (λ bytes.
      Wrote l.search.keys.now (in_segments l.search.sought.now bytes (take l.segment-index l.segments)) (g.O.Sink.taken l.initial.out) (g.O.Sink.taken l.out) l.found);
}
