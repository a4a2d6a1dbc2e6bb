use Rattle.std.proofs.Common.{◌≡◌, ◌∙◌, ap, ◌-◌, length, take, drop, arith}
use Rattle.std.proofs.lemmas.List.{take_rest, length-drop}
use Rattle.kc_refs.proofs.Pieces.{piece_more}
use Rattle.kc_refs.proofs.sink.put_all.Goals as goal

pub loop-at-preserved : goal.loop-at-preserved
loop-at-preserved g c =
    let text = c.args.text.now in
    let piece : length (take (length text - c.loop-at.at) (drop c.loop-at.at text)) ≡ length text - c.loop-at.at = ap length (take_rest text c.loop-at.at) ∙ length-drop c.loop-at.at text in
    record {
      within = omega (arith, c.in_ok-at.ensures.within);
      took = piece_more (g.K.Sink.taken c.args.sink.now) (g.K.Sink.taken c.loop-at.sink) (g.K.Sink.taken c.put.new.self) text c.loop-at.at c.in_ok-at.field-0 c.loop-at.invariant.took c.in_ok-at.ensures.taken;
      quiet = c.in_ok-at.ensures.quiet ∙ c.loop-at.invariant.quiet;
    }
