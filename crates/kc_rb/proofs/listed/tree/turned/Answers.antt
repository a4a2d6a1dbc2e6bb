use Rattle.std.proofs.Common.{rules, sym, ◌∙◌}
use Rattle.std.proofs.lemmas.List.{nil_from_length}
use Rattle.kc_rb.proofs.ListedLemmas.Pacing.{turns_down, turns_out, turns_up}
use Rattle.kc_rb.proofs.listed.tree.turned.Goals as goal

pub loop-i-preserved-then-number-ne0 : goal.loop-i-preserved-then-number-ne0
loop-i-preserved-then-number-ne0 c =
    turns_down c.args.numbers.now c.loop-i.nodes c.loop-i.above.items c.push.new.self.items c.loop-i.i c.get-number.result.now c.get-number.ensures (search rules) c.in_ok-push.ensures.items c.loop-i.invariant

pub returns-in-None : goal.returns-in-None
returns-in-None c =
    turns_out c.args.numbers.now c.loop-i.nodes c.loop-i.above.items c.loop-i.i c.get-number.result.now c.get-number.ensures (search rules) (nil_from_length _ (sym c.loop-i.above.ok.0 ∙ c.in-None.ensures.cases.0)) c.loop-i.invariant

pub loop-i-preserved : goal.loop-i-preserved
loop-i-preserved c =
    turns_up c.args.numbers.now c.loop-i.nodes c.push-in-loop-i.new.self c.loop-i.above.items c.pop.new.self.items c.loop-i.i c.get-number.result.now c.in-Some.node c.get-number.ensures (search rules) c.in-Some.ensures.items c.in_ok-push-2.ensures.added c.loop-i.invariant
