use Rattle.std.proofs.Common.{rules, arith, refl, sym, ap, ◌∙◌, length, ◌≡◌, Err}
use Rattle.std.proofs.lemmas.List.{nil_from_length}
use Rattle.kc_memory.specs.Stays.{stays_on}
use Rattle.kc_rb.proofs.ListedLemmas.Collecting.{begins, collected, left_halts, longer, nodes_on, nulls_on, right_halts, too_many}
use Rattle.kc_rb.proofs.listed.gather.collect.Goals as goal

pub loop-i-init : goal.loop-i-init
loop-i-init g c = (
  begins (g.S.Space.image c.args.space.now) c.args.shape.now c.args.root c.new-numbers.result c.push.new.self.items c.new-numbers.ensures (search rules),
  record { same_image = refl; same_files = refl; same_through = refl; same_most = refl },
  refl,
  ap length c.new-numbers.ensures,
)

pub returns-in-None-clause-numbers : goal.returns-in-None-clause-numbers
returns-in-None-clause-numbers g c =
    collected (g.S.Space.image c.args.space.now) c.args.shape.now c.args.root c.args.limit c.loop-i.numbers c.loop-i.pending.items (nil_from_length _ (sym c.loop-i.pending.ok.0 ∙ c.in-None.ensures.cases.0)) c.loop-i.invariant.0

pub loop-i-preserved-then-node-eq0 : goal.loop-i-preserved-then-node-eq0
loop-i-preserved-then-node-eq0 g c = (
  nulls_on (g.S.Space.image c.args.space.now) c.args.shape.now c.args.root c.in-Some.node c.loop-i.numbers c.push-in-loop-i.new.self c.loop-i.pending.items c.pop.new.self.items c.in-Some.ensures.items (search rules) c.in-Ok-push.ensures.added c.loop-i.invariant.0,
  c.loop-i.invariant.1,
  c.loop-i.invariant.2,
  longer c.loop-i.numbers c.push-in-loop-i.new.self c.in-Some.node c.loop-i.i c.in-Ok-push.ensures.added c.loop-i.invariant.3,
)

pub returns-in_err-right-clause-numbers : goal.returns-in_err-right-clause-numbers
returns-in_err-right-clause-numbers g c =
    let ended : c.from_residual.result ≡ Err c.in_err-right.field-0.0 = search rules in
    rw ended (right_halts (g.S.Space.image c.args.space.now) c.args.shape.now c.args.root c.args.limit c.in-Some.node c.loop-i.numbers c.loop-i.pending.items c.pop.new.self.items c.in_err-right.field-0.0 c.in-Some.ensures.items (search rules) (rw c.loop-i.invariant.1.same_image at c.in_err-right.ensures.reads) c.loop-i.invariant.0)

pub returns-in_err-left-clause-numbers : goal.returns-in_err-left-clause-numbers
returns-in_err-left-clause-numbers g c =
    let ended : c.from_residual-in_err-left.result ≡ Err c.in_err-left.field-0.0 = search rules in
    rw ended (left_halts (g.S.Space.image c.args.space.now) c.args.shape.now c.args.root c.args.limit c.in-Some.node c.loop-i.numbers c.loop-i.pending.items c.pop.new.self.items c.in_err-left.field-0.0 c.in-Some.ensures.items (search rules)
    (rw (c.in_ok-right.ensures.stays.same_image, c.loop-i.invariant.1.same_image) at c.in_err-left.ensures.reads) c.loop-i.invariant.0)

pub loop-i-preserved : goal.loop-i-preserved
loop-i-preserved g c = (
  nodes_on (g.S.Space.image c.args.space.now) c.args.shape.now c.args.root c.in-Some.node c.in_ok-right.right c.in_ok-left.left c.loop-i.numbers c.push-in-loop-i.new.self c.loop-i.pending.items c.pop.new.self.items c.push-in-loop-i-3.new.self.items
      c.in-Some.ensures.items (search rules) c.in-Ok-push.ensures.added (rw c.loop-i.invariant.1.same_image at c.in_ok-right.ensures.reads) (rw (c.in_ok-right.ensures.stays.same_image, c.loop-i.invariant.1.same_image) at c.in_ok-left.ensures.reads) (search rules) c.loop-i.invariant.0,
  stays_on _ _ _ _ c.args.space.now c.pointer_at.new.space c.pointer_at-in-loop-i.new.space (stays_on _ _ _ _ c.args.space.now c.loop-i.space c.pointer_at.new.space c.loop-i.invariant.1 c.in_ok-right.ensures.stays) c.in_ok-left.ensures.stays,
  c.in_ok-left.ensures.cause ∙ c.in_ok-right.ensures.cause ∙ c.loop-i.invariant.2,
  longer c.loop-i.numbers c.push-in-loop-i.new.self c.in-Some.node c.loop-i.i c.in-Ok-push.ensures.added c.loop-i.invariant.3,
)

pub returns-then-len-eq0-clause-numbers : goal.returns-then-len-eq0-clause-numbers
returns-then-len-eq0-clause-numbers g c =
    collected (g.S.Space.image c.args.space.now) c.args.shape.now c.args.root c.args.limit c.loop-i.numbers c.loop-i.pending.items (nil_from_length _ (search rules)) c.loop-i.invariant.0

pub returns-else-len-eq0-clause-numbers : goal.returns-else-len-eq0-clause-numbers
returns-else-len-eq0-clause-numbers g c =
    too_many (g.S.Space.image c.args.space.now) c.args.shape.now c.args.root c.args.limit c.loop-i.numbers c.loop-i.pending.items (omega (arith, c.loop-i-test.false, c.loop-i.invariant.3)) (search rules) c.loop-i.invariant.0
