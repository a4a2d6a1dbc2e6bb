use Rattle.std.proofs.Common.{refl, rules, arith, sym, ◌∙◌, ◌≡◌, Err}
use Rattle.std.proofs.lemmas.List.{nil_from_length}
use Rattle.kc_memory.specs.Stays.{stays_on}
use Rattle.kc_xa.proofs.ListedLemmas.Gathering.{Whole, gathers_from, gathers_on, gathers_out, memory_tells}
use Rattle.kc_xa.proofs.ListedLemmas.Lowering.{sound_pop}
use Rattle.kc_xa.proofs.ListedLemmas.Tracing.{Tested, paces_from, paces_on, paces_out, paces_short, paces_stop, runs_out, strays}
use Rattle.kc_xa.proofs.listed.numbers.test_numbers.Goals as goal

pub loop-i-init : goal.loop-i-init
loop-i-init g c = (
  paces_from (g.S.Space.image c.args.space.now) c.args.pass.now.shape c.args.pass.now.asked c.args.claims.now c.args.pending.now.items c.args.numbers.now,
  search rules,
  refl,
  omega arith,
  c.requires,
  gathers_from (g.S.Space.image c.args.space.now) c.args.pass.now.shape c.args.pass.now.asked c.args.pending.now.items c.args.numbers.now c.new-items.result c.new-items.ensures,
)

pub returns-in-None-clause-test : goal.returns-in-None-clause-test
returns-in-None-clause-test g c =
    runs_out _ (g.S.Space.image c.args.space.now) c.args.pass.now.shape c.args.pass.now.asked (Tested c.args.pass.now.shape c.args.pass.now.asked c.args.claims.now c.args.pending.now.items c.args.numbers.now) c.loop-i.claims c.loop-i.pending.items c.args.numbers.now c.loop-i.i c.get-number.result.now c.get-number.ensures (nil_from_length _ (sym c.loop-i.pending.ok.0 ∙ c.in-None.ensures.cases.0)) c.loop-i.invariant.0

pub returns-then-number-spot-clause-test : goal.returns-then-number-spot-clause-test
returns-then-number-spot-clause-test g c =
    strays _ (g.S.Space.image c.args.space.now) c.args.pass.now.shape c.args.pass.now.asked (Tested c.args.pass.now.shape c.args.pass.now.asked c.args.claims.now c.args.pending.now.items c.args.numbers.now) c.loop-i.claims c.loop-i.pending.items c.pop.new.self.items c.in-Some.spot c.args.numbers.now c.loop-i.i c.get-number.result.now c.get-number.ensures c.in-Some.ensures.items (search rules) c.loop-i.invariant.0

pub pass_spot-requires-clause-spot : goal.pass_spot-requires-clause-spot
pass_spot-requires-clause-spot g c = (sound_pop c.args.pass.now.shape.chunk c.loop-i.pending.items c.pop.new.self.items c.in-Some.spot c.in-Some.ensures.items c.loop-i.invariant.4).1

pub pass_spot-requires-clause-pending : goal.pass_spot-requires-clause-pending
pass_spot-requires-clause-pending g c = (sound_pop c.args.pass.now.shape.chunk c.loop-i.pending.items c.pop.new.self.items c.in-Some.spot c.in-Some.ensures.items c.loop-i.invariant.4).0

pub returns-in_err-push_pointer-clause-test : goal.returns-in_err-push_pointer-clause-test
returns-in_err-push_pointer-clause-test g c =
    let ended : c.from_residual.result ≡ Err c.in_err-push_pointer.field-0.0 = search rules in
    rw ended (memory_tells _ _ (g.S.Space.image c.args.space.now) c.in_err-push_pointer.field-0.0 c.in_err-push_pointer.ensures.memory)

pub returns-in_err-pass_spot-clause-test : goal.returns-in_err-pass_spot-clause-test
returns-in_err-pass_spot-clause-test g c =
    let ended : c.from_residual-in_err-pass_spot.result ≡ Err c.in_err-pass_spot.field-0.0 = search rules in
    rw ended (paces_stop _ _ (g.S.Space.image c.args.space.now) c.args.pass.now.shape c.args.pass.now.asked (Tested c.args.pass.now.shape c.args.pass.now.asked c.args.claims.now c.args.pending.now.items c.args.numbers.now) c.loop-i.claims c.pass_spot.new.claims c.loop-i.pending.items c.pop.new.self.items c.pass_spot.new.pending.items c.in-Some.spot c.args.numbers.now c.loop-i.i c.get-number.result.now c.in_err-pass_spot.field-0.0
    c.get-number.ensures c.in-Some.ensures.items (search rules) (rw c.loop-i.invariant.1.same_image at c.in_err-pass_spot.ensures.passes) c.loop-i.invariant.0)

pub loop-i-preserved : goal.loop-i-preserved
loop-i-preserved g c =
    let steps = c.in_ok-pass_spot.ensures.steps in
    let before = c.loop-i.invariant.3 in (
      paces_on (g.S.Space.image c.args.space.now) c.args.pass.now.shape c.args.pass.now.asked (Tested c.args.pass.now.shape c.args.pass.now.asked c.args.claims.now c.args.pending.now.items c.args.numbers.now) c.loop-i.claims c.pass_spot.new.claims c.loop-i.pending.items c.pop.new.self.items c.pass_spot.new.pending.items c.in-Some.spot c.args.numbers.now c.loop-i.i c.get-number.result.now c.in_ok-pass_spot.field-0
          c.get-number.ensures c.in-Some.ensures.items (search rules) (rw c.loop-i.invariant.1.same_image at c.in_ok-pass_spot.ensures.passes) c.loop-i.invariant.0,
      stays_on g.S.Space.image g.S.Space.files g.S.Space.through g.S.Space.most c.args.space.now c.loop-i.space c.pass_spot.new.space c.loop-i.invariant.1 c.in_ok-pass_spot.ensures.stays,
      c.in_ok-pass_spot.ensures.cause ∙ c.loop-i.invariant.2,
      omega (arith, steps, before),
      c.in_ok-pass_spot.ensures.sound,
      gathers_on (g.S.Space.image c.args.space.now) c.args.pass.now.shape c.args.pass.now.asked (Whole c.args.pass.now.shape c.args.pass.now.asked c.args.pending.now.items c.args.numbers.now) c.loop-i.pending.items c.pop.new.self.items c.pass_spot.new.pending.items c.in-Some.spot c.args.numbers.now c.loop-i.i c.get-number.result.now c.loop-i.items c.push_pointer.new.items
          c.get-number.ensures c.in-Some.ensures.items c.in_ok-push_pointer.ensures.added (rw c.loop-i.invariant.1.same_image at c.in_ok-pass_spot.ensures.next) c.loop-i.invariant.5,
    )

pub returns-then-len-eq0-clause-test : goal.returns-then-len-eq0-clause-test
returns-then-len-eq0-clause-test g c =
    let end = c.loop-i-test.false in
    let count = c.len-i-end.ensures in
    paces_out (g.S.Space.image c.args.space.now) c.args.pass.now.shape c.args.pass.now.asked (Tested c.args.pass.now.shape c.args.pass.now.asked c.args.claims.now c.args.pending.now.items c.args.numbers.now) c.loop-i.claims c.loop-i.pending.items c.args.numbers.now c.loop-i.i c.loop-i.items (omega (arith, end, count)) (nil_from_length _ (sym c.loop-i.pending.ok.0 ∙ sym c.len.ensures ∙ c.if-len-eq0.true)) c.loop-i.invariant.0

pub returns-else-len-eq0-clause-test : goal.returns-else-len-eq0-clause-test
returns-else-len-eq0-clause-test g c =
    let end = c.loop-i-test.false in
    let count = c.len-i-end.ensures in
    let waiting = sym c.loop-i.pending.ok.0 ∙ sym c.len.ensures in
    let some = c.if-len-eq0.false in
    paces_short _ (g.S.Space.image c.args.space.now) c.args.pass.now.shape c.args.pass.now.asked (Tested c.args.pass.now.shape c.args.pass.now.asked c.args.claims.now c.args.pending.now.items c.args.numbers.now) c.loop-i.claims c.loop-i.pending.items c.args.numbers.now c.loop-i.i (omega (arith, end, count)) (omega (arith, waiting, some)) c.loop-i.invariant.0

pub returns-then-len-eq0-clause-items : goal.returns-then-len-eq0-clause-items
returns-then-len-eq0-clause-items g c =
    let end = c.loop-i-test.false in
    let count = c.len-i-end.ensures in
    gathers_out (g.S.Space.image c.args.space.now) c.args.pass.now.shape c.args.pass.now.asked (Whole c.args.pass.now.shape c.args.pass.now.asked c.args.pending.now.items c.args.numbers.now) c.loop-i.pending.items c.args.numbers.now c.loop-i.i c.loop-i.items (omega (arith, end, count)) c.loop-i.invariant.5
