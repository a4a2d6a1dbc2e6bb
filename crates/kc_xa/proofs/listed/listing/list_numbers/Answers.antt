use Rattle.std.proofs.Common.{rules, arith, refl, sym, ◌∙◌, ◌≡◌, Err}
use Rattle.std.proofs.lemmas.List.{nil_from_length}
use Rattle.kc_memory.specs.Stays.{stays_on}
use Rattle.kc_xa.proofs.ListedLemmas.Lowering.{sound_pop, weights_pop}
use Rattle.kc_xa.proofs.ListedLemmas.Tracing.{memory_out, writes_from, writes_on, writes_out, writes_stop}
use Rattle.kc_xa.proofs.listed.listing.list_numbers.Goals as goal

pub loop-spot-init : goal.loop-spot-init
loop-spot-init g c = (
  writes_from (g.S.Space.image c.args.space.now) c.args.pass.now.shape c.args.pass.now.asked c.args.claims.now c.args.pending.now.items c.new-numbers.result c.new-numbers.ensures,
  search rules,
  refl,
  c.requires,
)

pub pass_spot-requires-clause-spot : goal.pass_spot-requires-clause-spot
pass_spot-requires-clause-spot g c = (sound_pop c.args.pass.now.shape.chunk c.loop-spot.pending.items c.pop.new.self.items c.in-Some.spot c.in-Some.ensures.items c.loop-spot.invariant.3).1

pub pass_spot-requires-clause-pending : goal.pass_spot-requires-clause-pending
pass_spot-requires-clause-pending g c = (sound_pop c.args.pass.now.shape.chunk c.loop-spot.pending.items c.pop.new.self.items c.in-Some.spot c.in-Some.ensures.items c.loop-spot.invariant.3).0

pub loop-spot-smaller : goal.loop-spot-smaller
loop-spot-smaller g c =
    let all = weights_pop c.loop-spot.pending.items c.pop.new.self.items c.in-Some.spot c.in-Some.ensures.items in
    let falls = c.in_ok-pass_spot.ensures.falls in
    omega (arith, all, falls)

pub loop-spot-preserved : goal.loop-spot-preserved
loop-spot-preserved g c = (
  writes_on (g.S.Space.image c.args.space.now) c.args.pass.now.shape c.args.pass.now.asked _ c.loop-spot.claims c.pass_spot.new.claims c.loop-spot.pending.items c.pop.new.self.items c.pass_spot.new.pending.items c.in-Some.spot c.loop-spot.numbers c.push_number.new.numbers c.in_ok-pass_spot.field-0
      c.in-Some.ensures.items c.in_ok-push_number.ensures.added (rw c.loop-spot.invariant.1.same_image at c.in_ok-pass_spot.ensures.passes) c.loop-spot.invariant.0,
  stays_on g.S.Space.image g.S.Space.files g.S.Space.through g.S.Space.most c.args.space.now c.loop-spot.space c.pass_spot.new.space c.loop-spot.invariant.1 c.in_ok-pass_spot.ensures.stays,
  c.in_ok-pass_spot.ensures.cause ∙ c.loop-spot.invariant.2,
  c.in_ok-pass_spot.ensures.sound,
)

pub returns-in_err-pass_spot-clause-lists : goal.returns-in_err-pass_spot-clause-lists
returns-in_err-pass_spot-clause-lists g c =
    let ended : c.from_residual-in_err-pass_spot.result ≡ Err c.in_err-pass_spot.field-0.0 = search rules in
    rw ended (writes_stop _ (g.S.Space.image c.args.space.now) c.args.pass.now.shape c.args.pass.now.asked _ c.loop-spot.claims c.pass_spot.new.claims c.loop-spot.pending.items c.pop.new.self.items c.pass_spot.new.pending.items c.in-Some.spot c.loop-spot.numbers c.push_number.new.numbers c.in_err-pass_spot.field-0.0
    c.in-Some.ensures.items c.in_ok-push_number.ensures.added (rw c.loop-spot.invariant.1.same_image at c.in_err-pass_spot.ensures.passes) c.loop-spot.invariant.0)

pub returns-in_err-push_number-clause-lists : goal.returns-in_err-push_number-clause-lists
returns-in_err-push_number-clause-lists g c =
    let ended : c.from_residual.result ≡ Err c.in_err-push_number.field-0.0 = search rules in
    rw ended (memory_out _ (g.S.Space.image c.args.space.now) c.in_err-push_number.field-0.0 c.in_err-push_number.ensures.memory)

pub returns-clause-lists : goal.returns-clause-lists
returns-clause-lists g c =
    writes_out (g.S.Space.image c.args.space.now) c.args.pass.now.shape c.args.pass.now.asked _ c.loop-spot.claims c.loop-spot.pending.items c.loop-spot.numbers (nil_from_length _ (sym c.loop-spot.pending.ok.0 ∙ c.in_default.ensures.cases.0)) c.loop-spot.invariant.0
