use Rattle.std.proofs.Common.{rules, arith, ◌∙◌, sym, ap}
use Rattle.kc_memory.specs.Stays.{stays_on}
use Rattle.kc_found.specs.declared.test.TestStop.TheVariants.{Unfit}
use Rattle.kc_found.specs.Tests.{test_stop_of}
use Rattle.kc_by_lists.proofs.FreeTests.{comes_first, comes_on, tells_long, tells_other, tells_short, tells_stop, tells_whole}
use Rattle.kc_by_lists.proofs.free.test_free_list.Goals as goal

pub loop-i-init : goal.loop-i-init
loop-i-init g c = (
  rw (c.new-claims.ensures, c.low_word.ensures) (comes_first c.know_free_lists.ensures.chains (g.S.Space.image c.args.space.now) c.args.grid.now c.args.first c.args.objects.now),
  search rules,
  search rules,
  search rules,
)

pub returns-then-led-eq0-clause-test : goal.returns-then-led-eq0-clause-test
returns-then-led-eq0-clause-test g c =
    tells_short _ c.know_free_lists.ensures.chains (g.S.Space.image c.args.space.now) c.args.grid.now c.args.first c.loop-i.claims c.args.objects.now c.loop-i.i c.loop-i.led c.loop-i.invariant.0 (search rules) (search rules)

pub returns-then-get-led-clause-test : goal.returns-then-get-led-clause-test
returns-then-get-led-clause-test g c =
    tells_other _ c.know_free_lists.ensures.chains (g.S.Space.image c.args.space.now) c.args.grid.now c.args.first c.loop-i.claims c.args.objects.now c.loop-i.i c.get.result.now c.loop-i.led c.loop-i.invariant.0 (search rules) c.get.ensures (search rules)

pub returns-in-Err-Broken-clause-test : goal.returns-in-Err-Broken-clause-test
returns-in-Err-Broken-clause-test g c =
    tells_stop _ _ (g.S.Space.image c.args.space.now) c.args.grid.now c.args.first c.loop-i.claims c.enter_object.new.claims c.args.objects.now c.loop-i.i c.loop-i.led c.in-Err-Broken.field-0 Unfit (sym (ap test_stop_of c.in-Err-Broken.field-0-is)) c.loop-i.invariant.0 (search rules)
    (rw c.loop-i.invariant.1.same_image at c.in-Err-Broken.ensures.site)

pub loop-i-preserved : goal.loop-i-preserved
loop-i-preserved g c = (
  rw c.free_next-led.ensures (comes_on c.know_free_lists.ensures.chains (g.S.Space.image c.args.space.now) c.args.grid.now c.args.first c.loop-i.claims c.enter_object.new.claims c.args.objects.now c.loop-i.i c.get.result.now c.loop-i.led c.in-Ok.number c.in-Ok.number
      c.loop-i.invariant.0 (search rules) c.get.ensures (search rules) (rw c.loop-i.invariant.1.same_image at c.in-Ok.ensures.number) (rw c.loop-i.invariant.1.same_image at c.in-Ok.ensures.site)),
  stays_on g.S.Space.image g.S.Space.files g.S.Space.through g.S.Space.most c.args.space.now c.loop-i.space c.enter_object.new.space c.loop-i.invariant.1 c.in-Ok.ensures.stays,
  c.in-Ok.ensures.cause ∙ c.loop-i.invariant.2,
  omega (arith, c.in-Ok.ensures.steps, c.know_most.ensures, c.loop-i.invariant.3),
)

pub returns-then-led-eq0-2-clause-test : goal.returns-then-led-eq0-2-clause-test
returns-then-led-eq0-2-clause-test g c =
    tells_whole c.know_free_lists.ensures.chains (g.S.Space.image c.args.space.now) c.args.grid.now c.args.first c.loop-i.claims c.args.objects.now c.loop-i.i c.loop-i.led _ c.loop-i.invariant.0 (search rules) (search rules)

pub returns-clause-test : goal.returns-clause-test
returns-clause-test g c =
    tells_long _ c.know_free_lists.ensures.chains (g.S.Space.image c.args.space.now) c.args.grid.now c.args.first c.loop-i.claims c.args.objects.now c.loop-i.i c.loop-i.led c.loop-i.invariant.0 (search rules) (search rules)
