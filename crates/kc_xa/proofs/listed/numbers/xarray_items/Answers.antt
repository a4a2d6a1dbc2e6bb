use Rattle.std.proofs.Common.{rules, ◌≡◌, Err}
use Rattle.kc_xa.specs.Listed.Entries.{items_in}
use Rattle.kc_xa.proofs.ListedLemmas.Gathering.{Whole, gathers_through}
use Rattle.kc_xa.proofs.ListedLemmas.Tracing.{tells_halt, tells_through}
use Rattle.kc_xa.proofs.listed.numbers.xarray_items.Goals as goal

pub returns-in_err-enter_head-clause-test : goal.returns-in_err-enter_head-clause-test
returns-in_err-enter_head-clause-test g c =
    let ended : c.from_residual.result ≡ Err c.in_err-enter_head.field-0.0 = search rules in
    rw ended (tells_halt _ _ (g.S.Space.image c.args.space.now) _ _ c.args.numbers.now c.in_err-enter_head.field-0.0 c.in_err-enter_head.ensures.passes)

pub returns-clause-test : goal.returns-clause-test
returns-clause-test g c = tells_through (g.S.Space.image c.args.space.now) _ _ c.args.numbers.now c.in_ok-enter_head.field-0 c.test_numbers.result c.in_ok-enter_head.ensures.passes (rw c.in_ok-enter_head.ensures.stays.same_image at c.test_numbers.ensures.test)

pub returns-clause-items : goal.returns-clause-items
returns-clause-items g c =
    gathers_through (g.S.Space.image c.args.space.now) (λ i ns. items_in i c.args.shape.now c.args.start ns) (λ i ns. Whole c.args.shape.now (record { audit = 0; start = c.args.start }) c.enter_head.new.pending.items ns i) c.args.numbers.now c.test_numbers.result c.in_ok-enter_head.ensures.items (rw c.in_ok-enter_head.ensures.stays.same_image at c.test_numbers.ensures.items)
