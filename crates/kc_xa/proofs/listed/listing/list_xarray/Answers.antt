use Rattle.std.proofs.Common.{rules, ◌≡◌, Err}
use Rattle.kc_xa.proofs.ListedLemmas.Tracing.{lists_halt, lists_through}
use Rattle.kc_xa.proofs.listed.listing.list_xarray.Goals as goal

pub returns-in_err-enter_head-clause-lists : goal.returns-in_err-enter_head-clause-lists
returns-in_err-enter_head-clause-lists g c =
    let ended : c.from_residual.result ≡ Err c.in_err-enter_head.field-0.0 = search rules in
    rw ended (lists_halt _ (g.S.Space.image c.args.space.now) _ _ c.in_err-enter_head.field-0.0 c.in_err-enter_head.ensures.passes)

pub returns-clause-lists : goal.returns-clause-lists
returns-clause-lists g c = lists_through (g.S.Space.image c.args.space.now) _ _ c.in_ok-enter_head.field-0 c.list_numbers.result c.in_ok-enter_head.ensures.passes (rw c.in_ok-enter_head.ensures.stays.same_image at c.list_numbers.ensures.lists)
