use Rattle.std.proofs.Common.{◌≡◌, ◌+◌, ◌<◌, length, sym, ◌∙◌, ap, arith}
use Rattle.kc_found.specs.Blocks.{with_blocks, IsTable}
use Rattle.kc_found.proofs.Stored.{counted}
use Rattle.kc_found.proofs.claims.Claims.add.Goals as goal

pub invariant_of-self-then-new : goal.invariant_of-self-then-new
invariant_of-self-then-new c =
    let inv : IsTable c.self.inside.blocks.items × (c.self.inside.count ≡ length (with_blocks c.self.inside.others.keys c.self.inside.blocks.items)) = c.self.invariant in
    (c.in_ok-new.ensures.table, counted c.in_ok-new.new (with_blocks c.self.inside.others.keys c.self.inside.blocks.items) (with_blocks c.put.new.others.keys c.put.new.blocks.items) c.args.pa c.in-Some.count c.if-new.true c.in_ok-new.ensures.answer c.in_ok-new.ensures.words (c.in-Some.ensures.1 ∙ ap (λ n. n + 1) inv.1))

pub returns-then-new-clause-more : goal.returns-then-new-clause-more
returns-then-new-clause-more c =
    let before = with_blocks c.self.inside.others.keys c.self.inside.blocks.items in
    let after = with_blocks c.put.new.others.keys c.put.new.blocks.items in
    let inv : IsTable c.self.inside.blocks.items × (c.self.inside.count ≡ length before) = c.self.invariant in
    let one : c.in-Some.count ≡ length before + 1 = c.in-Some.ensures.1 ∙ ap (λ n. n + 1) inv.1 in
    let is : c.in-Some.count ≡ length after = counted c.in_ok-new.new before after c.args.pa c.in-Some.count c.if-new.true c.in_ok-new.ensures.answer c.in_ok-new.ensures.words one in
    let seen : before ≡ c.args.self.now = c.self.view_is in
    let more : length after ≡ length c.args.self.now + 1 = sym is ∙ (one ∙ ap (λ xs. length xs + 1) seen) in
    rw c.if-new.true more

pub returns-then-new-clause-fits : goal.returns-then-new-clause-fits
returns-then-new-clause-fits c =
    let before = with_blocks c.self.inside.others.keys c.self.inside.blocks.items in
    let after = with_blocks c.put.new.others.keys c.put.new.blocks.items in
    let inv : IsTable c.self.inside.blocks.items × (c.self.inside.count ≡ length before) = c.self.invariant in
    let one : c.in-Some.count ≡ length before + 1 = c.in-Some.ensures.1 ∙ ap (λ n. n + 1) inv.1 in
    let is : c.in-Some.count ≡ length after = counted c.in_ok-new.new before after c.args.pa c.in-Some.count c.if-new.true c.in_ok-new.ensures.answer c.in_ok-new.ensures.words one in
    let fits : length after < 18446744073709551616 = omega (arith, is, c.in-Some.ensures.0, c.in-Some.ensures.1) in fits
