use Rattle.std.proofs.Common.{rules, ◌≡◌, Err}
use Rattle.kc_rb.proofs.ListedLemmas.Pacing.{first_told, head_goes, head_halts, numbers_halt, told_false, told_true}
use Rattle.kc_rb.proofs.listed.tree.test_tree.Goals as goal

pub returns-in-Err-clause-test : goal.returns-in-Err-clause-test
returns-in-Err-clause-test g c =
    head_halts _ _ (g.S.Space.image c.args.space.now) c.args.shape.now c.args.start c.args.numbers.now c.new-claims.result c.enter_head.new.claims c.in-Err.stop c.test_stop_of.result c.new-claims.ensures c.test_stop_of.ensures c.in-Err.ensures.site

pub returns-in_err-test_numbers-clause-test : goal.returns-in_err-test_numbers-clause-test
returns-in_err-test_numbers-clause-test g c =
    let ended : c.from_residual.result ≡ Err c.in_err-test_numbers.field-0.0 = search rules in
    rw ended (numbers_halt _ _ (g.S.Space.image c.args.space.now) c.args.shape.now c.args.start c.args.numbers.now c.enter_head.new.claims c.in-Ok.head c.in_err-test_numbers.field-0.0
    (head_goes (g.S.Space.image c.args.space.now) c.args.shape.now c.args.start c.args.numbers.now c.new-claims.result c.enter_head.new.claims c.in-Ok.head c.in-Ok.head c.new-claims.ensures c.in-Ok.ensures.site c.in-Ok.ensures.head)
    (rw (c.in-Ok.ensures.stays.same_image, c.root_of-root.ensures) at c.in_err-test_numbers.ensures.test))

pub returns-in-Ok-true-clause-test : goal.returns-in-Ok-true-clause-test
returns-in-Ok-true-clause-test g c =
    told_true (g.S.Space.image c.args.space.now) _ _ _
    (first_told (g.S.Space.image c.args.space.now) c.args.shape.now c.args.start c.args.numbers.now c.enter_head.new.claims c.in-Ok.head c.in_ok-test_numbers.field-0 c.in-Ok-true.field-0
    (head_goes (g.S.Space.image c.args.space.now) c.args.shape.now c.args.start c.args.numbers.now c.new-claims.result c.enter_head.new.claims c.in-Ok.head c.in-Ok.head c.new-claims.ensures c.in-Ok.ensures.site c.in-Ok.ensures.head)
    (rw (c.in-Ok.ensures.stays.same_image, c.root_of-root.ensures) at c.in_ok-test_numbers.ensures.test) c.in-Ok-true.ensures) c.in-Ok-true.field-0-test

pub returns-in-Ok-false-clause-test : goal.returns-in-Ok-false-clause-test
returns-in-Ok-false-clause-test g c =
    told_false _ (g.S.Space.image c.args.space.now) _ _
    (first_told (g.S.Space.image c.args.space.now) c.args.shape.now c.args.start c.args.numbers.now c.enter_head.new.claims c.in-Ok.head c.in_ok-test_numbers.field-0 c.in-Ok-false.field-0
    (head_goes (g.S.Space.image c.args.space.now) c.args.shape.now c.args.start c.args.numbers.now c.new-claims.result c.enter_head.new.claims c.in-Ok.head c.in-Ok.head c.new-claims.ensures c.in-Ok.ensures.site c.in-Ok.ensures.head)
    (rw (c.in-Ok.ensures.stays.same_image, c.root_of-root.ensures) at c.in_ok-test_numbers.ensures.test) c.in-Ok-false.ensures) c.in-Ok-false.field-0-test
