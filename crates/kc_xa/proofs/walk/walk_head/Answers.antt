use Rattle.std.proofs.Common.{rules, arith, ◌∙◌, length, ap}
use Rattle.kc_found.specs.declared.xarrays.XaNode.{XaNode}
use Rattle.kc_xa.proofs.Heads.{head_site_stops, head_walks, head_walk_stops, kept_root}
use Rattle.kc_xa.proofs.Spending.{all_steps}
use Rattle.kc_xa.proofs.walk.walk_head.Goals as goal

pub returns-in-Err-open_root-clause-walk : goal.returns-in-Err-open_root-clause-walk
returns-in-Err-open_root-clause-walk g c =
    head_site_stops _ _ (g.S.Space.image c.args.space.now) c.args.pass.now.shape c.args.pass.now.asked c.in-Ok.word c.entry_of-kind.result c.take_word.new.claims c.in-Err-open_root.stop c.in-Ok.ensures.word (rw c.new-claims.ensures at c.in-Ok-take_word.ensures.taken)
    c.entry_of-kind.ensures (search rules) (search rules) (rw c.in-Ok.ensures.stays.same_image at c.in-Err-open_root.ensures.site)

pub returns-in-Ok-walk_slots-clause-walk : goal.returns-in-Ok-walk_slots-clause-walk
returns-in-Ok-walk_slots-clause-walk g c =
    head_walks (λ (x : XaNode). c.open_root.new.claims) _ (g.S.Space.image c.args.space.now) c.args.pass.now.shape c.args.pass.now.asked c.in-Ok.word c.entry_of-kind.result c.take_word.new.claims c.walk_slots.new.claims c.in-Ok-open_root.node c.in-Ok-open_root.node _ c.in-Ok-walk_slots.field-0 c.in-Ok.ensures.word
    (rw c.new-claims.ensures at c.in-Ok-take_word.ensures.taken) c.entry_of-kind.ensures (search rules) (search rules) (rw c.in-Ok.ensures.stays.same_image at c.in-Ok-open_root.ensures.site) (rw c.in-Ok.ensures.stays.same_image at c.in-Ok-open_root.ensures.opened)
    (rw (c.in-Ok-open_root.ensures.stays.same_image ∙ c.in-Ok.ensures.stays.same_image, c.new-walked.ensures) at c.in-Ok-walk_slots.ensures.walks)

pub returns-in-Node-clause-walk : goal.returns-in-Node-clause-walk
returns-in-Node-clause-walk g c =
    head_walk_stops (λ (x : XaNode). c.open_root.new.claims) _ (g.S.Space.image c.args.space.now) c.args.pass.now.shape c.args.pass.now.asked c.in-Ok.word c.entry_of-kind.result c.take_word.new.claims c.walk_slots.new.claims c.new-walked.result c.walk_slots.new.walked c.in-Ok-open_root.node c.in-Ok-open_root.node c.in-Err-walk_slots.stop c.in-Ok.ensures.word
    (rw c.new-claims.ensures at c.in-Ok-take_word.ensures.taken) c.entry_of-kind.ensures (search rules) (search rules) (rw c.in-Ok.ensures.stays.same_image at c.in-Ok-open_root.ensures.site) (rw c.in-Ok.ensures.stays.same_image at c.in-Ok-open_root.ensures.opened)
    (rw (c.in-Ok-open_root.ensures.stays.same_image ∙ c.in-Ok.ensures.stays.same_image) at c.in-Err-walk_slots.ensures.walks)

pub returns-in-Ok-walk_slots-clause-bound : goal.returns-in-Ok-walk_slots-clause-bound
returns-in-Ok-walk_slots-clause-bound g c =
    let empty = ap length c.new-claims.ensures in
    all_steps (g.S.Space.image c.args.space.now) (g.S.Space.most c.args.space.now) c.args.pass.now.shape.chunk c.args.steps.now c.open_root.new.steps _ c.open_root.new.claims
    (kept_root (λ (x : XaNode). c.open_root.new.claims) (g.S.Space.image c.args.space.now) c.args.pass.now.shape c.args.pass.now.asked c.in-Ok.word c.take_word.new.claims c.in-Ok-open_root.node c.in-Ok.ensures.word
    (rw c.new-claims.ensures at c.in-Ok-take_word.ensures.taken) (rw c.in-Ok.ensures.stays.same_image at c.in-Ok-open_root.ensures.site))
    (omega (arith, empty, c.in-Ok-take_word.ensures.more, c.in-Ok-open_root.ensures.more)) c.requires.some (omega (arith, c.in-Ok.ensures.steps, rw c.in-Ok.ensures.stays.same_most at c.in-Ok-open_root.ensures.steps))
    (rw (c.in-Ok-open_root.ensures.stays.same_image ∙ c.in-Ok.ensures.stays.same_image, c.in-Ok-open_root.ensures.stays.same_most ∙ c.in-Ok.ensures.stays.same_most) at c.in-Ok-walk_slots.ensures.bound)

pub returns-in-Node-clause-bound : goal.returns-in-Node-clause-bound
returns-in-Node-clause-bound g c =
    let empty = ap length c.new-claims.ensures in
    all_steps (g.S.Space.image c.args.space.now) (g.S.Space.most c.args.space.now) c.args.pass.now.shape.chunk c.args.steps.now c.open_root.new.steps _ c.open_root.new.claims
    (kept_root (λ (x : XaNode). c.open_root.new.claims) (g.S.Space.image c.args.space.now) c.args.pass.now.shape c.args.pass.now.asked c.in-Ok.word c.take_word.new.claims c.in-Ok-open_root.node c.in-Ok.ensures.word
    (rw c.new-claims.ensures at c.in-Ok-take_word.ensures.taken) (rw c.in-Ok.ensures.stays.same_image at c.in-Ok-open_root.ensures.site))
    (omega (arith, empty, c.in-Ok-take_word.ensures.more, c.in-Ok-open_root.ensures.more)) c.requires.some (omega (arith, c.in-Ok.ensures.steps, rw c.in-Ok.ensures.stays.same_most at c.in-Ok-open_root.ensures.steps))
    (rw (c.in-Ok-open_root.ensures.stays.same_image ∙ c.in-Ok.ensures.stays.same_image, c.in-Ok-open_root.ensures.stays.same_most ∙ c.in-Ok.ensures.stays.same_most) at c.in-Err-walk_slots.ensures.bound)
