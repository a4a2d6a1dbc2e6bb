use Rattle.std.proofs.Common.{List, ℕ, rules, arith, ◌∙◌, ◌∷◌, [], ap, length, length-append}
use Rattle.kc_memory.specs.declared.words.VWord.{VWord}
use Rattle.kc_memory.specs.Stays.{stays_on}
use Rattle.kc_laws.specs.Chains.{site_steps, next_steps, two_reads}
use Rattle.kc_list.proofs.Spending.{near, soon}
use Rattle.kc_list.proofs.RingWalk.{rings, led_to, begins, begins_broken, goes, goes_broken, ends_well, ends_broken, finite, none}
use Rattle.kc_list.proofs.list.ring.Goals as goal

pub returns-in-Err-clause-walk : goal.returns-in-Err-clause-walk
returns-in-Err-clause-walk g c =
    begins_broken (λ (p : VWord × VWord). c.enter_links.new.claims) _ (g.S.Space.image c.args.space.now) c.args.shape.now c.args.audit c.args.head c.in-Err.stop
    (rw c.new-claims.ensures at c.in-Err.ensures.site)

pub returns-in-Err-clause-none : goal.returns-in-Err-clause-none
returns-in-Err-clause-none g c = none (λ (xs : List ℕ). xs) (g.S.Space.image c.args.space.now) c.args.shape.now c.args.audit c.args.head c.in-Err.stop (returns-in-Err-clause-walk g c)

pub loop-from-init : goal.loop-from-init
loop-from-init g c = record {
  reaches = rw c.new-walked.ensures (begins (λ (p : VWord × VWord). c.enter_links.new.claims) (g.S.Space.image c.args.space.now) c.args.shape.now c.args.audit c.args.head c.in-Ok.links c.in-Ok.links
      c.in-Ok.ensures.links (rw c.new-claims.ensures at c.in-Ok.ensures.site));
  stays = c.in-Ok.ensures.stays;
  quiet = c.in-Ok.ensures.cause;
  fits = search rules;
  steps = rw c.new-walked.ensures (omega (arith, c.in-Ok.ensures.steps));
}

pub returns-in-Err-enter_node-clause-walk : goal.returns-in-Err-enter_node-clause-walk
returns-in-Err-enter_node-clause-walk g c =
    goes_broken (λ (p : VWord × VWord). c.enter_node.new.claims) _ (g.S.Space.image c.args.space.now) c.args.shape.now c.args.audit c.args.head c.loop-from.claims c.loop-from.walked c.loop-from.from c.loop-from.before c.in-Ok.links.1 c.in-Err-enter_node.stop
    c.loop-from.invariant.reaches (search rules) (rw c.loop-from.invariant.stays.same_image at c.in-Err-enter_node.ensures.site)

pub returns-in-Err-enter_node-clause-none : goal.returns-in-Err-enter_node-clause-none
returns-in-Err-enter_node-clause-none g c = none (λ (xs : List ℕ). xs) (g.S.Space.image c.args.space.now) c.args.shape.now c.args.audit c.args.head c.in-Err-enter_node.stop (returns-in-Err-enter_node-clause-walk g c)

pub returns-in-Err-enter_node-clause-bound : goal.returns-in-Err-enter_node-clause-bound
returns-in-Err-enter_node-clause-bound g c =
    next_steps (rings c.args.shape.now c.args.audit c.args.head) (g.S.Space.image c.args.space.now) c.loop-from.claims c.loop-from.walked (led_to c.loop-from.from c.loop-from.before c.in-Ok.links.1) (g.S.Space.most c.args.space.now) c.args.steps.now c.loop-from.steps _
    c.loop-from.invariant.reaches c.loop-from.invariant.steps (rw c.loop-from.invariant.stays.same_most at c.in-Err-enter_node.ensures.steps)

pub returns-in_err-push_node-clause-bound : goal.returns-in_err-push_node-clause-bound
returns-in_err-push_node-clause-bound g c =
    next_steps (rings c.args.shape.now c.args.audit c.args.head) (g.S.Space.image c.args.space.now) c.loop-from.claims c.loop-from.walked (led_to c.loop-from.from c.loop-from.before c.in-Ok.links.1) (g.S.Space.most c.args.space.now) c.args.steps.now c.loop-from.steps _
    c.loop-from.invariant.reaches c.loop-from.invariant.steps (rw c.loop-from.invariant.stays.same_most at c.in-Ok-enter_node.ensures.steps)

pub loop-from-preserved : goal.loop-from-preserved
loop-from-preserved g c = record {
  reaches = rw c.in_ok-push_node.ensures.added (goes (λ (p : VWord × VWord). c.enter_node.new.claims) (g.S.Space.image c.args.space.now) c.args.shape.now c.args.audit c.args.head c.loop-from.claims c.loop-from.walked c.loop-from.from c.loop-from.before c.in-Ok.links.1 c.in-Ok-enter_node.links c.in-Ok-enter_node.links
      c.loop-from.invariant.reaches (search rules) (rw c.loop-from.invariant.stays.same_image at c.in-Ok-enter_node.ensures.links) (rw c.loop-from.invariant.stays.same_image at c.in-Ok-enter_node.ensures.site));
  stays = stays_on g.S.Space.image g.S.Space.files g.S.Space.through g.S.Space.most _ _ _ c.loop-from.invariant.stays c.in-Ok-enter_node.ensures.stays;
  quiet = c.in-Ok-enter_node.ensures.cause ∙ c.loop-from.invariant.quiet;
  fits = search rules;
  steps = rw (ap length c.in_ok-push_node.ensures.added ∙ length-append c.loop-from.walked (c.loop-from.from.value ∷ []))
      (two_reads (g.S.Space.most c.args.space.now) (length c.loop-from.walked) c.args.steps.now c.loop-from.steps _ c.loop-from.invariant.steps (rw c.loop-from.invariant.stays.same_most at c.in-Ok-enter_node.ensures.steps));
}

pub returns-then-last-before-clause-walk : goal.returns-then-last-before-clause-walk
returns-then-last-before-clause-walk g c =
    ends_broken _ (g.S.Space.image c.args.space.now) c.args.shape.now c.args.audit c.args.head c.loop-from.claims c.loop-from.walked c.loop-from.from c.loop-from.before c.in-Ok.links.1 c.broken_at.result
    c.loop-from.invariant.reaches (search rules) (search rules) c.broken_at.ensures

pub returns-then-last-before-clause-none : goal.returns-then-last-before-clause-none
returns-then-last-before-clause-none g c = none (λ (xs : List ℕ). xs) (g.S.Space.image c.args.space.now) c.args.shape.now c.args.audit c.args.head c.broken_at.result (returns-then-last-before-clause-walk g c)

pub returns-then-last-before-clause-bound : goal.returns-then-last-before-clause-bound
returns-then-last-before-clause-bound g c =
    site_steps (rings c.args.shape.now c.args.audit c.args.head) (g.S.Space.image c.args.space.now) c.loop-from.claims c.loop-from.walked (led_to c.loop-from.from c.loop-from.before c.in-Ok.links.1) (g.S.Space.most c.args.space.now) c.args.steps.now _ c.loop-from.invariant.reaches c.loop-from.invariant.steps

pub returns-clause-walk : goal.returns-clause-walk
returns-clause-walk g c =
    ends_well _ (g.S.Space.image c.args.space.now) c.args.shape.now c.args.audit c.args.head c.loop-from.claims c.loop-from.walked c.loop-from.from c.loop-from.before c.in-Ok.links.1
    c.loop-from.invariant.reaches (search rules) (search rules)

pub returns-clause-finite : goal.returns-clause-finite
returns-clause-finite g c = finite (λ (xs : List ℕ). xs) (g.S.Space.image c.args.space.now) c.args.shape.now c.args.audit c.args.head c.loop-from.walked (returns-clause-walk g c)

pub returns-clause-bound : goal.returns-clause-bound
returns-clause-bound g c =
    site_steps (rings c.args.shape.now c.args.audit c.args.head) (g.S.Space.image c.args.space.now) c.loop-from.claims c.loop-from.walked (led_to c.loop-from.from c.loop-from.before c.in-Ok.links.1) (g.S.Space.most c.args.space.now) c.args.steps.now _ c.loop-from.invariant.reaches c.loop-from.invariant.steps

pub returns-in-Err-clause-soon : goal.returns-in-Err-clause-soon
returns-in-Err-clause-soon g c = soon (List ℕ) (rings c.args.shape.now c.args.audit c.args.head) (g.S.Space.image c.args.space.now) c.in-Err.stop (g.S.Space.most c.args.space.now) c.args.steps.now _ c.in-Err.ensures.steps

pub returns-in-Err-enter_node-clause-soon : goal.returns-in-Err-enter_node-clause-soon
returns-in-Err-enter_node-clause-soon g c =
    near (List ℕ) (rings c.args.shape.now c.args.audit c.args.head) (g.S.Space.image c.args.space.now) c.in-Err-enter_node.stop c.loop-from.claims c.loop-from.walked (led_to c.loop-from.from c.loop-from.before c.in-Ok.links.1) (g.S.Space.most c.args.space.now) c.args.steps.now c.loop-from.steps _
    c.loop-from.invariant.reaches c.loop-from.invariant.steps (rw c.loop-from.invariant.stays.same_most at c.in-Err-enter_node.ensures.steps)

pub returns-then-last-before-clause-soon : goal.returns-then-last-before-clause-soon
returns-then-last-before-clause-soon g c =
    near (List ℕ) (rings c.args.shape.now c.args.audit c.args.head) (g.S.Space.image c.args.space.now) c.broken_at.result c.loop-from.claims c.loop-from.walked (led_to c.loop-from.from c.loop-from.before c.in-Ok.links.1) (g.S.Space.most c.args.space.now) c.args.steps.now c.loop-from.steps _
    c.loop-from.invariant.reaches c.loop-from.invariant.steps (omega arith)
