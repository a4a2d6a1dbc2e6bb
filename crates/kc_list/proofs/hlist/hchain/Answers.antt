use Rattle.std.proofs.Common.{List, ℕ, rules, arith, ◌∙◌, ◌∷◌, [], ap, length, length-append}
use Rattle.kc_memory.specs.declared.words.VWord.{VWord}
use Rattle.kc_memory.specs.Stays.{stays_on}
use Rattle.kc_laws.specs.Chains.{site_steps, next_steps, few_steps}
use Rattle.kc_list.proofs.Spending.{near, one_spare, soon, two_more}
use Rattle.kc_list.proofs.HashWalk.{hashes, hash_begins, hash_begins_broken, hash_goes, hash_goes_broken, hash_ends, hash_finite, hash_none}
use Rattle.kc_list.proofs.hlist.hchain.Goals as goal

pub returns-in-Err-clause-walk : goal.returns-in-Err-clause-walk
returns-in-Err-clause-walk g c =
    hash_begins_broken (λ (w : VWord). c.enter_head.new.claims) _ (g.S.Space.image c.args.space.now) c.args.shape.now c.args.audit c.args.head c.in-Err.stop
    (rw c.new-claims.ensures at c.in-Err.ensures.site)

pub returns-in-Err-clause-none : goal.returns-in-Err-clause-none
returns-in-Err-clause-none g c = hash_none (λ (xs : List ℕ). xs) (g.S.Space.image c.args.space.now) c.args.shape.now c.args.audit c.args.head c.in-Err.stop (returns-in-Err-clause-walk g c)

pub loop-from-init : goal.loop-from-init
loop-from-init g c = record {
  reaches = rw c.new-walked.ensures (hash_begins (λ (w : VWord). c.enter_head.new.claims) (g.S.Space.image c.args.space.now) c.args.shape.now c.args.audit c.args.head c.in-Ok.first c.in-Ok.first
      c.in-Ok.ensures.word (rw c.new-claims.ensures at c.in-Ok.ensures.site));
  stays = c.in-Ok.ensures.stays;
  quiet = c.in-Ok.ensures.cause;
  fits = search rules;
  steps = rw c.new-walked.ensures (omega (arith, c.in-Ok.ensures.steps));
}

pub returns-in-Err-enter_node-clause-walk : goal.returns-in-Err-enter_node-clause-walk
returns-in-Err-enter_node-clause-walk g c =
    hash_goes_broken (λ (p : VWord × VWord). c.enter_node.new.claims) _ (g.S.Space.image c.args.space.now) c.args.shape.now c.args.audit c.args.head c.loop-from.claims c.loop-from.walked c.loop-from.from c.in-Err-enter_node.stop
    c.loop-from.invariant.reaches (search rules) (rw c.loop-from.invariant.stays.same_image at c.in-Err-enter_node.ensures.site)

pub returns-in-Err-enter_node-clause-none : goal.returns-in-Err-enter_node-clause-none
returns-in-Err-enter_node-clause-none g c = hash_none (λ (xs : List ℕ). xs) (g.S.Space.image c.args.space.now) c.args.shape.now c.args.audit c.args.head c.in-Err-enter_node.stop (returns-in-Err-enter_node-clause-walk g c)

pub returns-in-Err-enter_node-clause-bound : goal.returns-in-Err-enter_node-clause-bound
returns-in-Err-enter_node-clause-bound g c =
    next_steps (hashes c.args.shape.now c.args.audit c.args.head) (g.S.Space.image c.args.space.now) c.loop-from.claims c.loop-from.walked c.loop-from.from (g.S.Space.most c.args.space.now) c.args.steps.now c.loop-from.steps _
    c.loop-from.invariant.reaches (one_spare _ _ _ _ c.loop-from.invariant.steps) (rw c.loop-from.invariant.stays.same_most at c.in-Err-enter_node.ensures.steps)

pub returns-in_err-push_node-clause-bound : goal.returns-in_err-push_node-clause-bound
returns-in_err-push_node-clause-bound g c =
    next_steps (hashes c.args.shape.now c.args.audit c.args.head) (g.S.Space.image c.args.space.now) c.loop-from.claims c.loop-from.walked c.loop-from.from (g.S.Space.most c.args.space.now) c.args.steps.now c.loop-from.steps _
    c.loop-from.invariant.reaches (one_spare _ _ _ _ c.loop-from.invariant.steps) (rw c.loop-from.invariant.stays.same_most at c.in-Ok-enter_node.ensures.steps)

pub loop-from-preserved : goal.loop-from-preserved
loop-from-preserved g c = record {
  reaches = rw c.in_ok-push_node.ensures.added (hash_goes (λ (p : VWord × VWord). c.enter_node.new.claims) (g.S.Space.image c.args.space.now) c.args.shape.now c.args.audit c.args.head c.loop-from.claims c.loop-from.walked c.loop-from.from c.in-Ok-enter_node.links c.in-Ok-enter_node.links
      c.loop-from.invariant.reaches (search rules) (rw c.loop-from.invariant.stays.same_image at c.in-Ok-enter_node.ensures.links) (rw c.loop-from.invariant.stays.same_image at c.in-Ok-enter_node.ensures.site));
  stays = stays_on g.S.Space.image g.S.Space.files g.S.Space.through g.S.Space.most _ _ _ c.loop-from.invariant.stays c.in-Ok-enter_node.ensures.stays;
  quiet = c.in-Ok-enter_node.ensures.cause ∙ c.loop-from.invariant.quiet;
  fits = search rules;
  steps = rw (ap length c.in_ok-push_node.ensures.added ∙ length-append c.loop-from.walked (c.loop-from.from.value ∷ []))
      (two_more (g.S.Space.most c.args.space.now) (length c.loop-from.walked) c.args.steps.now c.loop-from.steps _ c.loop-from.invariant.steps (rw c.loop-from.invariant.stays.same_most at c.in-Ok-enter_node.ensures.steps));
}

pub returns-clause-walk : goal.returns-clause-walk
returns-clause-walk g c =
    hash_ends _ (g.S.Space.image c.args.space.now) c.args.shape.now c.args.audit c.args.head c.loop-from.claims c.loop-from.walked c.loop-from.from
    c.loop-from.invariant.reaches (search rules)

pub returns-clause-finite : goal.returns-clause-finite
returns-clause-finite g c = hash_finite (λ (xs : List ℕ). xs) (g.S.Space.image c.args.space.now) c.args.shape.now c.args.audit c.args.head c.loop-from.walked (returns-clause-walk g c)

pub returns-clause-bound : goal.returns-clause-bound
returns-clause-bound g c =
    site_steps (hashes c.args.shape.now c.args.audit c.args.head) (g.S.Space.image c.args.space.now) c.loop-from.claims c.loop-from.walked c.loop-from.from (g.S.Space.most c.args.space.now) c.args.steps.now _ c.loop-from.invariant.reaches (one_spare _ _ _ _ c.loop-from.invariant.steps)

pub returns-in-Err-clause-soon : goal.returns-in-Err-clause-soon
returns-in-Err-clause-soon g c = soon (List ℕ) (hashes c.args.shape.now c.args.audit c.args.head) (g.S.Space.image c.args.space.now) c.in-Err.stop (g.S.Space.most c.args.space.now) c.args.steps.now _ (omega (arith, c.in-Err.ensures.steps))

pub returns-in-Err-enter_node-clause-soon : goal.returns-in-Err-enter_node-clause-soon
returns-in-Err-enter_node-clause-soon g c =
    near (List ℕ) (hashes c.args.shape.now c.args.audit c.args.head) (g.S.Space.image c.args.space.now) c.in-Err-enter_node.stop c.loop-from.claims c.loop-from.walked c.loop-from.from (g.S.Space.most c.args.space.now) c.args.steps.now c.loop-from.steps _
    c.loop-from.invariant.reaches (one_spare _ _ _ _ c.loop-from.invariant.steps) (rw c.loop-from.invariant.stays.same_most at c.in-Err-enter_node.ensures.steps)
