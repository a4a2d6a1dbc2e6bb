use Rattle.std.proofs.Common.{rules, arith, ap, ◌∙◌, ◌≡◌, ◌+◌, ◌*◌, ◌≤◌, [], ◌∷◌, ◌++◌, length, Option, Err}
use Rattle.kc_found.specs.declared.trees.RbHead.{RbHead}
use Rattle.kc_found.specs.declared.trees.RbKey.{RbKey}
use Rattle.kc_found.specs.declared.trees.RbLinks.{RbLinks}
use Rattle.kc_found.specs.RbTrees.{left_spot, right_spot}
use Rattle.kc_laws.specs.Chains.{few_steps}
use Rattle.kc_rb.specs.declared.walk.Task.TheVariants.{Visit, Give}
use Rattle.kc_rb.proofs.Rise.{rise_starts, rise_stops, rise_gives, rise_skips, rise_differs, rise_enters, rise_breaks, rise_ends_wrong, rise_bound, most_first, most_on, deep_pop, deep_push, blacks_below}
use Rattle.kc_rb.proofs.walk.walk_tree.Goals as goal

pub returns-in_err-head-clause-walk : goal.returns-in_err-head-clause-walk
returns-in_err-head-clause-walk g c =
    let ends : c.from_residual.result ≡ Err c.in_err-head.field-0.0 = search rules in
    rw ends (rise_stops (λ (x : RbHead). c.enter_head.new.claims) _ (g.S.Space.image c.args.space.now) c.args.shape.now c.args.asked.now c.in_err-head.field-0.0 (rw c.new-claims.ensures at c.in_err-head.ensures.site))

pub loop-task-init : goal.loop-task-init
loop-task-init g c = rw (c.new-walked.ensures, c.in_ok-push_task.ensures.added, c.new-pending.ensures.items, c.root_of.ensures) (record {
  rises = rise_starts (λ (x : RbHead). c.enter_head.new.claims) (g.S.Space.image c.args.space.now) c.args.shape.now c.args.asked.now c.in_ok-head.head c.in_ok-head.head c.in_ok-head.ensures.head (rw c.new-claims.ensures at c.in_ok-head.ensures.site);
  stays = c.in_ok-head.ensures.stays;
  quiet = c.in_ok-head.ensures.cause;
  deep = ((omega arith, omega arith), tt);
  fits = c.in_ok-head.ensures.fits;
  steps = most_first (g.S.Space.most c.args.space.now) c.args.steps.now c.enter_head.new.steps (length c.enter_head.new.claims) c.in_ok-head.ensures.steps;
})

pub loop-task-preserved-in-Give : goal.loop-task-preserved-in-Give
loop-task-preserved-in-Give g c =
    let is : c.loop-task.pending.items ≡ c.pop.new.self.items ++ Give c.in-Give.node ∷ [] = c.in-Some.ensures.items ∙ ap (λ t. c.pop.new.self.items ++ t ∷ []) c.in-Give.is in record {
      rises = rw c.in_ok-push_node-in-Give.ensures.added (rise_gives (g.S.Space.image c.args.space.now) c.args.shape.now c.args.asked.now c.in_ok-head.head c.loop-task.claims c.loop-task.walked c.loop-task.first c.loop-task.pending.items c.pop.new.self.items c.in-Give.node is c.loop-task.invariant.rises);
      stays = c.loop-task.invariant.stays;
      quiet = c.loop-task.invariant.quiet;
      deep = (deep_pop (length c.loop-task.claims) c.loop-task.pending.items c.pop.new.self.items (Give c.in-Give.node) is c.loop-task.invariant.deep).0;
      fits = c.loop-task.invariant.fits;
      steps = c.loop-task.invariant.steps;
    }

pub returns-in_err-number-clause-walk : goal.returns-in_err-number-clause-walk
returns-in_err-number-clause-walk g c =
    let is : c.loop-task.pending.items ≡ c.pop.new.self.items ++ Visit c.in-Visit.spot c.in-Visit.depth ∷ [] = c.in-Some.ensures.items ∙ ap (λ t. c.pop.new.self.items ++ t ∷ []) c.in-Visit.is in
    let deep = deep_pop (length c.loop-task.claims) c.loop-task.pending.items c.pop.new.self.items (Visit c.in-Visit.spot c.in-Visit.depth) is c.loop-task.invariant.deep in
    let far : 3 * c.in-Visit.depth ≤ length c.loop-task.claims = deep.1.0 in
    let black : c.in-Visit.spot.black ≤ c.in-Visit.depth = deep.1.1 in
    let ends : c.from_residual-in_err-number.result ≡ Err c.in_err-number.field-0.0 = search rules in
    rw ends (rise_differs _ (g.S.Space.image c.args.space.now) c.args.shape.now c.args.asked.now c.in_ok-head.head c.loop-task.claims c.loop-task.walked c.loop-task.first c.loop-task.pending.items c.pop.new.self.items c.in-Visit.spot c.in-Visit.depth c.in_err-number.field-0.0 is far (search rules) c.in_err-number.ensures.fault c.loop-task.invariant.rises)

pub loop-task-preserved-then-spot-eq0 : goal.loop-task-preserved-then-spot-eq0
loop-task-preserved-then-spot-eq0 g c =
    let is : c.loop-task.pending.items ≡ c.pop.new.self.items ++ Visit c.in-Visit.spot c.in-Visit.depth ∷ [] = c.in-Some.ensures.items ∙ ap (λ t. c.pop.new.self.items ++ t ∷ []) c.in-Visit.is in
    let deep = deep_pop (length c.loop-task.claims) c.loop-task.pending.items c.pop.new.self.items (Visit c.in-Visit.spot c.in-Visit.depth) is c.loop-task.invariant.deep in
    let far : 3 * c.in-Visit.depth ≤ length c.loop-task.claims = deep.1.0 in
    let black : c.in-Visit.spot.black ≤ c.in-Visit.depth = deep.1.1 in record {
      rises = rw c.in_ok-number.ensures.number (rise_skips (g.S.Space.image c.args.space.now) c.args.shape.now c.args.asked.now c.in_ok-head.head c.loop-task.claims c.loop-task.walked c.loop-task.first c.loop-task.pending.items c.pop.new.self.items c.in-Visit.spot c.in-Visit.depth is far (search rules) c.in_ok-number.ensures.fault c.loop-task.invariant.rises);
      stays = c.loop-task.invariant.stays;
      quiet = c.loop-task.invariant.quiet;
      deep = deep.0;
      fits = c.loop-task.invariant.fits;
      steps = c.loop-task.invariant.steps;
    }

pub returns-in_err-links-clause-walk : goal.returns-in_err-links-clause-walk
returns-in_err-links-clause-walk g c =
    let is : c.loop-task.pending.items ≡ c.pop.new.self.items ++ Visit c.in-Visit.spot c.in-Visit.depth ∷ [] = c.in-Some.ensures.items ∙ ap (λ t. c.pop.new.self.items ++ t ∷ []) c.in-Visit.is in
    let deep = deep_pop (length c.loop-task.claims) c.loop-task.pending.items c.pop.new.self.items (Visit c.in-Visit.spot c.in-Visit.depth) is c.loop-task.invariant.deep in
    let far : 3 * c.in-Visit.depth ≤ length c.loop-task.claims = deep.1.0 in
    let black : c.in-Visit.spot.black ≤ c.in-Visit.depth = deep.1.1 in
    let ends : c.from_residual-in_err-links.result ≡ Err c.in_err-links.field-0.0 = search rules in
    rw ends (rise_breaks (λ (p : RbLinks × Option RbKey). c.enter_node.new.claims) _ (g.S.Space.image c.args.space.now) c.args.shape.now c.args.asked.now c.in_ok-head.head c.loop-task.claims c.loop-task.walked c.loop-task.first c.loop-task.pending.items c.pop.new.self.items c.in-Visit.spot c.in-Visit.depth c.in_err-links.field-0.0 is far (search rules) (rw c.loop-task.invariant.stays.same_image at c.in_err-links.ensures.site) c.loop-task.invariant.rises)

pub returns-in_err-judge_leftmost-clause-walk : goal.returns-in_err-judge_leftmost-clause-walk
returns-in_err-judge_leftmost-clause-walk g c =
    let ends : c.from_residual-in_err-judge_leftmost.result ≡ Err c.in_err-judge_leftmost.field-0.0 = search rules in
    let none : c.loop-task.pending.items ≡ [] = search rules in
    rw ends (rise_ends_wrong _ (g.S.Space.image c.args.space.now) c.args.shape.now c.args.asked.now c.in_ok-head.head c.loop-task.claims c.loop-task.walked c.loop-task.first c.loop-task.pending.items c.in_err-judge_leftmost.field-0.0 none c.in_err-judge_leftmost.ensures.fault c.loop-task.invariant.rises)

pub overflow_add-depth : goal.overflow_add-depth
overflow_add-depth g c =
    let is : c.loop-task.pending.items ≡ c.pop.new.self.items ++ Visit c.in-Visit.spot c.in-Visit.depth ∷ [] = c.in-Some.ensures.items ∙ ap (λ t. c.pop.new.self.items ++ t ∷ []) c.in-Visit.is in
    let deep = deep_pop (length c.loop-task.claims) c.loop-task.pending.items c.pop.new.self.items (Visit c.in-Visit.spot c.in-Visit.depth) is c.loop-task.invariant.deep in
    let far : 3 * c.in-Visit.depth ≤ length c.loop-task.claims = deep.1.0 in
    let black : c.in-Visit.spot.black ≤ c.in-Visit.depth = deep.1.1 in
    omega (arith, far, c.loop-task.invariant.fits)

pub push_children-requires : goal.push_children-requires
push_children-requires g c =
    let is : c.loop-task.pending.items ≡ c.pop.new.self.items ++ Visit c.in-Visit.spot c.in-Visit.depth ∷ [] = c.in-Some.ensures.items ∙ ap (λ t. c.pop.new.self.items ++ t ∷ []) c.in-Visit.is in
    let deep = deep_pop (length c.loop-task.claims) c.loop-task.pending.items c.pop.new.self.items (Visit c.in-Visit.spot c.in-Visit.depth) is c.loop-task.invariant.deep in
    let far : 3 * c.in-Visit.depth ≤ length c.loop-task.claims = deep.1.0 in
    let black : c.in-Visit.spot.black ≤ c.in-Visit.depth = deep.1.1 in
    omega (arith, far, black, c.loop-task.invariant.fits)

pub loop-task-preserved : goal.loop-task-preserved
loop-task-preserved g c =
    let is : c.loop-task.pending.items ≡ c.pop.new.self.items ++ Visit c.in-Visit.spot c.in-Visit.depth ∷ [] = c.in-Some.ensures.items ∙ ap (λ t. c.pop.new.self.items ++ t ∷ []) c.in-Visit.is in
    let deep = deep_pop (length c.loop-task.claims) c.loop-task.pending.items c.pop.new.self.items (Visit c.in-Visit.spot c.in-Visit.depth) is c.loop-task.invariant.deep in
    let far : 3 * c.in-Visit.depth ≤ length c.loop-task.claims = deep.1.0 in
    let black : c.in-Visit.spot.black ≤ c.in-Visit.depth = deep.1.1 in record {
      rises = rw c.in_ok-push_children.ensures.added (rise_enters (λ (p : RbLinks × Option RbKey). c.enter_node.new.claims) (g.S.Space.image c.args.space.now) c.args.shape.now c.args.asked.now c.in_ok-head.head c.loop-task.claims c.loop-task.walked c.loop-task.first c.loop-task.pending.items c.pop.new.self.items c.in-Visit.spot c.in-Visit.depth (c.in_ok-links.links, c.in_ok-links.key) c.in_ok-links.links c.in_ok-links.key is far (search rules)
          (rw c.loop-task.invariant.stays.same_image at c.in_ok-links.ensures.links) (rw c.loop-task.invariant.stays.same_image at c.in_ok-links.ensures.key) (rw c.loop-task.invariant.stays.same_image at c.in_ok-links.ensures.site) c.loop-task.invariant.rises);
      stays = record {
        same_image = c.in_ok-links.ensures.stays.same_image ∙ c.loop-task.invariant.stays.same_image;
        same_files = c.in_ok-links.ensures.stays.same_files ∙ c.loop-task.invariant.stays.same_files;
        same_through = c.in_ok-links.ensures.stays.same_through ∙ c.loop-task.invariant.stays.same_through;
        same_most = c.in_ok-links.ensures.stays.same_most ∙ c.loop-task.invariant.stays.same_most;
      };
      quiet = c.in_ok-links.ensures.cause ∙ c.loop-task.invariant.quiet;
      deep = rw c.in_ok-push_children.ensures.added (deep_push (length c.loop-task.claims) (length c.enter_node.new.claims) c.pop.new.self.items (right_spot c.in-Visit.spot c.in_ok-links.links c.in_ok-links.key) (left_spot c.in-Visit.spot c.in_ok-links.links c.in_ok-links.key) c.in-Visit.spot.link.value (c.in-Visit.depth + 1) (omega (arith, c.in_ok-links.ensures.more)) (omega (arith, c.in_ok-links.ensures.more, far))
          (blacks_below c.in-Visit.spot c.in_ok-links.links c.in-Visit.depth black) (blacks_below c.in-Visit.spot c.in_ok-links.links c.in-Visit.depth black) deep.0);
      fits = c.in_ok-links.ensures.fits;
      steps = most_on (g.S.Space.most c.args.space.now) (g.S.Space.most c.loop-task.space) c.args.steps.now c.loop-task.steps c.enter_node.new.steps (length c.loop-task.claims) (length c.enter_node.new.claims) c.loop-task.invariant.steps c.in_ok-links.ensures.steps c.loop-task.invariant.stays.same_most c.in_ok-links.ensures.more;
    }

pub returns-in_err-push_node-in-Give-clause-bound : goal.returns-in_err-push_node-in-Give-clause-bound
returns-in_err-push_node-in-Give-clause-bound g c =
    rise_bound (g.S.Space.image c.args.space.now) c.args.shape.now c.args.asked.now c.in_ok-head.head c.loop-task.claims c.loop-task.walked c.loop-task.first c.loop-task.pending.items (g.S.Space.most c.args.space.now) (g.S.Space.most c.loop-task.space) c.args.steps.now c.loop-task.steps c.loop-task.steps c.loop-task.invariant.steps (omega arith) c.loop-task.invariant.stays.same_most c.loop-task.invariant.rises

pub returns-in_err-number-clause-bound : goal.returns-in_err-number-clause-bound
returns-in_err-number-clause-bound g c =
    rise_bound (g.S.Space.image c.args.space.now) c.args.shape.now c.args.asked.now c.in_ok-head.head c.loop-task.claims c.loop-task.walked c.loop-task.first c.loop-task.pending.items (g.S.Space.most c.args.space.now) (g.S.Space.most c.loop-task.space) c.args.steps.now c.loop-task.steps c.loop-task.steps c.loop-task.invariant.steps (omega arith) c.loop-task.invariant.stays.same_most c.loop-task.invariant.rises

pub returns-in_err-links-clause-bound : goal.returns-in_err-links-clause-bound
returns-in_err-links-clause-bound g c =
    rise_bound (g.S.Space.image c.args.space.now) c.args.shape.now c.args.asked.now c.in_ok-head.head c.loop-task.claims c.loop-task.walked c.loop-task.first c.loop-task.pending.items (g.S.Space.most c.args.space.now) (g.S.Space.most c.loop-task.space) c.args.steps.now c.loop-task.steps c.enter_node.new.steps c.loop-task.invariant.steps c.in_err-links.ensures.steps c.loop-task.invariant.stays.same_most c.loop-task.invariant.rises

pub returns-in_err-push_children-clause-bound : goal.returns-in_err-push_children-clause-bound
returns-in_err-push_children-clause-bound g c =
    rise_bound (g.S.Space.image c.args.space.now) c.args.shape.now c.args.asked.now c.in_ok-head.head c.loop-task.claims c.loop-task.walked c.loop-task.first c.loop-task.pending.items (g.S.Space.most c.args.space.now) (g.S.Space.most c.loop-task.space) c.args.steps.now c.loop-task.steps c.enter_node.new.steps c.loop-task.invariant.steps c.in_ok-links.ensures.steps c.loop-task.invariant.stays.same_most c.loop-task.invariant.rises

pub returns-in_err-judge_leftmost-clause-bound : goal.returns-in_err-judge_leftmost-clause-bound
returns-in_err-judge_leftmost-clause-bound g c =
    rise_bound (g.S.Space.image c.args.space.now) c.args.shape.now c.args.asked.now c.in_ok-head.head c.loop-task.claims c.loop-task.walked c.loop-task.first c.loop-task.pending.items (g.S.Space.most c.args.space.now) (g.S.Space.most c.loop-task.space) c.args.steps.now c.loop-task.steps c.loop-task.steps c.loop-task.invariant.steps (omega arith) c.loop-task.invariant.stays.same_most c.loop-task.invariant.rises

pub returns-clause-bound : goal.returns-clause-bound
returns-clause-bound g c =
    rise_bound (g.S.Space.image c.args.space.now) c.args.shape.now c.args.asked.now c.in_ok-head.head c.loop-task.claims c.loop-task.walked c.loop-task.first c.loop-task.pending.items (g.S.Space.most c.args.space.now) (g.S.Space.most c.loop-task.space) c.args.steps.now c.loop-task.steps c.loop-task.steps c.loop-task.invariant.steps (omega arith) c.loop-task.invariant.stays.same_most c.loop-task.invariant.rises

pub returns-in_err-head-clause-bound : goal.returns-in_err-head-clause-bound
returns-in_err-head-clause-bound g c =
    few_steps (g.S.Space.image c.args.space.now) (g.S.Space.most c.args.space.now) c.args.steps.now c.enter_head.new.steps c.in_err-head.ensures.steps

pub returns-in_err-push_task-clause-bound : goal.returns-in_err-push_task-clause-bound
returns-in_err-push_task-clause-bound g c =
    few_steps (g.S.Space.image c.args.space.now) (g.S.Space.most c.args.space.now) c.args.steps.now c.enter_head.new.steps c.in_ok-head.ensures.steps
