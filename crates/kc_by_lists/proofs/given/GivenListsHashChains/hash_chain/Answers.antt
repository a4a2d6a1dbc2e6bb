use Rattle.kc_memory.specs.declared.rule.Rule.TheVariants.{H1}
use Rattle.kc_memory.specs.Translation.{vword}
use Rattle.kc_list.specs.Listed.{is_hash_chain}
use Rattle.kc_steps.specs.Given.{misfit}
use Rattle.kc_by_lists.proofs.Telling.{copy_pays, halt_pays, list_halts, list_taken}
use Rattle.kc_by_lists.proofs.given.GivenListsHashChains.hash_chain.Goals as goal

pub returns-in-Ok-clause-exact : goal.returns-in-Ok-clause-exact
returns-in-Ok-clause-exact g c =
    list_taken (g.S.Space.image c.args.space.now) (λ i. is_hash_chain (vword i) c.args.shape.now c.args.head) (misfit c.args.asked.now H1 c.args.head) c.args.self.now.lists.now c.args.self.now.at c.get-nodes.result.now c.copy_of.result c.in-Ok.field-0
    c.get-nodes.ensures c.copy_of.ensures.copied c.copy_of.ensures.broken c.in-Ok.ensures.test

pub returns-in-Ok-clause-pays : goal.returns-in-Ok-clause-pays
returns-in-Ok-clause-pays g c = λ _. copy_pays c.args.self.now.lists.now c.args.self.now.at c.get-nodes.result.now c.copy_of.result c.args.steps.now c.test_chain.new.steps c.get-nodes.ensures c.copy_of.ensures.copied c.in-Ok.ensures.steps

pub returns-in-Err-clause-exact : goal.returns-in-Err-clause-exact
returns-in-Err-clause-exact g c =
    list_halts _ _ (g.S.Space.image c.args.space.now) (λ i. is_hash_chain (vword i) c.args.shape.now c.args.head) c.args.asked.now H1 c.args.head _ c.args.self.now.lists.now c.args.self.now.at c.get-nodes.result.now c.in-Err.halt c.ended-in-Err.result
    c.get-nodes.ensures c.ended-in-Err.ensures c.in-Err.ensures.test

pub returns-in-Err-clause-pays : goal.returns-in-Err-clause-pays
returns-in-Err-clause-pays g c = λ _. halt_pays c.args.self.now.lists.now c.args.self.now.at c.get-nodes.result.now c.ended-in-Err.result c.args.steps.now c.test_chain.new.steps c.get-nodes.ensures c.in-Err.ensures.steps
