use Rattle.std.proofs.Common.{arith}
use Rattle.kc_memory.specs.declared.rule.Rule.TheVariants.{U5}
use Rattle.kc_found.specs.FreeLists.{low_word}
use Rattle.kc_by_lists.specs.Tests.{is_free_list}
use Rattle.kc_steps.specs.Given.{misfit}
use Rattle.kc_by_lists.proofs.Telling.{copy_pays, halt_pays, list_halts, list_taken}
use Rattle.kc_by_lists.proofs.given.GivenListsChains.free.Goals as goal

pub returns-in-Ok-clause-exact : goal.returns-in-Ok-clause-exact
returns-in-Ok-clause-exact g c =
    list_taken (g.S.Space.image c.args.space.now) (λ i. is_free_list i c.args.grid.now c.args.first) (misfit c.args.asked.now U5 (low_word c.args.first.value)) c.args.self.now.lists.now c.args.self.now.at c.get-objects.result.now c.copy_of.result c.in-Ok.field-0
    c.get-objects.ensures c.copy_of.ensures.copied c.copy_of.ensures.broken c.in-Ok.ensures.test

pub returns-in-Ok-clause-pays : goal.returns-in-Ok-clause-pays
returns-in-Ok-clause-pays g c = λ _. copy_pays c.args.self.now.lists.now c.args.self.now.at c.get-objects.result.now c.copy_of.result c.args.steps.now c.test_free_list.new.steps c.get-objects.ensures c.copy_of.ensures.copied (omega (arith, c.in-Ok.ensures.steps))

pub returns-in-Err-clause-exact : goal.returns-in-Err-clause-exact
returns-in-Err-clause-exact g c =
    list_halts _ _ (g.S.Space.image c.args.space.now) (λ i. is_free_list i c.args.grid.now c.args.first) c.args.asked.now U5 (low_word c.args.first.value) _ c.args.self.now.lists.now c.args.self.now.at c.get-objects.result.now c.in-Err.halt c.ended-in-Err.result
    c.get-objects.ensures (rw c.low_word-at.ensures at c.ended-in-Err.ensures) c.in-Err.ensures.test

pub returns-in-Err-clause-pays : goal.returns-in-Err-clause-pays
returns-in-Err-clause-pays g c = λ _. halt_pays c.args.self.now.lists.now c.args.self.now.at c.get-objects.result.now c.ended-in-Err.result c.args.steps.now c.test_free_list.new.steps c.get-objects.ensures (omega (arith, c.in-Err.ensures.steps))
