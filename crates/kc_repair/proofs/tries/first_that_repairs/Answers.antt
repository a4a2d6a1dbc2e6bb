use Rattle.std.proofs.Common.{ap, arith, find, ◌∙◌}
use Rattle.kc_mem.specs.Paged.{with_paging}
use Rattle.kc_plan.specs.Views.{plan_seen}
use Rattle.kc_repair.specs.Repairs.{repairs, judged_with, stands_of, with_words}
use Rattle.kc_repair.proofs.Trying.{at_end, ends, firsts_repair, goes_on, quiet}
use Rattle.kc_repair.proofs.tries.first_that_repairs.Goals as goal

pub returns-in-Some-clause-exact : goal.returns-in-Some-clause-exact
returns-in-Some-clause-exact g c =
    ends _ _ (λ image. judged_with (with_words image c.args.earlier.now) (plan_seen c.args.by.now.audit.now.plan.now) (c.args.by.now.audit.now.root.audit, c.args.by.now.audit.now.root.start) c.args.by.now.walk.now c.args.by.now.only)
    stands_of (λ judge xs. find (repairs judge) xs) c.args.suspects.now c.loop-i.i _ c.try_suspect-trial.result.answer c.in-Some.answer firsts_repair
    (ap (with_paging c.args.paging) c.loop-i.invariant.1.same_image) (omega arith) c.try_suspect-trial.ensures.exact c.loop-i.invariant.0 c.in-Some.ensures

pub loop-i-preserved : goal.loop-i-preserved
loop-i-preserved g c = (
  goes_on _ _ (λ image. judged_with (with_words image c.args.earlier.now) (plan_seen c.args.by.now.audit.now.plan.now) (c.args.by.now.audit.now.root.audit, c.args.by.now.audit.now.root.start) c.args.by.now.walk.now c.args.by.now.only)
      stands_of (λ judge xs. find (repairs judge) xs) c.args.suspects.now c.loop-i.i _ c.try_suspect-trial.result.answer c.if_stands.result firsts_repair
      (ap (with_paging c.args.paging) c.loop-i.invariant.1.same_image) (omega arith) c.try_suspect-trial.ensures.exact c.loop-i.invariant.0 c.if_stands.ensures c.in-None.is,
  record {
    same_image = c.try_suspect-trial.ensures.reads.stays.same_image ∙ c.loop-i.invariant.1.same_image;
    same_files = c.try_suspect-trial.ensures.reads.stays.same_files ∙ c.loop-i.invariant.1.same_files;
    same_through = c.try_suspect-trial.ensures.reads.stays.same_through ∙ c.loop-i.invariant.1.same_through;
  },
  quiet (stands_of _) c.try_suspect-trial.result.answer c.if_stands.result _ _ c.if_stands.ensures c.in-None.is c.try_suspect-trial.ensures.reads.cause ∙ c.loop-i.invariant.2,
)

pub returns-clause-exact : goal.returns-clause-exact
returns-clause-exact g c =
    at_end _ (λ image xs. find (repairs (judged_with (with_words image c.args.earlier.now) (plan_seen c.args.by.now.audit.now.plan.now) (c.args.by.now.audit.now.root.audit, c.args.by.now.audit.now.root.start) c.args.by.now.walk.now c.args.by.now.only)) xs) c.args.suspects.now c.loop-i.i (omega arith) c.loop-i.invariant.0
