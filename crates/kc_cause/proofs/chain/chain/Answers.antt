use Rattle.std.proofs.Common.{ap, arith, length, refl, sym, ◌∙◌}
use Rattle.kc_mem.specs.Paged.{with_paging}
use Rattle.kc_plan.specs.Views.{plan_seen}
use Rattle.kc_cause.proofs.ChainLemmas.{chain-ends, chain-long, chain-more, chain-starts, inside-left, only-memory}
use Rattle.kc_cause.proofs.chain.chain.Goals as goal

pub loop-i-init : goal.loop-i-init
loop-i-init g c = (
  chain-starts _ (plan_seen c.args.over.now.plan.now) (c.args.root.audit, c.args.root.start) c.args.first _ c.new-words.ensures,
  record { same_image = refl; same_files = refl; same_through = refl },
  refl,
  tt,
)

pub returns-in_default-clause-exact : goal.returns-in_default-clause-exact
returns-in_default-clause-exact g c =
    chain-ends _ (plan_seen c.args.over.now.plan.now) (c.args.root.audit, c.args.root.start) c.args.first c.loop-i._i c.loop-i.words c.loop-i.left c.ended.result
    (omega arith) (sym c.in_default.ensures) c.loop-i.invariant.0 c.ended.ensures.exact

pub returns-in_default-clause-reads : goal.returns-in_default-clause-reads
returns-in_default-clause-reads g c = record {
  stays = c.loop-i.invariant.1;
  cause = only-memory c.ended.result _ _ c.ended.ensures.cause c.loop-i.invariant.2;
}

pub loop-i-preserved : goal.loop-i-preserved
loop-i-preserved g c = (
  rw c.in-Ok.is (chain-more _ _ (plan_seen c.args.over.now.plan.now) (c.args.root.audit, c.args.root.start) c.args.first c.loop-i._i c.loop-i.words _ c.in-Some.suspect c.loop-i.left c.in-Ok.more
      (ap (with_paging c.args.over.now.paging) c.loop-i.invariant.1.same_image) (omega arith) (sym c.in-Some.ensures) (rw c.in-Ok.is at c.lead-tried.ensures.words)
      c.loop-i.invariant.0 (rw c.in-Ok.is at c.lead-tried.ensures.exact)),
  record {
    same_image = c.lead-tried.ensures.reads.stays.same_image ∙ c.loop-i.invariant.1.same_image;
    same_files = c.lead-tried.ensures.reads.stays.same_files ∙ c.loop-i.invariant.1.same_files;
    same_through = c.lead-tried.ensures.reads.stays.same_through ∙ c.loop-i.invariant.1.same_through;
  },
  (rw c.in-Ok.is at c.lead-tried.ensures.reads.cause) ∙ c.loop-i.invariant.2,
  rw c.in-Ok.is (inside-left (length c.args.over.now.types.now.records) _ c.in-Ok.more c.in-Ok.is c.lead-tried.ensures.inside),
)

pub returns-clause-exact : goal.returns-clause-exact
returns-clause-exact g c =
    chain-long _ (plan_seen c.args.over.now.plan.now) (c.args.root.audit, c.args.root.start) c.args.first c.loop-i._i c.loop-i.words c.loop-i.left (omega arith) c.loop-i.invariant.0
