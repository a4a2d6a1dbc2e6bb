use Rattle.std.proofs.Common.{◌∙◌, arith, sym}
use Rattle.kc_layout.proofs.FindLemmas.{least-at, least-none, none-more, nothing}
use Rattle.kc_layout.proofs.find.least.Goals as goal

pub returns-then-is_named-clause-exact : goal.returns-then-is_named-clause-exact
returns-then-is_named-clause-exact c =
    let named = sym c.is_named.ensures ∙ c.if-is_named.true in
    sym (least-at c.args.btf.now c.args.name.now c.args.wanted c.loop-index.index c.ty-t.result nothing (omega arith) c.loop-index.invariant c.ty-t.ensures.exact named)

pub loop-index-preserved : goal.loop-index-preserved
loop-index-preserved c =
    none-more c.args.btf.now c.args.name.now c.args.wanted c.loop-index.index c.ty-t.result (omega arith) c.loop-index.invariant c.ty-t.ensures.exact (sym c.is_named.ensures ∙ c.if-is_named.false)

pub returns-clause-exact : goal.returns-clause-exact
returns-clause-exact c = sym (least-none c.args.btf.now c.args.name.now c.args.wanted c.loop-index.index (omega arith) c.loop-index.invariant)
