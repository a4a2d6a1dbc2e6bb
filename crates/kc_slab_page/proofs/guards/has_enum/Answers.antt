use Rattle.std.proofs.Common.{◌∙◌, arith, sym}
use Rattle.kc_slab_page.proofs.EnumLemmas.{found_at, found_none, none_more}
use Rattle.kc_slab_page.proofs.guards.has_enum.Goals as goal

pub returns-then-is_enum_named : goal.returns-then-is_enum_named
returns-then-is_enum_named c =
    sym (found_at c.args.types.now c.args.name.now c.loop-index.index c.ty-t.result (omega arith) c.ty-t.ensures.exact (sym c.is_enum_named.ensures ∙ c.if-is_enum_named.true))

pub loop-index-preserved : goal.loop-index-preserved
loop-index-preserved c =
    none_more c.args.types.now c.args.name.now c.loop-index.index c.ty-t.result c.loop-index.invariant c.ty-t.ensures.exact (sym c.is_enum_named.ensures ∙ c.if-is_enum_named.false)

pub returns : goal.returns
returns c = sym (found_none c.args.types.now c.args.name.now c.loop-index.index (omega arith) c.loop-index.invariant)
