use Rattle.std.proofs.Common.{rules, ◌∙◌}
use Rattle.kc_memory.specs.Stays.{stays_on}
use Rattle.kc_module_symbols.proofs.SymbolLemmas.{symbols_begin, symbols_done, symbols_lack, symbols_next}
use Rattle.kc_module_symbols.proofs.nearest.read_nearest.Goals as goal

pub loop-number-init : goal.loop-number-init
loop-number-init g c = record {
  far = symbols_begin c.args.sought.now c.args.table.now (g.S.Space.image c.args.space.now);
  stays = search rules;
  quiet = search rules;
}

pub returns-in-Ok-None-clause-exact : goal.returns-in-Ok-None-clause-exact
returns-in-Ok-None-clause-exact g c =
    symbols_lack c.args.sought.now c.args.table.now (g.S.Space.image c.args.space.now) c.loop-number.number c.loop-number.best (search rules)
    (rw (c.loop-number.invariant.stays.same_image, c.in-Ok-None.field-0-is) at c.in-Ok-None.ensures.exact) c.loop-number.invariant.far

pub loop-number-preserved : goal.loop-number-preserved
loop-number-preserved g c = record {
  far = symbols_next c.args.sought.now c.args.table.now (g.S.Space.image c.args.space.now) c.loop-number.number c.loop-number.best _ (search rules)
      (rw (c.loop-number.invariant.stays.same_image, c.in-Ok-Some.field-0-is) at c.in-Ok-Some.ensures.exact) c.loop-number.invariant.far;
  stays = stays_on g.S.Space.image g.S.Space.files g.S.Space.through g.S.Space.most _ _ _ c.loop-number.invariant.stays c.in-Ok-Some.ensures.stays;
  quiet = c.in-Ok-Some.ensures.cause ∙ c.loop-number.invariant.quiet;
}

pub returns-clause-exact : goal.returns-clause-exact
returns-clause-exact g c =
    symbols_done c.args.sought.now c.args.table.now (g.S.Space.image c.args.space.now) c.loop-number.number c.loop-number.best (search rules) c.loop-number.invariant.far
