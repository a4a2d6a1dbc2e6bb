use Rattle.kc_outside.specs.declared.store.Slot.TheVariants.{Dump, Btf, Map, Plan}
use Rattle.kc_outside.specs.Files.{content}
use Rattle.kc_app.specs.Check.{audited}
use Rattle.kc_app.proofs.Holding.{held_prints}
use Rattle.kc_app.proofs.check.check.Goals as goal

pub returns-clause-output : goal.returns-clause-output
returns-clause-output g c =
    held_prints (λ files. audited c.args.asks.now.most (files Dump c.args.asks.now.kernel.dump.now) (files Btf c.args.asks.now.kernel.btf.now) (files Map c.args.asks.now.kernel.map.now) (files Plan c.args.asks.now.plan.now))
    (g.S.Store.files c.args.store.now) (content (g.S.Store.files c.read_held.new.store) Dump (g.S.Store.opened c.read_held.new.store Dump)) c.in_ok-held.held c.judge.result
    c.in_ok-held.ensures.told c.judge.ensures.output
