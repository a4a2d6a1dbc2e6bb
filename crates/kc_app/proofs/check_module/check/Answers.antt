use Rattle.kc_outside.specs.declared.store.Slot.TheVariants.{Dump, Btf, Map, Module, Plan}
use Rattle.kc_outside.specs.Files.{content}
use Rattle.kc_app.specs.CheckModule.{audited_with}
use Rattle.kc_app.proofs.Holding.{held_prints}
use Rattle.kc_app.proofs.check_module.check.Goals as goal

pub returns-clause-output : goal.returns-clause-output
returns-clause-output g c =
    held_prints (λ files. audited_with c.args.asks.now.files.most (files Dump c.args.asks.now.files.kernel.dump.now) (files Btf c.args.asks.now.files.kernel.btf.now) (files Module c.args.asks.now.split.now) (files Map c.args.asks.now.files.kernel.map.now) (files Plan c.args.asks.now.files.plan.now))
    (g.S.Store.files c.args.store.now) (content (g.S.Store.files c.read_joined.new.store) Dump (g.S.Store.opened c.read_joined.new.store Dump)) c.in_ok-held.held c.judge.result
    c.in_ok-held.ensures.told c.judge.ensures.output
