use Rattle.kc_why.specs.Why.{Sight}
use Rattle.kc_why.proofs.WhyLemmas.{prints_made}
use Rattle.kc_why.proofs.files.why.Goals as goal

pub returns-clause-output : goal.returns-clause-output
returns-clause-output g c =
    prints_made (Sight c.args.asks.now.number) (g.S.Store.files c.args.store.now) c.args.asks.now.files.dump.now c.args.asks.now.files.btf.now c.args.asks.now.files.map.now c.in_ok-kernel.kernel _ c.see.result
    c.in_ok-kernel.ensures.told c.in_ok-kernel.ensures.content c.see.ensures.output
