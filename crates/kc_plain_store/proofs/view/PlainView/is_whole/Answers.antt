use Rattle.kc_outside.specs.declared.store.Slot.TheVariants.{Dump}
use Rattle.kc_outside.specs.Files.{content}
use Rattle.kc_plain_store.proofs.FaultLemmas.{said_whole}
use Rattle.kc_plain_store.proofs.view.PlainView.is_whole.Goals as goal

pub returns-in-Some : goal.returns-in-Some
returns-in-Some g c = λ name here.
    said_whole c.args.self.now.shape (content (g.S.Store.files c.args.self.now.store) Dump (g.S.Store.opened c.args.self.now.store Dump)) c.is_complete.result _ c.in-Some.is c.is_complete.ensures c.args.self.now.container
