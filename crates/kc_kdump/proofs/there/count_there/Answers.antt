use Rattle.std.proofs.Common.{◌≡◌, ◌+◌, ◌-◌, ◌*◌, ◌/◌, ◌<◌, ◌≤◌, ℕ, min, List, Option, IfSome, Result, Ok, Err, IfOk, arith}
use Rattle.kc_outside.specs.declared.store.Slot.TheVariants.{Dump}
use Rattle.kc_outside.specs.Files.{content}
use Rattle.kc_kdump.specs.declared.layout.Layout.{Layout}
use Rattle.kc_kdump.specs.Dump.{there_from}
use Rattle.kc_kdump.specs.Header.{table_in}
use Rattle.kc_kdump.proofs.ThereLemmas.{first_all}
use Rattle.kc_kdump.proofs.there.count_there.Goals as goal

all_of : {E : Type 0} (r : Result ℕ E) (content : Option (List ℕ)) (size : ℕ) (layout : Layout) (pages most fits : ℕ) → most ≡ min pages fits → size < table_in layout + 24 * (fits + 1)
    → IfOk r (λ n. IfSome content (λ bytes. n ≡ there_from size layout bytes 0 most)) → IfOk r (λ n. IfSome content (λ bytes. n ≡ there_from size layout bytes 0 pages))
all_of (Ok n) content size layout pages most fits is past told = first_all content size layout n pages most fits is past told
all_of (Err e) content size layout pages most fits is past told = tt

pub returns-clause-told : goal.returns-clause-told
returns-clause-told g c =
    all_of c.count_first.result (content (g.S.Store.files c.args.store.now) Dump (g.S.Store.opened c.args.store.now Dump)) c.args.size c.args.layout.now c.args.pages c.min.result ((c.args.size - c.table.result) / 24)
    c.min.ensures (omega (arith, c.table.ensures, c.requires.inside)) c.count_first.ensures.told
