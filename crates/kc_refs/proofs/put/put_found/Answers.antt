use Rattle.std.proofs.Common.{◌≡◌, List, ℕ, rules, ◌∙◌}
use Rattle.kc_outside.specs.declared.store.Slot.TheVariants.{Dump}
use Rattle.kc_outside.specs.Files.{content}
use Rattle.kc_sight.specs.Refs.Holding.{in_segment}
use Rattle.kc_refs.proofs.PartLemmas.{one_segment}
use Rattle.kc_refs.proofs.PutLemmas.{on_err_of, told_alike, told_cut, told_put}
use Rattle.kc_refs.proofs.put.put_found.Goals as goal

pub returns-in_err-put_all-clause-part : goal.returns-in_err-put_all-clause-part
returns-in_err-put_all-clause-part g c =
    let segment = c.args.segment.now in
    let sought = c.args.search.now.sought.now in
    let told = content (g.S.Store.files c.args.store.now) Dump (g.S.Store.opened c.args.store.now Dump) in
    let found = told_alike told _ (λ (bytes : List ℕ). c.in_ok-found.found.items ≡ in_segment sought bytes segment) (λ bytes is. is ∙ one_segment sought bytes segment) c.in_ok-found.ensures.found in
    on_err_of c.from_residual-in_err-put_all.result
    (told_cut told c.args.search.now.keys.now c.in_ok-found.found.items (λ bytes. in_segment sought bytes segment) c.in_ok-text.text.items (g.O.Sink.taken c.args.out.now) (g.O.Sink.taken c.put_all.new.sink) found (search rules) (search rules))

pub returns-clause-wrote : goal.returns-clause-wrote
returns-clause-wrote g c =
    let segment = c.args.segment.now in
    let sought = c.args.search.now.sought.now in
    let told = content (g.S.Store.files c.args.store.now) Dump (g.S.Store.opened c.args.store.now Dump) in
    let found = told_alike told _ (λ (bytes : List ℕ). c.in_ok-found.found.items ≡ in_segment sought bytes segment) (λ bytes is. is ∙ one_segment sought bytes segment) c.in_ok-found.ensures.found in
    told_put told c.args.search.now.keys.now c.in_ok-found.found.items (λ bytes. in_segment sought bytes segment) c.in_ok-text.text.items (g.O.Sink.taken c.args.out.now) (g.O.Sink.taken c.put_all.new.sink) c.len.result found (search rules) (search rules) (search rules)
