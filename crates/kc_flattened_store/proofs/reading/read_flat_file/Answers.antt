use Rattle.std.proofs.Common.{◌≡◌, ◌≤◌, ◌+◌, ℕ, List, length, take, drop, ap, ◌∙◌, arith}
use Rattle.kc_outside.specs.declared.store.Slot.TheVariants.{Dump}
use Rattle.kc_outside.specs.Files.{content}
use Rattle.kc_flattened.specs.declared.record.Record.{Record}
use Rattle.kc_flattened.specs.Flat.{pasted, size_of}
use Rattle.kc_flattened.proofs.FlatLemmas.{along}
use Rattle.kc_flattened_store.proofs.reading.read_flat_file.Goals as goal

pub returns-in-Ok-clause-part : goal.returns-in-Ok-clause-part
returns-in-Ok-clause-part g c =
    let sized = c.args.file.now.sized in
    let same : c.deref.result.now ≡ c.args.file.now.records.items = c.deref.ensures.value in
    let long : size_of c.deref.result.now ≡ size_of c.args.file.now.records.items = ap (λ (rs : List Record). size_of rs) same in
    along (content (g.S.Store.files c.args.store.now) Dump (g.S.Store.opened c.args.store.now Dump))
    (λ (bytes : List ℕ). c.args.off + length c.args.buf.now ≤ size_of c.deref.result.now
    → c.read_part.new.buf ≡ take (length c.args.buf.now) (drop c.args.off (pasted bytes c.deref.result.now)))
    (λ (bytes : List ℕ). c.read_part.new.buf ≡ take (length c.args.buf.now) (drop c.args.off (pasted bytes c.args.file.now.records.items)))
    (λ bytes h. h (omega (arith, sized, long)) ∙ ap (λ (rs : List Record). take (length c.args.buf.now) (drop c.args.off (pasted bytes rs))) same)
    c.in-Ok.ensures.part
