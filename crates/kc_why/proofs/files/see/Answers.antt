use Rattle.std.proofs.Common.{List, ℕ, [], ap, ◌∙◌}
use Rattle.kc_outside.specs.declared.store.Slot.TheVariants.{Dump}
use Rattle.kc_outside.specs.Files.{content}
use Rattle.kc_syms.specs.Symbols.{symbol}
use Rattle.kc_command.specs.Kernels.{kernel_view}
use Rattle.kc_command.specs.declared.ends.answer.Answer.TheVariants as answer
use Rattle.kc_command.specs.declared.ends.status.Status.TheVariants.{Done}
use Rattle.kc_told.specs.Objects.{shapes_by}
use Rattle.kc_told.specs.SeenText.{map_symbols}
use Rattle.kc_told.specs.Views.{shapes_view}
use Rattle.kc_why.specs.Memory.{memory_of}
use Rattle.kc_why.proofs.WhyLemmas.{prints_why, rows_checked, rules_read}
use Rattle.kc_why.proofs.files.see.Goals as goal

pub returns-in-Ok-clause-output : goal.returns-in-Ok-clause-output
returns-in-Ok-clause-output g c =
    let kernel = c.args.kernel.now in
    let read = c.in_ok-symbols.ensures.made in
    let listed = rows_checked _ read.0 read.1 in
    prints_why (content (g.S.Store.files c.args.store.now) Dump (g.S.Store.opened c.args.store.now Dump)) (memory_of (kernel_view kernel))
    c.args.address (kernel_view kernel) (map_symbols c.in_ok-shapes.shapes.map) _ (shapes_view c.in_ok-shapes.shapes) read.0 c.in_ok-seen.seen (answer.Done c.in-Ok.text) (rw c.as_slice-map.ensures.value at read.1)
    (c.in_ok-shapes.ensures.symbols read.0 listed read.2)
    (rules_read kernel.info (symbol c.in_ok-symbols.symbols) read.0 c.address.result read.2 c.address.ensures.exact) (c.in_ok-shapes.ensures.exact read.0 listed read.2 ∙ ap (λ (n : List ℕ). shapes_by kernel.types read.0 kernel.info n) c.note_of-note.ensures) c.in_ok-seen.ensures.sight c.in_ok-seen.ensures.told c.in_ok-seen.ensures.leads
    (ap (λ (o : List ℕ). record { out = o; err = []; status = Done }) (rw c.in-Ok.is at c.seen_text.ensures))
