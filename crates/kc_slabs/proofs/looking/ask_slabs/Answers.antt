use Rattle.std.specs.Option.{option_copied}
use Rattle.kc_outside.specs.declared.store.Slot.TheVariants.{Dump}
use Rattle.kc_outside.specs.Files.{content}
use Rattle.kc_question.specs.Memory.{bare_image}
use Rattle.kc_command.specs.Paging.{by_info}
use Rattle.kc_slab_page.specs.Frames.Frames.{frames}
use Rattle.kc_slabs.proofs.SlabsLemmas.{told_of}
use Rattle.kc_slabs.proofs.looking.ask_slabs.Goals as goal

pub returns-clause-told : goal.returns-clause-told
returns-clause-told g c =
    told_of (content (g.S.Store.files c.args.store.now) Dump (g.S.Store.opened c.args.store.now Dump)) (λ bytes. bare_image bytes c.args.core.now.segments (by_info c.args.info))
    c.args.shapes.now (option_copied c.args.wanted) _ (frames c.args.core.now.segments) c.in_ok-ask_dump.field-0
    (rw c.segments-segments.ensures at c.in_ok-runs.ensures) (rw (c.segments-segments.ensures, c.paging_by-paging.ensures, c.deref.ensures.value) at c.in_ok-ask_dump.ensures.says)
