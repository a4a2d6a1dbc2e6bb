use Rattle.kc_outside.specs.declared.store.Slot.TheVariants.{Dump}
use Rattle.kc_outside.specs.Files.{content}
use Rattle.kc_command.specs.Paging.{by_info}
use Rattle.kc_question.specs.Memory.{bare_image}
use Rattle.kc_files.specs.Sought.{sought_view}
use Rattle.kc_files.specs.Wished.{wished}
use Rattle.kc_files.proofs.Told.{told}
use Rattle.kc_files.proofs.memory.read_file.Goals as goal

pub returns-clause-wish : goal.returns-clause-wish
returns-clause-wish g c =
    told (content (g.S.Store.files c.args.store.now) Dump (g.S.Store.opened c.args.store.now Dump)) (λ bytes. bare_image bytes c.args.noted.now.core.segments (by_info c.args.noted.now.info))
    (λ image. wished (sought_view c.args.sought.now) image c.args.noted.now.info.kaslr) c.in_ok-ask_dump.field-0
    (rw (c.segments.ensures, c.paging_by.ensures) at c.in_ok-ask_dump.ensures.says)
