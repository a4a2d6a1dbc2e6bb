use Rattle.kc_outside.specs.declared.store.Slot.TheVariants.{Dump}
use Rattle.kc_outside.specs.Files.{content}
use Rattle.kc_command.specs.Paging.{by_info}
use Rattle.kc_question.specs.Memory.{bare_image}
use Rattle.kc_kallsyms.specs.Types.{types_at}
use Rattle.kc_match.proofs.OwnLemmas.{told}
use Rattle.kc_match.proofs.beside.ask_types.Goals as goal

pub returns-clause-types : goal.returns-clause-types
returns-clause-types g c =
    told (content (g.S.Store.files c.args.store.now) Dump (g.S.Store.opened c.args.store.now Dump)) (λ bytes. bare_image bytes c.args.noted.now.core.segments (by_info c.args.noted.now.info))
    (λ image. types_at image c.args.noted.now.info.kaslr c.args.places) c.in_ok-ask_dump.field-0
    (rw (c.segments.ensures, c.paging_by.ensures) at c.in_ok-ask_dump.ensures.says)
