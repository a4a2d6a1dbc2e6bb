use Rattle.kc_outside.specs.declared.store.Slot.TheVariants.{Dump}
use Rattle.kc_outside.specs.Files.{content}
use Rattle.kc_command.specs.Paging.{by_info}
use Rattle.kc_question.specs.Memory.{bare_image}
use Rattle.kc_files.specs.Sought.{sought_view}
use Rattle.kc_files.specs.Wished.{wished}
use Rattle.kc_files.proofs.Answering.{counted, prints, refuses}
use Rattle.kc_files.proofs.files.make.Goals as goal

pub returns : goal.returns
returns g c =
    let counts = counted c.read_file-bytes.result c.answer.result (g.S.Store.faults c.args.store.now) (g.S.Store.faults c.read_file-bytes.new.store) c.read_file-bytes.ensures.cause c.answer.ensures in
    record {
      output = prints (content (g.S.Store.files c.args.store.now) Dump (g.S.Store.opened c.args.store.now Dump)) (λ bytes. bare_image bytes c.args.noted.now.core.segments (by_info c.args.noted.now.info))
          (λ image. wished (sought_view c.args.sought.now) image c.args.noted.now.info.kaslr) c.read_file-bytes.result c.answer.result c.read_file-bytes.ensures.wish c.answer.ensures;
      refused = refuses c.read_file-bytes.result c.answer.result c.answer.ensures;
      files = c.read_file-bytes.ensures.files;
      later = counts.later;
      quiet = counts.quiet;
      cause = counts.cause;
    }
