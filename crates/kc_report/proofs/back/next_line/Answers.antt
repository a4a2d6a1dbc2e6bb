use Rattle.kc_report.proofs.FormatLaws.{line-law}
use Rattle.kc_report.proofs.back.next_line.Goals as goal

pub add_line-requires : goal.add_line-requires
add_line-requires c =
    (line-law.takes c.args.bytes.now c.in-Ok.rest.now (record { name = c.in-Ok.name.now; walks = c.in-Ok.walks; elements = c.in-Ok.elements }) c.in-Ok.ensures).0.name
