use Rattle.std.proofs.Common.{◌∙◌, ap}
use Rattle.kc_gen.specs.Bytes.{laid, padded}
use Rattle.kc_gen.specs.Header.{elf_header, program_headers, with_note}
use Rattle.kc_gen.proofs.header.header.Goals as goal

pub returns : goal.returns
returns c =
    c.in_ok-pad.ensures
    ∙ ap (padded 0x2000) (c.in_ok-lay_note.ensures
    ∙ ap with_note (c.in_ok-lay_program_headers.ensures
    ∙ ap (laid (program_headers c.args.size)) (c.in_ok-lay_elf_header.ensures ∙ ap (laid elf_header) c.new-bytes.ensures.items)))
