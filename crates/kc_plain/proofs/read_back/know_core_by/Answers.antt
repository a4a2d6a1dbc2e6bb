use Rattle.std.proofs.Common.{arith}
use Rattle.kc_plain.proofs.ReadBackLaws.{reads_back}
use Rattle.kc_plain.proofs.read_back.know_core_by.Goals as goal

pub returns : goal.returns
returns c =
    let dump = c.args.dump.now in
    reads_back dump.runs.items c.args.root dump.notes.items dump.pages dump.reached (omega (arith, dump.runs.ok.0, dump.few)) dump.counted c.requires.pages (omega (arith, dump.notes.ok.0, c.requires.notes)) c.requires.page
