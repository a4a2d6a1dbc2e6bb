use Rattle.std.proofs.Common.{◌∙◌, sym}
use Rattle.kc_report.specs.Formats.{end_of, line_format}
use Rattle.kc_report.proofs.FormatLaws.{line-law, line-some, line-goes}
use Rattle.kc_report.proofs.BackLemmas.{more_reads, reads_less, stop_reads, end_reads}
use Rattle.kc_report.proofs.back.read_lines.Goals as goal

pub loop-alloc-smaller : goal.loop-alloc-smaller
loop-alloc-smaller c =
    reads_less (end_of c.args.more) line_format line-law line-some (line-goes c.args.more) c.loop-alloc.lines c.next_line.new.lines c.loop-alloc.rest.now c.in-Ok.next c.in-Ok.ensures

pub loop-alloc-preserved : goal.loop-alloc-preserved
loop-alloc-preserved c =
    more_reads (end_of c.args.more) line_format line-law line-some (line-goes c.args.more) c.args.bytes.now c.loop-alloc.lines c.next_line.new.lines c.loop-alloc.rest.now c.in-Ok.next c.loop-alloc.invariant
    (sym c.ends.ensures ∙ c.loop-alloc-test.true) c.in-Ok.ensures

pub returns-in-Err : goal.returns-in-Err
returns-in-Err c =
    stop_reads (end_of c.args.more) line_format line-law line-some (line-goes c.args.more) c.args.bytes.now c.loop-alloc.lines c.next_line.new.lines c.loop-alloc.rest.now c.in-Err.stop c.loop-alloc.invariant
    (sym c.ends.ensures ∙ c.loop-alloc-test.true) c.in-Err.ensures

pub returns : goal.returns
returns c =
    end_reads (end_of c.args.more) line_format line-law line-some (line-goes c.args.more) c.args.bytes.now c.loop-alloc.lines c.loop-alloc.rest.now c.loop-alloc.invariant
    (sym c.ends.ensures ∙ c.loop-alloc-test.false)
