use Rattle.std.proofs.Common.{◌∙◌, sym}
use Rattle.kc_report.specs.Formats.{end_of, place_format}
use Rattle.kc_report.proofs.FormatLaws.{place-law, place-some, place-goes}
use Rattle.kc_report.proofs.BackLemmas.{more_reads, reads_less, stop_reads, end_reads}
use Rattle.kc_report.proofs.back.read_places.Goals as goal

pub loop-places-smaller : goal.loop-places-smaller
loop-places-smaller c =
    reads_less (end_of c.args.more) place_format place-law place-some (place-goes c.args.more) c.loop-places.places c.next_place.new.places c.loop-places.rest.now c.in-Ok.next c.in-Ok.ensures

pub loop-places-preserved : goal.loop-places-preserved
loop-places-preserved c =
    more_reads (end_of c.args.more) place_format place-law place-some (place-goes c.args.more) c.args.bytes.now c.loop-places.places c.next_place.new.places c.loop-places.rest.now c.in-Ok.next c.loop-places.invariant
    (sym c.ends.ensures ∙ c.loop-places-test.true) c.in-Ok.ensures

pub returns-in-Err : goal.returns-in-Err
returns-in-Err c =
    stop_reads (end_of c.args.more) place_format place-law place-some (place-goes c.args.more) c.args.bytes.now c.loop-places.places c.next_place.new.places c.loop-places.rest.now c.in-Err.stop c.loop-places.invariant
    (sym c.ends.ensures ∙ c.loop-places-test.true) c.in-Err.ensures

pub returns : goal.returns
returns c =
    end_reads (end_of c.args.more) place_format place-law place-some (place-goes c.args.more) c.args.bytes.now c.loop-places.places c.loop-places.rest.now c.loop-places.invariant
    (sym c.ends.ensures ∙ c.loop-places-test.false)
