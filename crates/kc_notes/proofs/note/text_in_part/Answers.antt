use Rattle.std.proofs.Common.{◌-◌, Ok, Some, length, sym, ap, ◌∙◌, arith}
use Rattle.kc_notes.proofs.SearchLemmas.{search_ends, search_breaks, search_finds, search_passes}
use Rattle.kc_notes.proofs.note.text_in_part.Goals as goal

pub returns-in-End : goal.returns-in-End
returns-in-End c =
    let bytes = c.args.bytes.now in
    let place = c.loop-note.place in
    sym c.loop-note.invariant.whole ∙ search_ends (length bytes - place) bytes place (sym c.in-End.ensures.value)

pub returns-in-Broken : goal.returns-in-Broken
returns-in-Broken c =
    let bytes = c.args.bytes.now in
    let place = c.loop-note.place in
    sym c.loop-note.invariant.whole ∙ search_breaks (length bytes - place) bytes place (omega arith) (sym c.in-Broken.ensures.value)

pub returns-then-is_vmcoreinfo : goal.returns-then-is_vmcoreinfo
returns-then-is_vmcoreinfo c =
    sym c.loop-note.invariant.whole
    ∙ search_finds c.args.bytes.now c.loop-note.place c.in-Whole.note (sym c.in-Whole.ensures.value) (sym c.if-is_vmcoreinfo.ensures)
    ∙ ap (λ text. Ok (Some text)) (sym c.note_text.ensures)

pub loop-note-preserved : goal.loop-note-preserved
loop-note-preserved c =
    rw c.note_end-place.ensures record {
      within = omega arith;
      whole = sym (search_passes c.args.bytes.now c.loop-note.place c.in-Whole.note (sym c.in-Whole.ensures.value) (sym c.if-is_vmcoreinfo.ensures)) ∙ c.loop-note.invariant.whole;
    }
