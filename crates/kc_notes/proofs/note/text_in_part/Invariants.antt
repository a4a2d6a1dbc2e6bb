use Rattle.std.proofs.Common.{◌≡◌, ◌-◌, ◌≤◌, length}
use Rattle.kc_notes.specs.Notes.{search_from, part_text}
use Rattle.kc_notes.proofs.note.text_in_part.Given as goal

-- the notes from the place on give the part's answer
abbrev pub invariant-loop-note : goal.invariant-loop-note
invariant-loop-note l = record {
  within : l.place ≤ length l.bytes;
  whole : search_from (length l.bytes - l.place) l.bytes l.place ≡ part_text l.bytes;
}

abbrev pub decreases-loop-note : goal.decreases-loop-note
decreases-loop-note l = length l.bytes - l.place
