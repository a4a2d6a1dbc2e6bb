use Rattle.std.proofs.Common.{◌≡◌, drop}
use Rattle.kc_notes.specs.Notes.{text_from, text_in}
use Rattle.kc_notes.proofs.note.vmcoreinfo.Given as goal

-- the parts from the index on give the answer
abbrev pub invariant-loop-index : goal.invariant-loop-index
invariant-loop-index l = text_from l.index (drop l.index l.core.notes) ≡ text_in l.core.notes
