-- Where the parts of a whole note stand.
use Rattle.std.specs.Prelude.{ℕ, ◌+◌, ◌≤◌, ⊤}
use Rattle.kc_notes.specs.declared.note.Note.{Note}
use Rattle.kc_notes.specs.declared.note.Step.{Step}
use Rattle.kc_notes.specs.declared.note.Step.TheVariants.{End, Broken, Whole}

-- name and descriptor of a note are inside its part
pub record IsInside (size : ℕ) (note : Note) : Type 0 where
  pub name : note.name + note.name_size ≤ size
  pub descriptor : note.descriptor + note.descriptor_size ≤ size

-- a whole note at a place is inside its part, and its descriptor stands behind its header
abbrev pub IsWithin : ℕ → ℕ → Step → Type 0
IsWithin size place End = ⊤
IsWithin size place Broken = ⊤
IsWithin size place (Whole note) = IsInside size note × (place + 12 ≤ note.descriptor)
