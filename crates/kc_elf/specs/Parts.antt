-- What a core file holds.
use Rattle.std.specs.Prelude.{ℕ, List}
use Rattle.kc_word.specs.declared.plain.Segment.{Segment}

pub record Parts : Type 0 where
  -- of each PT_LOAD, in table order
  pub segments : List Segment
  -- the bytes of each PT_NOTE, in table order
  pub notes : List (List ℕ)
