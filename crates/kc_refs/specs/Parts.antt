-- The parts of a segment.
use Rattle.std.specs.Prelude.{ℕ, ◌*◌, List}
use Rattle.std.specs.List.{filter_map}
use Rattle.kc_word.specs.declared.plain.Segment.{Segment}
use Rattle.kc_sight.specs.declared.refs.place.FoundWord.{FoundWord}
use Rattle.kc_sight.specs.Refs.Holding.{found_at, place, places}
use Rattle.kc_sight.specs.Refs.Writings.{Sought}

-- the part that has so many of its words, from one on
abbrev pub part : Segment → ℕ → ℕ → Segment
part s first count = record { paddr = (place s first).pa; filesz = 8 * count; memsz = 8 * count; offset = (place s first).off }

-- those of its words from one on, so many, that hold what is looked for
abbrev pub words_from : Sought → List ℕ → Segment → ℕ → ℕ → List FoundWord
words_from sought bytes s first count = filter_map (found_at sought bytes) (places s first count)
