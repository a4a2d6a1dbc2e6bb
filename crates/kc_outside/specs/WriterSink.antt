-- What a sink over a writer shows.
use Rattle.std.specs.Prelude.{◌≡◌, ℕ, false, List, Option, take}
use Rattle.std.specs.Io.KnownBytes.{Appends}
use Rattle.kc_outside.specs.declared.writer_sink.WriterSink.{WriterSink}

-- the writer
abbrev pub writer_of : {W : Type 0} → WriterSink W → W
writer_of sink = sink.output.writer

-- how often a call failed
abbrev pub faults_of : {W : Type 0} → WriterSink W → ℕ
faults_of sink = sink.output.counts.faults

-- how many calls there were
abbrev pub calls_of : {W : Type 0} → WriterSink W → ℕ
calls_of sink = sink.output.counts.asked

-- nothing was written after the last flush that the writer said was done
abbrev pub IsFlushed : {W : Type 0} → WriterSink W → Type 0
IsFlushed sink = sink.output.unflushed ≡ false

-- known bytes grew by a first part of a piece
abbrev pub GrowsByPart : Option (List ℕ) → Option (List ℕ) → List ℕ → Type 0
GrowsByPart old new piece = (count : ℕ) × Appends old new (take count piece)
