-- What a sink in memory shows.
use Rattle.std.specs.Prelude.{ℕ, List}
use Rattle.kc_outside.specs.declared.mem_sink.MemSink.{MemSink}

-- the bytes that it took, in order
abbrev pub bytes_in : MemSink → List ℕ
bytes_in sink = sink.kept.items

-- how many bytes it takes in all
abbrev pub limit_of : MemSink → ℕ
limit_of sink = sink.limit

-- how often a call failed
abbrev pub faults_of : MemSink → ℕ
faults_of sink = sink.counts.faults

-- how many calls there were
abbrev pub calls_of : MemSink → ℕ
calls_of sink = sink.counts.asked
