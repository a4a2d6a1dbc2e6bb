-- What is said where a copy stopped, and where it didn't stop so.
use Rattle.std.specs.Prelude.{Result, Ok, Err, ⊤}
use Rattle.kc_kplain.specs.declared.copy.CopyStop.{CopyStop}
use Rattle.kc_kplain.specs.declared.copy.CopyStop.TheVariants.{Store, Sink}

abbrev pub OnStore : {A : Type 0} → Result A CopyStop → Type 0 → Type 0
OnStore (Ok a) P = ⊤
OnStore (Err Store) P = P
OnStore (Err Sink) P = ⊤

abbrev pub OnSink : {A : Type 0} → Result A CopyStop → Type 0 → Type 0
OnSink (Ok a) P = ⊤
OnSink (Err Store) P = ⊤
OnSink (Err Sink) P = P

abbrev pub UnlessStore : {A : Type 0} → Result A CopyStop → Type 0 → Type 0
UnlessStore (Ok a) P = P
UnlessStore (Err Store) P = ⊤
UnlessStore (Err Sink) P = P

abbrev pub UnlessSink : {A : Type 0} → Result A CopyStop → Type 0 → Type 0
UnlessSink (Ok a) P = P
UnlessSink (Err Store) P = P
UnlessSink (Err Sink) P = ⊤
