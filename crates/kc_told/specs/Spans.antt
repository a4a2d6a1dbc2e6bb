-- How far words that say the same go on around one.
use Rattle.std.specs.Prelude.{ℕ, ◌+◌, ◌-◌, ◌*◌, ◌/◌, ◌%◌, ◌^◌, if◌then◌else◌, List, Option, Some, None, Result, Ok, Err}
use Rattle.kc_memory.specs.declared.words.VWord.{VWord}
use Rattle.kc_memory.specs.Stopped.{Stopped}
use Rattle.kc_sight.specs.declared.meaning.Meaning.{Meaning}
use Rattle.kc_sight.specs.declared.span.Span.{Span}
use Rattle.kc_sight.specs.Meanings.{meaning}
use Rattle.kc_sight.specs.Spans.{fills_on, span}
use Rattle.kc_told.specs.declared.span.Bounds.{Bounds}

-- the first and the last byte of those words
abbrev pub bounds : ℕ → Span → Bounds
bounds va s = record { first = (va + 2 ^ 64 - 8 * s.before % 2 ^ 64) % 2 ^ 64; last = (va + 8 * s.after + 7) % 2 ^ 64 }

-- around one that says this at an address, among the words of its 4096 bytes, where it is zeros, one of the kernel's bytes, or text
abbrev pub spanned : ℕ → Meaning → List (Result VWord Stopped) → Option Bounds
spanned va m page = if fills_on m m then Some (bounds va (span m page (va % 4096 / 8))) else None

-- around one that may not be there
abbrev pub span_at : Result VWord Stopped → List (Result VWord Stopped) → Option Bounds
span_at (Ok w) page = spanned w.va (meaning w.va w.value) page
span_at (Err s) page = None
