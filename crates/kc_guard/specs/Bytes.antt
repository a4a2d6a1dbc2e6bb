-- Bytes that are all to be the same. Source: the kernel's mm/slub.c, `check_bytes_and_report`: the first byte that is another one is reported.
use Rattle.std.specs.Prelude.{ℕ, zero, suc, false, nat_eq, if◌then◌else◌, Option, Some, None, Result, Ok, Err}
use Rattle.kc_memory.specs.Bits.{Number, bits}
use Rattle.kc_memory.specs.Image.{Image}
use Rattle.kc_memory.specs.Stopped.{Stopped}
use Rattle.kc_found.specs.declared.asked.Asked.{Asked}
use Rattle.kc_found.specs.FreeLists.{low_word}
use Rattle.kc_found.specs.Nodes.{at_offset}
use Rattle.kc_found.specs.Trials.{and_then}
use Rattle.kc_found.specs.Violations.{Violation, missed}
use Rattle.kc_guard.specs.declared.byte.WrongByte.{WrongByte}

-- the byte at an address, or the violation by the stop
abbrev pub byte_by : Asked → Result Number Stopped → Result Number Violation
byte_by asked (Ok n) = Ok n
byte_by asked (Err s) = Err (missed asked None s)

abbrev pub byte_in : Image → Asked → ℕ → Result Number Violation
byte_in image asked at = byte_by asked (bits image at 0 8 false)

-- the first of so many bytes that is another one, from an address on
unfoldable pub other_from : Image → Asked → ℕ → ℕ → ℕ → Result (Option WrongByte) Violation
other_from image asked byte zero at = Ok None
other_from image asked byte (suc left) at =
    and_then (byte_in image asked at) (λ n.
    if nat_eq (low_word n.value) byte then other_from image asked byte left (at_offset at 1) else Ok (Some (record { at = at; place = n.first })))
