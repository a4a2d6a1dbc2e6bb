-- How the program ends.
use Rattle.std.specs.Prelude.{ℕ, Bool, true, false, nat_eq}
use Rattle.std.specs.Bool.{OnTrue}
use Rattle.kc_command.specs.declared.ends.status.Status.{Status}
use Rattle.kc_command.specs.declared.ends.status.Status.TheVariants.{Done, Broken, Refused, StoreFailed, SinkFailed, OutOfMemory, NoCommand}

-- the number of a status
abbrev pub number : Status → ℕ
number Done = 0
number Broken = 1
number Refused = 2
number StoreFailed = 3
number SinkFailed = 4
number OutOfMemory = 5
number NoCommand = 6

-- what holds at a status
abbrev pub At : Status → Status → Type 0 → Type 0
At status one P = OnTrue (nat_eq (number status) (number one)) P

-- the statuses with an answer to the words and the files: done, broken, refused, and no command
abbrev pub is_answer : Status → Bool
is_answer Done = true
is_answer Broken = true
is_answer Refused = true
is_answer StoreFailed = false
is_answer SinkFailed = false
is_answer OutOfMemory = false
is_answer NoCommand = true

-- the statuses on which nothing is put to standard output
abbrev pub is_silent : Status → Bool
is_silent Done = false
is_silent Broken = false
is_silent Refused = true
is_silent StoreFailed = true
is_silent SinkFailed = false
is_silent OutOfMemory = true
is_silent NoCommand = true

-- the statuses at which the store didn't fail, and at which no sink did
abbrev pub is_store_quiet : Status → Bool
is_store_quiet StoreFailed = false
is_store_quiet SinkFailed = false
is_store_quiet _ = true

abbrev pub is_sink_quiet : Status → Bool
is_sink_quiet SinkFailed = false
is_sink_quiet _ = true
