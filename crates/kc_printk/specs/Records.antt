-- A record of the log.
-- Source: struct prb_desc, struct printk_info, DESC_INDEX, DESC_STATE, DESC_ID and enum desc_state in kernel/printk/printk_ringbuffer.h,
-- `desc_read` and `get_data` in kernel/printk/printk_ringbuffer.c.
use Rattle.std.specs.Prelude.{ℕ, ◌-◌, ◌*◌, ◌/◌, ◌%◌, ◌^◌, Bool, ◌&&◌, ◌||◌, not, nat_eq, nat_lt, List, codes, Result, Ok, Err, if◌then◌else◌}
use Rattle.kc_bytes.specs.Bytes.{eight_at, onward, two_at}
use Rattle.kc_memory.specs.declared.rule.Rule.{Rule}
use Rattle.kc_memory.specs.declared.rule.Rule.TheVariants.{M1, M2, M3, M4, M5}
use Rattle.kc_memory.specs.Image.{Image}
use Rattle.kc_memory.specs.Stopped.{Stopped}
use Rattle.kc_printk.specs.declared.block.Block.{Block}
use Rattle.kc_printk.specs.declared.block.Block.TheVariants.{Empty, Filled, Wrong}
use Rattle.kc_printk.specs.declared.block.TextSpan.{TextSpan}
use Rattle.kc_printk.specs.declared.record.LogEntry.{LogEntry}
use Rattle.kc_printk.specs.declared.record.LogEntry.TheVariants as entry
use Rattle.kc_printk.specs.declared.record.Log.{Log}
use Rattle.kc_printk.specs.declared.record.LogRule.{LogRule}
use Rattle.kc_printk.specs.declared.record.LogRule.TheVariants.{Memory, Positions, Owner, Length, Room}
use Rattle.kc_printk.specs.Blocks.{block_in}
use Rattle.kc_printk.specs.Steps.{◌>>=◌}

-- the code of a rule; no other rules of memory stop the reading of a word than M1 to M6
abbrev pub rule_code : Rule → List ℕ
rule_code M1 = codes "M1"
rule_code M2 = codes "M2"
rule_code M3 = codes "M3"
rule_code M4 = codes "M4"
rule_code M5 = codes "M5"
rule_code rule = codes "M6"

abbrev pub code_of : LogRule → List ℕ
code_of (Memory rule) = rule_code rule
code_of Positions = codes "P5"
code_of Owner = codes "P6"
code_of Length = codes "P7"
code_of Room = codes "P8"

-- the address of an element of an array
abbrev pub element : ℕ → ℕ → ℕ → ℕ
element base size index = onward base (index * size % 2 ^ 64)

-- an id's descriptor and info, and the fields of these
abbrev pub index_of : Log → ℕ → ℕ
index_of log id = id % log.ring.count

abbrev pub desc_at : Log → ℕ → ℕ
desc_at log id = element log.ring.descs log.desc.size (index_of log id)

abbrev pub info_at : Log → ℕ → ℕ
info_at log id = element log.ring.infos log.info.size (index_of log id)

abbrev pub state_at : Log → ℕ → ℕ
state_at log id = onward (onward (desc_at log id) log.desc.state_var) log.desc.counter

abbrev pub begin_at : Log → ℕ → ℕ
begin_at log id = onward (onward (desc_at log id) log.desc.text_block) log.desc.begin

abbrev pub next_at : Log → ℕ → ℕ
next_at log id = onward (onward (desc_at log id) log.desc.text_block) log.desc.next

abbrev pub time_at : Log → ℕ → ℕ
time_at log id = onward (info_at log id) log.info.time

abbrev pub length_at : Log → ℕ → ℕ
length_at log id = onward (info_at log id) log.info.text_length

-- the descriptor still has the record of this id, which is committed (1) or finalized (2)
abbrev pub is_kept : ℕ → ℕ → Bool
is_kept id state = nat_eq (state % 2 ^ 62) id && (nat_eq (state / 2 ^ 62) 1 || nat_eq (state / 2 ^ 62) 2)

-- where a block stands
abbrev pub text_at : Log → TextSpan → ℕ
text_at log span = onward log.ring.text_data span.at

-- the record in a block that begins with this id, where so many bytes of texts are left
abbrev pub filled_by : Log → ℕ → ℕ → TextSpan → ℕ → ℕ → ℕ → LogEntry
filled_by log id room span owner length time =
    if not (nat_eq owner id) then entry.Unknown Owner (text_at log span)
    else (if nat_lt span.text length then entry.Unknown Length (length_at log id)
    else (if nat_lt room length then entry.Unknown Room (length_at log id)
    else entry.Record time (onward (text_at log span) 8) length))

unfoldable pub filled_at : Image → Log → ℕ → ℕ → TextSpan → Result LogEntry Stopped
filled_at image log id room span = do
  owner ← eight_at image (text_at log span)
  length ← two_at image (length_at log id)
  time ← eight_at image (time_at log id)
  Ok (filled_by log id room span owner length time)

-- what the positions say
abbrev pub block_at : Image → Log → ℕ → ℕ → Block → Result LogEntry Stopped
block_at image log id room Empty = Ok entry.Nothing
block_at image log id room (Filled span) = filled_at image log id room span
block_at image log id room Wrong = Ok (entry.Unknown Positions (begin_at log id))

unfoldable pub bounds_at : Image → Log → ℕ → ℕ → Result LogEntry Stopped
bounds_at image log id room = do
  begin ← eight_at image (begin_at log id)
  next ← eight_at image (next_at log id)
  block_at image log id room (block_in log.ring.size begin next)

-- what stands at an id
unfoldable pub record_at : Image → Log → ℕ → ℕ → Result LogEntry Stopped
record_at image log id room = do
  state ← eight_at image (state_at log id)
  if is_kept id state then bounds_at image log id room else Ok entry.Nothing

-- a word that can't be read makes it unknown
abbrev pub seen : Result LogEntry Stopped → LogEntry
seen (Ok e) = e
seen (Err s) = entry.Unknown (Memory s.rule) s.va

abbrev pub entry_at : Image → Log → ℕ → ℕ → LogEntry
entry_at image log id room = seen (record_at image log id room)

-- how many bytes of texts are left after it
abbrev pub room_after : ℕ → LogEntry → ℕ
room_after room entry.Nothing = room
room_after room (entry.Record time at length) = room - length
room_after room (entry.Unknown rule at) = room
