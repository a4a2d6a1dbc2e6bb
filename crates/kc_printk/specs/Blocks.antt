-- The text block of a record.
-- Source: struct prb_data_blk_lpos, DATA_INDEX, DATA_WRAPS and LPOS_DATALESS in kernel/printk/printk_ringbuffer.h, `get_data` in
-- kernel/printk/printk_ringbuffer.c.
use Rattle.std.specs.Prelude.{ℕ, ◌-◌, ◌/◌, ◌%◌, ◌^◌, Bool, ◌&&◌, not, nat_eq, nat_le, if◌then◌else◌}
use Rattle.kc_bytes.specs.Bytes.{onward}
use Rattle.kc_printk.specs.declared.block.Block.{Block}
use Rattle.kc_printk.specs.declared.block.Block.TheVariants.{Empty, Filled, Wrong}

-- A record without data has positions with bit 0 set. It may be an empty line (EMPTY_LINE_LPOS, in 6.1 NO_LPOS), for which dmesg
-- prints the time alone, and makedumpfile nothing.
abbrev pub is_empty : ℕ → ℕ → Bool
is_empty begin next = nat_eq (begin % 2) 1 && nat_eq (next % 2) 1

-- blocks are aligned to the size of an id
abbrev pub is_aligned : ℕ → ℕ → Bool
is_aligned begin next = nat_eq (begin % 8) 0 && nat_eq (next % 8) 0

-- The last byte of a block stands before the position `next`. A block that begins in the same round of the ring stands where it
-- begins; one that begins in the round before it stands at the ring's start. Eight of its bytes are an id, the others text.
abbrev pub block_to : ℕ → ℕ → ℕ → Block
block_to size begin last =
    if nat_le begin last && nat_eq (begin / size) (last / size) then Filled (record { at = begin % size; text = last - begin - 7 })
    else (if nat_eq (onward begin size / size) (last / size) then Filled (record { at = 0; text = last % size - 7 }) else Wrong)

abbrev pub block_in : ℕ → ℕ → ℕ → Block
block_in size begin next =
    if is_empty begin next then Empty
    else (if not (is_aligned begin next) then Wrong else block_to size begin (onward next (2 ^ 64 - 1)))
