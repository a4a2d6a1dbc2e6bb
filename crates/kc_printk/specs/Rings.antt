-- The ring of records.
-- Source: struct printk_ringbuffer, struct prb_desc_ring, struct prb_data_ring and DESC_ID in kernel/printk/printk_ringbuffer.h.
use Rattle.std.specs.Prelude.{ℕ, ◌+◌, ◌-◌, ◌%◌, ◌^◌, Bool, ◌&&◌, not, nat_le, nat_lt, Result, Ok, Err, if◌then◌else◌}
use Rattle.kc_bytes.specs.Bytes.{eight_at, four_at, onward}
use Rattle.kc_memory.specs.Image.{Image}
use Rattle.kc_memory.specs.Stopped.{Stopped}
use Rattle.kc_printk.specs.declared.fault.LogFault.{LogFault}
use Rattle.kc_printk.specs.declared.fault.LogFault.TheVariants.{P2, P3, P4}
use Rattle.kc_printk.specs.declared.layout.RingLayout.{RingLayout}
use Rattle.kc_printk.specs.declared.ring.Ring.{Ring}
use Rattle.kc_printk.specs.declared.ring.RingWords.{RingWords}
use Rattle.kc_printk.specs.Steps.{◌>>=◌}

-- the address of a field of a part
abbrev pub field : ℕ → ℕ → ℕ → ℕ
field base part offset = onward (onward base part) offset

-- the numbers of the ring to which the pointer `prb` leads
unfoldable pub ring_words : Image → RingLayout → Result RingWords Stopped
ring_words image layout = do
  prb ← eight_at image layout.prb
  count_bits ← four_at image (field prb layout.desc_ring layout.count_bits)
  descs ← eight_at image (field prb layout.desc_ring layout.descs)
  infos ← eight_at image (field prb layout.desc_ring layout.infos)
  head_id ← eight_at image (field (onward prb layout.desc_ring) layout.head_id layout.counter)
  tail_id ← eight_at image (field (onward prb layout.desc_ring) layout.tail_id layout.counter)
  size_bits ← four_at image (field prb layout.text_ring layout.size_bits)
  text_data ← eight_at image (field prb layout.text_ring layout.text_data)
  Ok (record {
    count_bits = count_bits;
    descs = descs;
    infos = infos;
    head_id = head_id;
    tail_id = tail_id;
    size_bits = size_bits;
    text_data = text_data;
  })

-- an id has 62 bits: the two above them are the state's
abbrev pub is_id : ℕ → Bool
is_id number = nat_lt number (2 ^ 62)

-- how many ids there are from one to another, both with them; they wrap at 2^62
abbrev pub ids_of : ℕ → ℕ → ℕ
ids_of first last = (last + 2 ^ 62 - first) % 2 ^ 62 + 1

-- the ids from the tail's to the head's are no more than the descriptors
abbrev pub fits : ℕ → ℕ → ℕ → Bool
fits first last count = is_id first && is_id last && nat_le (ids_of first last) count

-- The ring, or why it isn't read: at most 2^22 descriptors, at most 2^31 bytes of texts (LOG_BUF_LEN_MAX), and ids that fit. The first
-- bound is this project's: a kernel has a descriptor for each 32 bytes of texts (PRB_AVGBITS), so more of them from log_buf_len=256M on.
unfoldable pub ring_of : RingWords → Result Ring LogFault
ring_of words =
    if not (nat_le words.count_bits 22) then Err P2
    else (if not (nat_le words.size_bits 31) then Err P3
    else (if not (fits words.tail_id words.head_id (2 ^ words.count_bits)) then Err P4
    else Ok (record {
      count = 2 ^ words.count_bits;
      descs = words.descs;
      infos = words.infos;
      first = words.tail_id;
      ids = ids_of words.tail_id words.head_id;
      size = 2 ^ words.size_bits;
      text_data = words.text_data;
    })))
