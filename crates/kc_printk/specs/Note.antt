-- What VMCOREINFO says of the ring of records.
-- Source: Documentation/admin-guide/kdump/vmcoreinfo.rst, from "prb" on; `log_buf_vmcoreinfo_setup` in kernel/printk/printk.c.
use Rattle.std.specs.Prelude.{ℕ, nat_eq, List, codes, Option, Some, None, option_and_then, Result, Ok, Err, if◌then◌else◌}
use Rattle.kc_word.specs.Hex.{hex_number}
use Rattle.kc_notes.specs.Info.{bits_of}
use Rattle.kc_notes.specs.Values.{value_of}
use Rattle.kc_printk.specs.declared.fault.LogFault.{LogFault}
use Rattle.kc_printk.specs.declared.fault.LogFault.TheVariants.{P1}
use Rattle.kc_printk.specs.declared.fault.LogLine.{LogLine}
use Rattle.kc_printk.specs.declared.fault.LogLine.TheVariants.{Prb, DescRing, TextRing, CountBits, Descs, Infos, HeadId, TailId, SizeBits, TextData, Counter, DescSize, StateVar, TextBlock, Begin, Next, InfoSize, Time, TextLength}
use Rattle.kc_printk.specs.declared.layout.RingLayout.{RingLayout}
use Rattle.kc_printk.specs.declared.layout.DescLayout.{DescLayout}
use Rattle.kc_printk.specs.declared.layout.InfoLayout.{InfoLayout}
use Rattle.kc_printk.specs.declared.layout.LogLayout.{LogLayout}
use Rattle.kc_printk.specs.Steps.{◌>>=◌}

-- the key of a line
abbrev pub key_of : LogLine → List ℕ
key_of Prb = codes "SYMBOL(prb)"
key_of DescRing = codes "OFFSET(printk_ringbuffer.desc_ring)"
key_of TextRing = codes "OFFSET(printk_ringbuffer.text_data_ring)"
key_of CountBits = codes "OFFSET(prb_desc_ring.count_bits)"
key_of Descs = codes "OFFSET(prb_desc_ring.descs)"
key_of Infos = codes "OFFSET(prb_desc_ring.infos)"
key_of HeadId = codes "OFFSET(prb_desc_ring.head_id)"
key_of TailId = codes "OFFSET(prb_desc_ring.tail_id)"
key_of SizeBits = codes "OFFSET(prb_data_ring.size_bits)"
key_of TextData = codes "OFFSET(prb_data_ring.data)"
key_of Counter = codes "OFFSET(atomic_long_t.counter)"
key_of DescSize = codes "SIZE(prb_desc)"
key_of StateVar = codes "OFFSET(prb_desc.state_var)"
key_of TextBlock = codes "OFFSET(prb_desc.text_blk_lpos)"
key_of Begin = codes "OFFSET(prb_data_blk_lpos.begin)"
key_of Next = codes "OFFSET(prb_data_blk_lpos.next)"
key_of InfoSize = codes "SIZE(printk_info)"
key_of Time = codes "OFFSET(printk_info.ts_nsec)"
key_of TextLength = codes "OFFSET(printk_info.text_len)"

-- a value that has to be there
abbrev pub wanted : {A : Type 0} → LogLine → Option A → Result A LogFault
wanted line None = Err (P1 line)
wanted line (Some a) = Ok a

-- an address, which is in hex
unfoldable pub symbol_in : LogLine → List ℕ → Result ℕ LogFault
symbol_in line note = wanted line (option_and_then hex_number (value_of (key_of line) note))

-- an offset in bytes, which is in decimal
unfoldable pub offset_in : LogLine → List ℕ → Result ℕ LogFault
offset_in line note = wanted line (option_and_then bits_of (value_of (key_of line) note))

-- a size in bytes, which isn't 0
abbrev pub some_size : LogLine → ℕ → Result ℕ LogFault
some_size line size = if nat_eq size 0 then Err (P1 line) else Ok size

unfoldable pub size_in : LogLine → List ℕ → Result ℕ LogFault
size_in line note = offset_in line note >>= some_size line

-- the parts of struct printk_ringbuffer, struct prb_desc_ring and struct prb_data_ring
unfoldable pub ring_layout : List ℕ → Result RingLayout LogFault
ring_layout note = do
  prb ← symbol_in Prb note
  desc_ring ← offset_in DescRing note
  text_ring ← offset_in TextRing note
  count_bits ← offset_in CountBits note
  descs ← offset_in Descs note
  infos ← offset_in Infos note
  head_id ← offset_in HeadId note
  tail_id ← offset_in TailId note
  size_bits ← offset_in SizeBits note
  text_data ← offset_in TextData note
  counter ← offset_in Counter note
  Ok (record {
    prb = prb;
    desc_ring = desc_ring;
    text_ring = text_ring;
    count_bits = count_bits;
    descs = descs;
    infos = infos;
    head_id = head_id;
    tail_id = tail_id;
    size_bits = size_bits;
    text_data = text_data;
    counter = counter;
  })

-- the parts of struct prb_desc and struct prb_data_blk_lpos
unfoldable pub desc_layout : List ℕ → Result DescLayout LogFault
desc_layout note = do
  size ← size_in DescSize note
  state_var ← offset_in StateVar note
  counter ← offset_in Counter note
  text_block ← offset_in TextBlock note
  begin ← offset_in Begin note
  next ← offset_in Next note
  Ok (record {
    size = size;
    state_var = state_var;
    counter = counter;
    text_block = text_block;
    begin = begin;
    next = next;
  })

-- the parts of struct printk_info
unfoldable pub info_layout : List ℕ → Result InfoLayout LogFault
info_layout note = do
  size ← size_in InfoSize note
  time ← offset_in Time note
  text_length ← offset_in TextLength note
  Ok (record {
    size = size;
    time = time;
    text_length = text_length;
  })

-- all of them, or the first line that is missing or isn't in order
unfoldable pub layout_of : List ℕ → Result LogLayout LogFault
layout_of note = do
  ring ← ring_layout note
  desc ← desc_layout note
  info ← info_layout note
  Ok (record {
    ring = ring;
    desc = desc;
    info = info;
  })
