-- Where the kernel's symbol table lies, by VMCOREINFO: the lines that `crash_save_vmcoreinfo_init` writes (kernel/vmcore_info.c, before
-- Linux 6.9 kernel/crash_core.c). Those of `kallsyms_..` are there from Linux 6.0 on.
use Rattle.std.specs.Prelude.{ℕ, List, codes, Result, Ok, ok_or, option_and_then}
use Rattle.kc_word.specs.Hex.{hex_number}
use Rattle.kc_notes.specs.Values.{value_of}
use Rattle.kc_kallsyms.specs.declared.fault.TableLine.{TableLine}
use Rattle.kc_kallsyms.specs.declared.fault.TableLine.TheVariants.{Count, Base, Offsets, Index, Tokens, Names, Text}
use Rattle.kc_kallsyms.specs.declared.fault.TableFault.{TableFault}
use Rattle.kc_kallsyms.specs.declared.fault.TableFault.TheVariants.{S4}
use Rattle.kc_kallsyms.specs.declared.places.Places.{Places}
use Rattle.kc_kallsyms.specs.Reading.{◌>>=◌}

-- the key of a line
abbrev pub line_key : TableLine → List ℕ
line_key Count = codes "SYMBOL(kallsyms_num_syms)"
line_key Base = codes "SYMBOL(kallsyms_relative_base)"
line_key Offsets = codes "SYMBOL(kallsyms_offsets)"
line_key Index = codes "SYMBOL(kallsyms_token_index)"
line_key Tokens = codes "SYMBOL(kallsyms_token_table)"
line_key Names = codes "SYMBOL(kallsyms_names)"
line_key Text = codes "SYMBOL(_stext)"

-- the address in hex that a line has
unfoldable pub place_in : List ℕ → TableLine → Result ℕ TableFault
place_in note line = ok_or (option_and_then hex_number (value_of (line_key line) note)) (S4 line)

-- the addresses at run time, or the first line that is missing or has no address
unfoldable pub places_in : List ℕ → Result Places TableFault
places_in note = do
  count ← place_in note Count
  base ← place_in note Base
  offsets ← place_in note Offsets
  index ← place_in note Index
  tokens ← place_in note Tokens
  names ← place_in note Names
  text ← place_in note Text
  Ok (record {
    count = count;
    base = base;
    offsets = offsets;
    index = index;
    tokens = tokens;
    names = names;
    text = text;
  })
