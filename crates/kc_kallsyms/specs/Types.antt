-- The kernel's types out of its memory: the section .BTF (include/asm-generic/vmlinux.lds.h, BTF).
use Rattle.std.specs.Prelude.{ℕ, ◌-◌, ◌^◌, ◌&&◌, nat_le, if◌then◌else◌, List, codes, Option, option_map, Result, Ok, Err}
use Rattle.kc_memory.specs.Image.{Image}
use Rattle.kc_kallsyms.specs.declared.fault.TableFault.TheVariants.{S10, S11}
use Rattle.kc_kallsyms.specs.declared.places.Places.{Places}
use Rattle.kc_kallsyms.specs.declared.frame.RowFrame.{RowFrame}
use Rattle.kc_kallsyms.specs.Addresses.{address, offset_of}
use Rattle.kc_kallsyms.specs.Bytes.{bytes_at}
use Rattle.kc_kallsyms.specs.Map.{Kernel, kernel_at}
use Rattle.kc_kallsyms.specs.Reading.{◌>>=◌, Why, Bad, wanted}

-- where a symbol of an offset stands at run time
abbrev pub address_by : RowFrame → Option ℕ → Option ℕ
address_by frame offset = option_map (address frame.reading frame.base) offset

-- how many bytes lie between two addresses: 64 MiB at most, which is what a file of types may have
abbrev pub size_between : ℕ → ℕ → Result ℕ Why
size_between start end = if nat_le start end && nat_le (end - start) (2 ^ 26) then Ok (end - start) else Err (Bad S11)

-- the bytes from one symbol to another
unfoldable pub types_between : Image → RowFrame → Option ℕ → Option ℕ → Result (List ℕ) Why
types_between image frame first last = do
  start ← wanted S10 (address_by frame first)
  end ← wanted S10 (address_by frame last)
  size ← size_between start end
  bytes_at image size start

-- from `__start_BTF` to `__stop_BTF`
abbrev pub types_of : Image → Kernel → Result (List ℕ) Why
types_of image k = types_between image k.frame (offset_of (codes "__start_BTF") k.symbols) (offset_of (codes "__stop_BTF") k.symbols)

unfoldable pub types_at : Image → ℕ → Places → Result (List ℕ) Why
types_at image kaslr places = kernel_at image kaslr places >>= types_of image
