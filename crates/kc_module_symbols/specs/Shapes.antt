-- Where a kernel has the symbols of its modules. Source: the kernel's include/linux/module.h, `kallsyms` of `struct module`, and `struct
-- mod_kallsyms` with `symtab`, `num_symtab` and `strtab`. Before 4.5 `struct module` has these three itself: such a kernel lacks the words.
use Rattle.std.specs.Prelude.{codes, Option, Some}
use Rattle.kc_kinds.specs.Kernels.{Kernel}
use Rattle.kc_kinds.specs.Members.{◌>>=◌, scalar_in, struct_named}
use Rattle.kc_module_symbols.specs.declared.shape.SymbolShape.{SymbolShape}

abbrev pub symbol_shape : Kernel → Option SymbolShape
symbol_shape kernel = do
  kallsyms ← scalar_in kernel.types (struct_named kernel.types (codes "module")) (codes "kallsyms")
  symbols ← scalar_in kernel.types (struct_named kernel.types (codes "mod_kallsyms")) (codes "symtab")
  count ← scalar_in kernel.types (struct_named kernel.types (codes "mod_kallsyms")) (codes "num_symtab")
  strings ← scalar_in kernel.types (struct_named kernel.types (codes "mod_kallsyms")) (codes "strtab")
  Some (record { kallsyms = kallsyms; symbols = symbols; count = count; strings = strings })
