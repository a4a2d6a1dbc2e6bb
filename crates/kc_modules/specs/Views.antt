-- What contracts see of the code's structs.
use Rattle.kc_modules.specs.declared.entry.ModuleEntry.{ModuleEntry}
use Rattle.kc_modules.specs.Lines.{Entry, text_of}

abbrev pub entry_view : ModuleEntry → Entry
entry_view e = record { name = text_of e.name.items; size = e.size; base = e.base }
