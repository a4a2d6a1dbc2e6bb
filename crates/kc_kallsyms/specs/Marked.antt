-- The first symbols of some names.
use Rattle.std.specs.Prelude.{◌≡◌, ℕ, List, codes, Option}
use Rattle.std.specs.Option.{option_or}
use Rattle.kc_kallsyms.specs.declared.fault.ModuleList.{ModuleList}
use Rattle.kc_kallsyms.specs.declared.fault.ModuleList.TheVariants.{Loaded, Typed}
use Rattle.kc_kallsyms.specs.declared.marks.Marks.{Marks}
use Rattle.kc_kallsyms.specs.Addresses.{offset_of}
use Rattle.kc_kallsyms.specs.Symbols.{Symbol}

-- what is known of a name, and then what symbols tell
abbrev pub known_from : Option ℕ → List ℕ → List Symbol → Option ℕ
known_from known name symbols = option_or known (offset_of name symbols)

pub record MarksFrom (first now : Marks) (symbols : List Symbol) : Type 0 where
  pub text : now.text ≡ known_from first.text (codes "_stext") symbols
  pub processors : now.processors ≡ known_from first.processors (codes "__per_cpu_end") symbols
  pub start : now.start ≡ known_from first.start (codes "__start_BTF") symbols
  pub end : now.end ≡ known_from first.end (codes "__stop_BTF") symbols
  pub loaded : now.loaded ≡ known_from first.loaded (codes "modules") symbols
  pub typed : now.typed ≡ known_from first.typed (codes "btf_modules") symbols

-- the offset of a list's head
abbrev pub head_in : Marks → ModuleList → Option ℕ
head_in marks Loaded = marks.loaded
head_in marks Typed = marks.typed
