-- `show`: a number in memory, by symbol, type and path.
use Rattle.std.specs.Prelude.{ℕ, List, [], ◌∷◌, codes, Option, Some, None, Result, Ok, Err}
use Rattle.kc_outside.specs.declared.store.Slot.TheVariants.{Dump, Btf, Map}
use Rattle.kc_memory.specs.Bits.{Number, number_places}
use Rattle.kc_memory.specs.Image.{Image}
use Rattle.kc_memory.specs.Stopped.{Stopped}
use Rattle.kc_btf.specs.Btf.{Types}
use Rattle.kc_layout.specs.Ends.{NumberAt}
use Rattle.kc_layout.specs.Views.{number_view}
use Rattle.kc_syms.specs.Rows.{addresses}
use Rattle.kc_view.specs.Pointers.{value_at}
use Rattle.kc_command.specs.Inputs.{number_at, rows_in, symbol_at, type_named}
use Rattle.kc_command.specs.Kernels.{kernel_in}
use Rattle.kc_command.specs.Made.{◌>>=◌, Made, gives}
use Rattle.kc_command.specs.Paging.{by_info}
use Rattle.kc_command.specs.Ends.Asked.{Asked}
use Rattle.kc_question.specs.Memory.{bare_image, bytes_of}
use Rattle.kc_app.specs.declared.show.Asks.{Asks}
use Rattle.kc_app.specs.declared.show.Target.{Target as CodeTarget}
use Rattle.kc_app.specs.Form.{Form}
use Rattle.kc_app.specs.Shown.{Shown, Seen, Value, broken}

-- what `show` asks: three files by their names, a symbol, a type by its name, and a path from it
pub record Question : Type 0 where
  pub dump : List ℕ
  pub btf : List ℕ
  pub map : List ℕ
  pub symbol : List ℕ
  pub name : List ℕ
  pub path : List ℕ

-- where `show` looks: at the address of the symbol, and from there where the number lies
pub record Target : Type 0 where
  pub at : ℕ
  pub number : NumberAt

-- the address of a symbol, by the bytes of a map: its first bad line comes first
abbrev pub symbol_in : List ℕ → ℕ → List ℕ → Made ℕ
symbol_in name kaslr map = do
  listed ← rows_in map
  symbol_at kaslr (addresses name listed)

-- the number that a path leads to, from a type by its name
abbrev pub number_in : Types → List ℕ → List ℕ → Made NumberAt
number_in types name path = do
  id ← type_named types name
  number_at types id path

-- where to look, by the bytes of a map: its fault comes first, then the symbol's, then the type's and the path's
abbrev pub target_in : Question → Types → ℕ → List ℕ → Made Target
target_in question types kaslr map = do
  at ← symbol_in question.symbol kaslr map
  number ← number_in types question.name question.path
  gives (record { at = at; number = number })

-- the memory that is read, and where in it: what its dump leaves out is absent
pub record Sought : Type 0 where
  pub image : Image
  pub target : Target

-- the faults come in the order dump, types, map, symbol, type and path
abbrev pub show_sought : (most : ℕ) → Question → Option (List ℕ) → Option (List ℕ) → Option (List ℕ) → Made Sought
show_sought most question dump btf map = do
  kernel ← kernel_in most dump btf map
  target ← target_in question kernel.types kernel.told.kaslr kernel.map
  gives (record { image = bare_image (bytes_of dump) kernel.segments (by_info kernel.told); target = target })

-- the number in memory
abbrev pub number_read : Image → Target → Result Number Stopped
number_read image target = value_at image target.at target.number.hops target.number.bits

-- the answer on a number
abbrev pub number_shown : Image → Result Number Stopped → Shown
number_shown image (Ok n) = Seen (Value n.value) image (number_places (Ok n))
number_shown image (Err s) = broken image s

abbrev pub show_made : (most : ℕ) → Question → Option (List ℕ) → Option (List ℕ) → Option (List ℕ) → Made Shown
show_made most question dump btf map = do
  sought ← show_sought most question dump btf map
  gives (number_shown sought.image (number_read sought.image sought.target))

abbrev pub show_asked : (most : ℕ) → Question → Asked Shown
show_asked most question = record {
  named = record { slot = Dump; name = question.dump } ∷ record { slot = Btf; name = question.btf } ∷ record { slot = Map; name = question.map } ∷ [];
  made = λ files. show_made most question (files Dump) (files Btf) (files Map);
}

abbrev pub show_asks : (most : ℕ) → List (List ℕ) → Option (Asked Shown)
show_asks most (dump ∷ btf ∷ map ∷ symbol ∷ ty ∷ path ∷ []) =
    Some (show_asked most (record { dump = dump; btf = btf; map = map; symbol = symbol; name = ty; path = path }))
show_asks most _ = None

abbrev pub show_form : (most : ℕ) → Form Shown
show_form most = record { name = codes "show"; words = codes "DUMP BTF MAP SYMBOL TYPE PATH" ∷ []; asks = show_asks most }

-- as the code keeps them
abbrev pub worded : Asks → Question
worded a = record { dump = a.files.dump.now; btf = a.files.btf.now; map = a.files.map.now; symbol = a.symbol.now; name = a.name.now; path = a.path.now }

abbrev pub show_view : Asks → Asked Shown
show_view a = show_asked a.most (worded a)

abbrev pub target_view : CodeTarget → Target
target_view t = record { at = t.at; number = number_view t.field }
