-- What is asked of a dump.
use Rattle.std.specs.Prelude.{ℕ, if◌then◌else◌, List, codes, Option, Some, None, option_map}
use Rattle.std.specs.Str.{bytes_eq}
use Rattle.kc_files.specs.declared.wish.Request.{Request}
use Rattle.kc_files.specs.declared.wish.Request.TheVariants as request
use Rattle.kc_files.specs.declared.wish.Wish.{Wish}
use Rattle.kc_files.specs.declared.wish.Wish.TheVariants as wish

-- of the memory of its kernel: the map, the types, the log, the modules, or the types of the module with a name
pub data WishAt : Type 0 where
  Map : WishAt
  Types : WishAt
  Log : WishAt
  Modules : WishAt
  Module : List ℕ → WishAt

-- the wish of a word
abbrev pub wish_of : List ℕ → Option WishAt
wish_of word =
    if bytes_eq word (codes "map") then Some Map
    else (if bytes_eq word (codes "types") then Some Types
    else (if bytes_eq word (codes "log") then Some Log
    else (if bytes_eq word (codes "modules") then Some Modules else None)))

-- the wish of two words, the latter the name of a module
abbrev pub wish_of_two : List ℕ → List ℕ → Option WishAt
wish_of_two word name = if bytes_eq word (codes "module") then Some (Module name) else None

-- as the code keeps it
abbrev pub wish_view : Wish → WishAt
wish_view wish.Map = Map
wish_view wish.Types = Types
wish_view wish.Log = Log
wish_view wish.Modules = Modules
wish_view (wish.Module name) = Module name.now

-- the text of its VMCOREINFO note, or what is wished of its kernel's memory
pub data RequestAt : Type 0 where
  Note : RequestAt
  Wished : WishAt → RequestAt

-- the request of a word, and of two
abbrev pub request_of : List ℕ → Option RequestAt
request_of word = if bytes_eq word (codes "note") then Some Note else option_map Wished (wish_of word)

abbrev pub request_of_two : List ℕ → List ℕ → Option RequestAt
request_of_two word name = option_map Wished (wish_of_two word name)

-- as the code keeps it
abbrev pub request_view : Request → RequestAt
request_view request.Note = Note
request_view (request.Wish w) = Wished (wish_view w)
