-- `word`: one word of a dump.
use Rattle.std.specs.Prelude.{ℕ, ◌%◌, ◌^◌, ◌&&◌, false, if◌then◌else◌, nat_eq, nat_lt, List, [], ◌∷◌, codes, Option, Some, None, option_and_then, option_map, Result, Ok, Err}
use Rattle.std.specs.Str.{bytes_eq}
use Rattle.kc_word.specs.declared.plain.PageCfg.{PageCfg}
use Rattle.kc_word.specs.Hex.{hex_number}
use Rattle.kc_outside.specs.declared.store.Slot.TheVariants.{Dump}
use Rattle.kc_memory.specs.declared.words.VWord.{VWord}
use Rattle.kc_memory.specs.Image.{Image}
use Rattle.kc_memory.specs.Places.{place_of}
use Rattle.kc_memory.specs.Stopped.{Stopped}
use Rattle.kc_memory.specs.Translation.{vword}
use Rattle.kc_notes.specs.Info.{info}
use Rattle.kc_command.specs.declared.refusal.Refusal.TheVariants.{Notes}
use Rattle.kc_command.specs.Inputs.{dump_parts}
use Rattle.kc_command.specs.Made.{◌>>=◌, Made, checked, gives}
use Rattle.kc_command.specs.Paging.{by_info}
use Rattle.kc_command.specs.Ends.Asked.{Asked}
use Rattle.kc_question.specs.Memory.{bare_image, bytes_of}
use Rattle.kc_app.specs.declared.word.Asks.{Asks}
use Rattle.kc_app.specs.Form.{Form}
use Rattle.kc_app.specs.Shown.{Shown, Seen, Bare, broken}

-- the address of a top table: a multiple of 4096 below 2^52
abbrev pub as_table : ℕ → Option ℕ
as_table t = if nat_eq (t % 4096) 0 && nat_lt t (2 ^ 52) then Some t else None

-- the top table that a word names: `-` is the one of the dump's notes
abbrev pub table_word : List ℕ → Option (Option ℕ)
table_word text =
    if bytes_eq text (codes "-") then Some None
    else option_map (λ (t : ℕ). Some t) (option_and_then as_table (hex_number text))

-- four levels below a table, with no mask
abbrev pub by_table : ℕ → PageCfg
by_table table = record { table = table; five = false; sme = 0 }

-- by the table that is named, or else by the notes of the dump
abbrev pub paging_of : Option ℕ → List (List ℕ) → Made PageCfg
paging_of (Some table) notes = gives (by_table table)
paging_of None notes = do
  told ← checked Notes (info notes)
  gives (by_info told)

-- the memory that is read: what its dump leaves out is absent
abbrev pub word_image : (most : ℕ) → Option ℕ → Option (List ℕ) → Made Image
word_image most table dump = do
  parts ← dump_parts most dump
  paging ← paging_of table parts.notes
  gives (bare_image (bytes_of dump) parts.segments paging)

-- the answer on a word
abbrev pub word_shown : Image → Result VWord Stopped → Shown
word_shown image (Ok w) = Seen Bare image (place_of w ∷ [])
word_shown image (Err s) = broken image s

-- the word at an address
abbrev pub word_made : (most : ℕ) → Option ℕ → ℕ → Option (List ℕ) → Made Shown
word_made most table address dump = do
  image ← word_image most table dump
  gives (word_shown image (vword image address))

-- what `word` asks: the name of the dump, the physical address of the top table, or none where the dump's notes name
-- it, and the virtual address
abbrev pub word_asked : (most : ℕ) → List ℕ → Option ℕ → ℕ → Asked Shown
word_asked most dump table address = record {
  named = record { slot = Dump; name = dump } ∷ [];
  made = λ files. word_made most table address (files Dump);
}

-- where both its numbers are there
abbrev pub numbers_asked : (most : ℕ) → List ℕ → Option (Option ℕ) → Option ℕ → Option (Asked Shown)
numbers_asked most dump (Some table) (Some address) = Some (word_asked most dump table address)
numbers_asked most dump (Some table) None = None
numbers_asked most dump None address = None

-- the words: the name of the dump, the top table or `-`, and the virtual address
abbrev pub word_asks : (most : ℕ) → List (List ℕ) → Option (Asked Shown)
word_asks most (dump ∷ table ∷ address ∷ []) = numbers_asked most dump (table_word table) (hex_number address)
word_asks most _ = None

abbrev pub word_form : (most : ℕ) → Form Shown
word_form most = record { name = codes "word"; words = codes "DUMP TABLE ADDRESS" ∷ []; asks = word_asks most }

-- as the code keeps it
abbrev pub word_view : Asks → Asked Shown
word_view a = word_asked a.most a.dump.now a.table a.address
