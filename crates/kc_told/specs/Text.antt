-- What is printed of an address.
use Rattle.std.specs.Prelude.{ℕ, ◌==◌, ◌-◌, if◌then◌else◌, Bool, true, false, List, [], ◌∷◌, ◌++◌, codes, decimal, length, map, slice_get, Option, Some, None, option_and_then, Result, Ok, Err}
use Rattle.std.specs.Int.{to_le_bytes, w64}
use Rattle.kc_memory.specs.declared.rule.Rule.{Rule}
use Rattle.kc_memory.specs.declared.rule.Rule.TheVariants.{M6}
use Rattle.kc_memory.specs.declared.words.VWord.{VWord}
use Rattle.kc_memory.specs.Places.{place_of}
use Rattle.kc_memory.specs.Stopped.{Stopped}
use Rattle.kc_text.specs.Compose.{texts}
use Rattle.kc_text.specs.Text.{hex, visible}
use Rattle.kc_report.specs.Lines.{origin_text, place_line, rule_code}
use Rattle.kc_sight.specs.declared.entries.TableEntry.{TableEntry}
use Rattle.kc_sight.specs.declared.meaning.Meaning.{Meaning}
use Rattle.kc_sight.specs.declared.meaning.Meaning.TheVariants.{Zero, Own, Unlisted, Pattern, Text, Small, Number}
use Rattle.kc_sight.specs.Entries.{page_bytes}
use Rattle.kc_sight.specs.Meanings.{meaning}
use Rattle.kc_sight.specs.Nearest.{SymbolAt}
use Rattle.kc_sight.specs.Sights.{Sight}
use Rattle.kc_told.specs.declared.near.Lead.{Lead}
use Rattle.kc_told.specs.declared.near.NearWord.{NearWord}
use Rattle.kc_told.specs.declared.span.Bounds.{Bounds}
use Rattle.kc_told.specs.NearText.{lead_text}
use Rattle.kc_told.specs.Spans.{spanned}

-- a symbol, and how many bytes an address is behind it
abbrev pub symbol_text : SymbolAt → ℕ → List ℕ
symbol_text s address = map visible s.name ++ codes "+" ++ decimal (address - s.address)

-- the symbol nearest below the address, where this is in the kernel's image
abbrev pub symbol_line : Option SymbolAt → ℕ → List ℕ
symbol_line None address = []
symbol_line (Some s) address = codes "symbol " ++ symbol_text s address ++ codes "\n"

-- an entry of a page table: its level, its physical address, its file offset or `tail`, and its value
abbrev pub entry_line : TableEntry → List ℕ
entry_line e =
    codes "entry " ++ decimal e.level ++ codes " " ++ hex e.pa ++ codes " " ++ origin_text e.word.off ++ codes " " ++ hex e.word.value ++ codes "\n"

-- where the last entry maps a page: the page's size
abbrev pub size_line : Option ℕ → List ℕ
size_line None = []
size_line (Some bytes) = codes "page " ++ decimal bytes ++ codes "\n"

abbrev pub is_absent : Rule → Bool
is_absent M6 = true
is_absent _ = false

-- it maps one, where the word is there or its physical address is known
abbrev pub is_mapped : Result VWord Stopped → Bool
is_mapped (Ok w) = true
is_mapped (Err s) = is_absent s.rule

abbrev pub page_line : Result VWord Stopped → List TableEntry → List ℕ
page_line word entries = if is_mapped word then size_line (option_and_then (λ e. page_bytes e.level) (slice_get entries (length entries - 1))) else []

-- the rule that stopped the reading, the level of an entry or 0, and the physical address of the word that is absent or refused
abbrev pub stopped_text : Stopped → List ℕ
stopped_text s = codes "stopped " ++ rule_code s.rule ++ codes " " ++ decimal s.level ++ codes " " ++ hex s.pa ++ codes "\n"

-- the word that holds the address
abbrev pub word_line : Result VWord Stopped → List ℕ
word_line (Ok w) = place_line (place_of w)
word_line (Err s) = stopped_text s

-- the same physical word at another address
abbrev pub alias_line : Option VWord → List ℕ
alias_line None = []
alias_line (Some w) = codes "alias " ++ hex w.va ++ codes "\n"

-- a number that is an address of the kernel's image, or what another one leads to
abbrev pub number_text : Option SymbolAt → Lead → ℕ → List ℕ
number_text None lead value = lead_text lead
number_text (Some s) lead value = codes "image " ++ symbol_text s value

-- a byte that the kernel fills memory with, by its names in the kernel's include/linux/poison.h: what it tells hangs on where it stands
abbrev pub pattern_text : ℕ → List ℕ
pattern_text byte =
    if byte == 0x5a then codes "pattern 5a POISON_INUSE"
    else (if byte == 0x6b then codes "pattern 6b POISON_FREE"
    else (if byte == 0xa5 then codes "pattern a5 POISON_END"
    else (if byte == 0xaa then codes "pattern aa PAGE_POISON"
    else (if byte == 0xbb then codes "pattern bb SLUB_RED_INACTIVE"
    else (if byte == 0xcc then codes "pattern cc SLUB_RED_ACTIVE|POISON_FREE_INITMEM"
    else codes "pattern")))))

-- a byte of a text, on one line and between quotation marks; a NUL has no text, since only NULs come behind it
abbrev pub byte_text : ℕ → List ℕ
byte_text c =
    if c == 0x0 then []
    else (if c == 0x9 then codes "\\t"
    else (if c == 0xa then codes "\\n"
    else (if c == 0xd then codes "\\r"
    else (if c == 0x22 then codes "\\\""
    else (if c == 0x5c then codes "\\\\"
    else c ∷ [])))))

-- the text that a word is
unfoldable pub word_text : ℕ → List ℕ
word_text value = codes "text \"" ++ texts byte_text (to_le_bytes w64 value) ++ codes "\""

-- what a word says
abbrev pub meaning_text : (ℕ → Option SymbolAt) → Lead → Meaning → ℕ → List ℕ
meaning_text symbols lead Zero value = codes "zero"
meaning_text symbols lead Own value = codes "self"
meaning_text symbols lead Unlisted value = codes "unlisted"
meaning_text symbols lead (Pattern byte) value = pattern_text byte
meaning_text symbols lead Text value = word_text value
meaning_text symbols lead Small value = codes "small " ++ decimal value
meaning_text symbols lead Number value = number_text (symbols value) lead value

-- a word beside the address, with what it says; or why it can't be read
abbrev pub seen_line : (ℕ → Option SymbolAt) → Lead → Result VWord Stopped → List ℕ
seen_line symbols lead (Ok w) =
    codes "near " ++ hex w.va ++ codes " " ++ hex w.value ++ codes " " ++ meaning_text symbols lead (meaning w.va w.value) w.value ++ codes "\n"
seen_line symbols lead (Err s) = codes "near " ++ hex s.va ++ codes " " ++ stopped_text s

abbrev pub near_line : (ℕ → Option SymbolAt) → NearWord → List ℕ
near_line symbols w = seen_line symbols w.lead w.seen

-- the first and the last byte of words that say the same
abbrev pub bounds_line : Bounds → List ℕ
bounds_line b = codes "span " ++ hex b.first ++ codes " " ++ hex b.last ++ codes "\n"

abbrev pub span_text : Option Bounds → List ℕ
span_text None = []
span_text (Some b) = bounds_line b

-- how far what a word says goes on in its 4096 bytes, where it is zeros, one of the kernel's bytes, or text
abbrev pub span_line : ℕ → Meaning → List (Result VWord Stopped) → List ℕ
span_line va m page = span_text (spanned va m page)

-- the words beside a word, and how far what it says goes on
abbrev pub around_lines : (ℕ → Option SymbolAt) → VWord → List NearWord → List (Result VWord Stopped) → List ℕ
around_lines symbols w near page = texts (near_line symbols) near ++ span_line w.va (meaning w.va w.value) page

-- where the word is there
abbrev pub beside_lines : (ℕ → Option SymbolAt) → Result VWord Stopped → List NearWord → List (Result VWord Stopped) → List ℕ
beside_lines symbols (Ok w) near page = around_lines symbols w near page
beside_lines symbols (Err s) near page = []

-- the address, and its symbol
abbrev pub head_lines : (ℕ → Option SymbolAt) → ℕ → List ℕ
head_lines symbols address = codes "address " ++ hex address ++ codes "\n" ++ symbol_line (symbols address) address

-- what is seen of it
abbrev pub sight_lines : (ℕ → Option SymbolAt) → Sight → List NearWord → List ℕ
sight_lines symbols s near =
    texts entry_line s.entries ++ page_line s.word s.entries ++ word_line s.word ++ alias_line s.aliases.direct ++ alias_line s.aliases.image
    ++ beside_lines symbols s.word near s.page
