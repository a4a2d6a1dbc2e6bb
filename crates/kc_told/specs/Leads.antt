-- What a number leads to that may come to stand in a word, where that tells something of it.
use Rattle.std.specs.Prelude.{ℕ, ◌||◌, Bool, true, if◌then◌else◌, is_some, List, [], ◌++◌, codes, Option, Some, None}
use Rattle.kc_memory.specs.Image.{Image}
use Rattle.kc_sight.specs.declared.meaning.Meaning.{Meaning}
use Rattle.kc_sight.specs.declared.meaning.Meaning.TheVariants.{Number}
use Rattle.kc_sight.specs.Meanings.{meaning}
use Rattle.kc_sight.specs.Nearest.{SymbolAt}
use Rattle.kc_told.specs.declared.near.Lead.{Lead}
use Rattle.kc_told.specs.Near.{lead_as}
use Rattle.kc_told.specs.NearText.{object_in}
use Rattle.kc_told.specs.Objects.{Shapes}
use Rattle.kc_told.specs.Text.{meaning_text}

-- a number that is an address of the image, of an object, or of a page's descriptor
abbrev pub is_led : Option SymbolAt → Lead → Bool
is_led (Some s) lead = true
is_led None lead = is_some (object_in lead.kept lead.held) || is_some lead.described

-- any other may be anything
abbrev pub is_told : (ℕ → Option SymbolAt) → Lead → Meaning → ℕ → Bool
is_told symbols lead Number value = is_led (symbols value) lead
is_told symbols lead m value = true

-- in the words of a line on a word beside an address
abbrev pub leads_line : (ℕ → Option SymbolAt) → Lead → Meaning → ℕ → List ℕ
leads_line symbols lead m value = if is_told symbols lead m value then codes "leads " ++ meaning_text symbols lead m value ++ codes "\n" else []

-- for the word at a virtual address, asked in a memory
abbrev pub leads_of : (ℕ → Option SymbolAt) → Image → Shapes → ℕ → ℕ → List ℕ
leads_of symbols image shapes va value = leads_line symbols (lead_as image shapes.objects shapes.cpus (meaning va value) value) (meaning va value) value
