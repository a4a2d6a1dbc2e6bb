-- What the words beside an address lead to.
use Rattle.std.specs.Prelude.{ℕ, List, map, Option, Some, None, Result, Ok, Err}
use Rattle.kc_memory.specs.declared.words.VWord.{VWord}
use Rattle.kc_memory.specs.Image.{Image}
use Rattle.kc_memory.specs.Stopped.{Stopped}
use Rattle.kc_memory.specs.Translation.{vword}
use Rattle.kc_found.specs.Violations.{Violation}
use Rattle.kc_owner.specs.declared.object.described.Described.{Described}
use Rattle.kc_owner.specs.declared.object.held.Held.{Held}
use Rattle.kc_owner.specs.Object.Described.{described}
use Rattle.kc_slab_scan.specs.declared.cpu_words.CpuShape.{CpuShape}
use Rattle.kc_sight.specs.declared.meaning.Meaning.{Meaning}
use Rattle.kc_sight.specs.declared.meaning.Meaning.TheVariants.{Number}
use Rattle.kc_sight.specs.Meanings.{meaning}
use Rattle.kc_sight.specs.Sights.{near, word_start}
use Rattle.kc_told.specs.declared.told.PageWords.{PageWords}
use Rattle.kc_told.specs.declared.near.Lead.{Lead}
use Rattle.kc_told.specs.declared.near.NearWord.{NearWord}
use Rattle.kc_told.specs.Inside.{Kept}
use Rattle.kc_told.specs.Objects.{Shapes, held_by, kept_by, sought}

-- the page whose descriptor has an address, by the address's word; none where that can't be read or told
abbrev pub page_told : Result (Option Described) Violation → Option Described
page_told (Ok page) = page
page_told (Err v) = None

abbrev pub described_by : Image → Option PageWords → ℕ → Result VWord Stopped → Option Described
described_by image None address word = None
described_by image (Some words) address (Err s) = None
described_by image (Some words) address (Ok w) = page_told (described image words.objects address)

-- what an address leads to: what holds it, where a processor's own free list has the object, and the page whose descriptor has it
abbrev pub lead_with : Option (Result Held Violation) → Kept → Option Described → Lead
lead_with held kept page = record { held = held; kept = kept; described = page }

abbrev pub lead_by : Image → Option PageWords → Option CpuShape → ℕ → Result VWord Stopped → Lead
lead_by image words cpus address word =
    let held = held_by image words address word in
    lead_with held (kept_by image cpus (sought held)) (described_by image words address word)

abbrev pub lead_at : Image → Option PageWords → Option CpuShape → ℕ → Lead
lead_at image words cpus address = lead_by image words cpus address (vword image (word_start address))

abbrev pub nothing : Lead
nothing = lead_with None None None

-- what a word leads to, by what it says: a number is taken as an address
abbrev pub lead_as : Image → Option PageWords → Option CpuShape → Meaning → ℕ → Lead
lead_as image words cpus Number value = lead_at image words cpus value
lead_as image words cpus _ value = nothing

abbrev pub lead_of : Image → Option PageWords → Option CpuShape → VWord → Lead
lead_of image words cpus w = lead_as image words cpus (meaning w.va w.value) w.value

abbrev pub seen_lead : Image → Option PageWords → Option CpuShape → Result VWord Stopped → Lead
seen_lead image words cpus (Ok w) = lead_of image words cpus w
seen_lead image words cpus (Err s) = nothing

-- a word with what it leads to
abbrev pub near_word : Image → Option PageWords → Option CpuShape → Result VWord Stopped → NearWord
near_word image words cpus seen = record { seen = seen; lead = seen_lead image words cpus seen }

unfoldable pub near_words : Image → Option PageWords → Option CpuShape → List (Result VWord Stopped) → List NearWord
near_words image words cpus near = map (near_word image words cpus) near

-- those beside an address
abbrev pub near_of : Image → Shapes → ℕ → List NearWord
near_of image shapes address = near_words image shapes.objects shapes.cpus (near image address)
