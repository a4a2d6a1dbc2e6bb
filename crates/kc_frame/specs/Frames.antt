-- What a page's descriptor says: the words of its head page's, and the free block that has it.
use Rattle.std.specs.Prelude.{ℕ, Bool, false, ◌||◌, if◌then◌else◌, Option, Some, None, option_map}
use Rattle.std.specs.Option.{unwrap_or}
use Rattle.kc_memory.specs.Image.{Image}
use Rattle.kc_owner.specs.declared.object.page.Page.{Page}
use Rattle.kc_slab_page.specs.declared.mark.Mark.{Mark}
use Rattle.kc_slab_page.specs.Marks.{marked}
use Rattle.kc_frame.specs.declared.frame.FrameWords.{FrameWords}
use Rattle.kc_frame.specs.declared.frame.FreePage.{FreePage}
use Rattle.kc_frame.specs.declared.shape.FrameShape.{FrameShape}
use Rattle.kc_frame.specs.declared.words.FrameFlags.{FrameFlags}
use Rattle.kc_frame.specs.Blocks.{block_at}
use Rattle.kc_frame.specs.Zones.{zone_name}
use Rattle.kc_frame.specs.Words.{flags_at, mapping_at}

-- a free page: the free block that has it, and its zone
abbrev pub free_at : Image → FrameShape → Page → Option FreePage
free_at image shape page =
    option_map (λ block. record { block = block; zone = zone_name image shape.zones page.number }) (block_at image shape page)

-- what the words of a page say that isn't a slab's, with its flags
abbrev pub frame_with : Image → FrameShape → Page → Option FrameFlags → FrameWords
frame_with image shape page flags = record { flags = flags; mapping = mapping_at image shape page.head; free = free_at image shape page }

-- a slab's has its flags and its count alone
abbrev pub frame_by : Image → FrameShape → Page → Bool → FrameWords
frame_by image shape page slab =
    let flags = flags_at image shape slab page.head in
    if slab then record { flags = flags; mapping = None; free = None } else frame_with image shape page flags

-- a head page has the mark of a slab
abbrev pub is_marked : Image → Option Mark → ℕ → Bool
is_marked image None head = false
is_marked image (Some mark) head = unwrap_or (marked image mark head) false

-- of any page; it is a slab's where that is told, or where its head page has the mark
abbrev pub frame_of : Image → FrameShape → Page → Bool → FrameWords
frame_of image shape page slab = frame_by image shape page (slab || is_marked image shape.slab page.head)
