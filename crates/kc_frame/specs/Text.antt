-- What is printed of a page's descriptor.
use Rattle.std.specs.Prelude.{ℕ, ◌-◌, ◌^◌, nat_lt, if◌then◌else◌, List, [], ◌++◌, codes, decimal, map, Option, Some, None}
use Rattle.kc_text.specs.Text.{hex, visible}
use Rattle.kc_frame.specs.declared.block.FreeBlock.{FreeBlock}
use Rattle.kc_frame.specs.declared.frame.FrameWords.{FrameWords}
use Rattle.kc_frame.specs.declared.frame.FreePage.{FreePage}
use Rattle.kc_frame.specs.declared.words.FrameFlags.{FrameFlags}
use Rattle.kc_frame.specs.declared.words.FrameMapping.{FrameMapping}
use Rattle.kc_frame.specs.declared.words.MappingKind.{MappingKind}
use Rattle.kc_frame.specs.declared.words.MappingKind.TheVariants.{Anonymous, Cache, Movable, Same}

-- how many hold the page, with a sign: a number modulo 2^64
abbrev pub count_text : ℕ → List ℕ
count_text n = if nat_lt n (2 ^ 63) then codes " count " ++ decimal n else codes " count -" ++ decimal (2 ^ 64 - n)

-- how many page tables map it
abbrev pub maps_text : Option ℕ → List ℕ
maps_text None = []
maps_text (Some n) = codes " mapcount " ++ decimal n

abbrev pub flags_line : FrameFlags → List ℕ
flags_line f = codes "flags " ++ hex f.flags ++ count_text f.count ++ maps_text f.maps ++ codes "\n"

abbrev pub flags_lines : Option FrameFlags → List ℕ
flags_lines None = []
flags_lines (Some f) = flags_line f

-- what it belongs to, and which page of a page cache or of memory of tasks it is
abbrev pub kind_text : MappingKind → List ℕ
kind_text Cache = codes "mapping "
kind_text Anonymous = codes "anonymous "
kind_text Movable = codes "movable "
kind_text Same = codes "ksm "

abbrev pub index_text : MappingKind → ℕ → List ℕ
index_text Cache n = codes " index " ++ decimal n
index_text Anonymous n = codes " index " ++ decimal n
index_text Movable n = []
index_text Same n = []

abbrev pub mapping_line : FrameMapping → List ℕ
mapping_line m = kind_text m.kind ++ hex m.at ++ index_text m.kind m.index ++ codes "\n"

abbrev pub mapping_lines : Option FrameMapping → List ℕ
mapping_lines None = []
mapping_lines (Some m) = mapping_line m

-- the free block that has it, which of its pages it is, and its zone
abbrev pub block_text : FreeBlock → List ℕ
block_text b = codes "free order " ++ decimal b.order ++ codes " page " ++ decimal b.page

abbrev pub zone_text : Option (List ℕ) → List ℕ
zone_text None = []
zone_text (Some name) = codes " zone " ++ map visible name

abbrev pub free_line : FreePage → List ℕ
free_line f = block_text f.block ++ zone_text f.zone ++ codes "\n"

abbrev pub free_lines : Option FreePage → List ℕ
free_lines None = []
free_lines (Some f) = free_line f

abbrev pub frame_lines : FrameWords → List ℕ
frame_lines f = flags_lines f.flags ++ mapping_lines f.mapping ++ free_lines f.free
