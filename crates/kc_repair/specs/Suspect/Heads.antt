-- Where a slab's free list may begin. Source: the kernel's mm/slab.h, `struct slab`, whose `freelist` isn't encoded, and its `slab_address`.
use Rattle.std.specs.Prelude.{ℕ, ◌*◌, ◌/◌, ◌%◌, ◌^◌, ◌==◌, Bool, false, min, if◌then◌else◌, List, [], ◌∷◌, ◌++◌, map, Option, Some, None, option_and_then, option_map}
use Rattle.std.specs.List.{range_with_len}
use Rattle.std.specs.Option.{option_map_or, unwrap_or}
use Rattle.kc_memory.specs.declared.words.VWord.{VWord}
use Rattle.kc_memory.specs.Image.{Image}
use Rattle.kc_memory.specs.Translation.{vword}
use Rattle.kc_view.specs.declared.slub.Base.{Base}
use Rattle.kc_view.specs.declared.slub.Base.TheVariants.{At, Is}
use Rattle.kc_view.specs.declared.slub.SlubShape.{SlubShape}
use Rattle.kc_found.specs.Nodes.{at_offset, readable}
use Rattle.kc_repair.specs.declared.suspect.change.Change.{Change}
use Rattle.kc_repair.specs.Suspect.Changes.{to}
use Rattle.kc_repair.specs.Suspect.Fields.{number_at}
use Rattle.kc_repair.specs.Suspect.FreePointers.{free_in}
use Rattle.kc_repair.specs.Suspect.Links.{node_of}

-- the descriptor of the slab whose `freelist` stands at an address
abbrev pub slab_of : SlubShape → ℕ → ℕ
slab_of s at = node_of at (s.freelist.bits.bit / 8)

-- it is one of this cache
abbrev pub is_head : Image → SlubShape → ℕ → ℕ → Bool
is_head image s cache at = option_map_or (λ named. named == cache) (number_at image s.slab_cache (slab_of s at)) false

-- a base, where it can be read
abbrev pub base_at : Image → Base → Option ℕ
base_at image (Is n) = Some n
base_at image (At a) = option_map (λ (w : VWord). w.value) (readable (vword image a))

-- the bytes before the first object, where the cache has any
abbrev pub pad_at : Image → SlubShape → ℕ → ℕ
pad_at image s cache = unwrap_or (option_and_then (λ f. number_at image f cache) s.left_pad) 0

-- the address of a slab's first byte: that of its page, which its descriptor has the number of
abbrev pub page_at : SlubShape → ℕ → ℕ → ℕ → ℕ
page_at s slab direct vmemmap = at_offset direct (4096 * (node_of slab vmemmap / s.page_size) % 2 ^ 64)

abbrev pub slab_address : Image → SlubShape → ℕ → Option ℕ
slab_address image s slab = option_and_then (λ direct. option_map (page_at s slab direct) (base_at image s.vmemmap)) (base_at image s.direct)

-- the list begins at object i
abbrev pub head_at : ℕ → ℕ → ℕ → ℕ → Change
head_at at first size i = to at (at_offset first (i * size % 2 ^ 64))

-- at each of the first so many
unfoldable pub begins_at : ℕ → ℕ → ℕ → ℕ → List Change
begins_at at first size count = map (head_at at first size) (range_with_len 0 count)

-- or it is empty; of the objects at most 4,096 are tried
abbrev pub heads_by : ℕ → ℕ → ℕ → ℕ → List Change
heads_by at first size objects = to at 0 ∷ begins_at at first size (min objects 4096)

-- of a slab whose first byte has this address
abbrev pub heads_of : Image → SlubShape → ℕ → ℕ → ℕ → List Change
heads_of image s cache at page =
    option_map_or (λ size. option_map_or (heads_by at (at_offset page (pad_at image s cache)) size) (number_at image s.objects (slab_of s at)) []) (number_at image s.size cache) []

abbrev pub heads_in : Image → SlubShape → ℕ → ℕ → List Change
heads_in image s cache at = option_map_or (heads_of image s cache at) (slab_address image s (slab_of s at)) []

-- where the `freelist` of the slab stands that has an object's word, if the slab has so many pages, a power of two, and begins at a page whose number is
-- a multiple of that. Source: the kernel's mm/page_alloc.c, whose blocks of 2^order pages begin so
abbrev pub freelist_at : SlubShape → ℕ → ℕ → ℕ → ℕ → ℕ
freelist_at s direct vmemmap at pages =
    at_offset (at_offset vmemmap (s.page_size * (node_of at direct / (4096 * pages) * pages) % 2 ^ 64)) (s.freelist.bits.bit / 8)

-- of the first slab of this cache, of one page, two, four or eight
abbrev pub head_if : Image → SlubShape → ℕ → ℕ → Option ℕ → Option ℕ
head_if image s cache at other = if is_head image s cache at then Some at else other

abbrev pub head_among : Image → SlubShape → ℕ → ℕ → ℕ → ℕ → Option ℕ
head_among image s cache at direct vmemmap =
    head_if image s cache (freelist_at s direct vmemmap at 1) (head_if image s cache (freelist_at s direct vmemmap at 2)
    (head_if image s cache (freelist_at s direct vmemmap at 4) (head_if image s cache (freelist_at s direct vmemmap at 8) None)))

abbrev pub head_of : Image → SlubShape → ℕ → ℕ → Option ℕ
head_of image s cache at =
    option_and_then (λ direct. option_and_then (head_among image s cache at direct) (base_at image s.vmemmap)) (base_at image s.direct)

-- its free list begins with the object whose free pointer stands at an address
abbrev pub begins_here : Image → SlubShape → ℕ → ℕ → ℕ → Bool
begins_here image s cache at head =
    option_map_or (λ offset. option_map_or (λ first. first == node_of at offset) (number_at image s.freelist (slab_of s head)) false) (number_at image s.offset cache) false

-- then it may begin elsewhere
abbrev pub heads_if : Image → SlubShape → ℕ → ℕ → Option ℕ → List Change
heads_if image s cache at None = []
heads_if image s cache at (Some head) = if begins_here image s cache at head then heads_in image s cache head else []

-- a pointer of a free list: that of a slab's descriptor, or of an object
abbrev pub free_at : Image → SlubShape → ℕ → ℕ → List Change
free_at image s cache at =
    if is_head image s cache at then heads_in image s cache at
    else heads_if image s cache at (head_of image s cache at) ++ free_in image s cache at
