-- The zone that has a page. Source: the kernel's include/linux/mmzone.h, `struct pglist_data`, `struct zone`, `zone_spans_pfn`;
-- mm/numa.c (before 6.12 arch/x86/mm/numa.c), `node_data`; without NUMA mm/memblock.c, `contig_page_data`.
use Rattle.std.specs.Prelude.{ℕ, zero, suc, ◌-◌, ◌*◌, ◌/◌, ◌%◌, Bool, false, ◌&&◌, nat_eq, nat_le, nat_lt, if◌then◌else◌, List, codes, Option, Some, None, option_and_then, option_map}
use Rattle.std.specs.Option.{option_or, unwrap_or}
use Rattle.kc_memory.specs.Image.{Image}
use Rattle.kc_found.specs.Nodes.{at_offset}
use Rattle.kc_kinds.specs.Kernels.{Kernel, address_in}
use Rattle.kc_kinds.specs.Members.{◌>>=◌, scalar_in, struct_named}
use Rattle.kc_owner.specs.declared.kernel.Elements.{Elements}
use Rattle.kc_owner.specs.Kernels.{elements_in, single}
use Rattle.kc_owner.specs.Known.{known}
use Rattle.kc_owner.specs.Rings.{word_at}
use Rattle.kc_owner.specs.Texts.{text}
use Rattle.kc_frame.specs.declared.zone.ZoneShape.{ZoneShape}

-- where a kernel has the words that tell it
abbrev pub shape_with : Kernel → Option ℕ → Elements → ZoneShape
shape_with kernel zone zones = record {
  nodes = single (address_in kernel (codes "node_data"));
  only = single (address_in kernel (codes "contig_page_data"));
  zones = zones;
  start = scalar_in kernel.types zone (codes "zone_start_pfn");
  spanned = scalar_in kernel.types zone (codes "spanned_pages");
  name = scalar_in kernel.types zone (codes "name");
}

abbrev pub zone_shape : Kernel → Option ZoneShape
zone_shape kernel =
    option_map (shape_with kernel (struct_named kernel.types (codes "zone")))
    (elements_in kernel.types (struct_named kernel.types (codes "pglist_data")) (codes "node_zones"))

-- what a pointer leads to that can be read and isn't null
abbrev pub led_to : Option ℕ → Option ℕ
led_to None = None
led_to (Some at) = if nat_lt 0 at then Some at else None

-- the node with a number
abbrev pub node_by : Image → Option ℕ → Option ℕ → ℕ → Option ℕ
node_by image None only number = if nat_eq number 0 then only else None
node_by image (Some nodes) only number = led_to (word_at image (at_offset nodes (8 * number)))

abbrev pub node_at : Image → ZoneShape → ℕ → Option ℕ
node_at image shape number = node_by image shape.nodes shape.only number

-- so many pages from a first one on have a page
abbrev pub spans : ℕ → ℕ → ℕ → Bool
spans start spanned page = nat_le start page && nat_lt (page - start) spanned

-- a zone does, where that can be read
abbrev pub spans_known : Image → ZoneShape → ℕ → ℕ → Option Bool
spans_known image shape zone page = do
  start ← known image zone shape.start
  spanned ← known image zone shape.spanned
  Some (spans start spanned page)

abbrev pub spans_page : Image → ZoneShape → ℕ → ℕ → Bool
spans_page image shape zone page = unwrap_or (spans_known image shape zone page) false

-- its name, of 64 bytes at most
abbrev pub name_at : Image → ZoneShape → ℕ → Option (List ℕ)
name_at image shape zone = option_map (text image 64) (known image zone shape.name)

abbrev pub zone_named : Image → ZoneShape → ℕ → ℕ → Option (List ℕ)
zone_named image shape page zone = if spans_page image shape zone page then name_at image shape zone else None

-- the address of a zone of a node
abbrev pub zone_in : ZoneShape → ℕ → ℕ → ℕ
zone_in shape node zone = at_offset (at_offset node shape.zones.byte) (shape.zones.size * zone)

-- the name of the zone at a place among those of all nodes, 8 for each, where it spans the page
abbrev pub zone_at : Image → ZoneShape → ℕ → ℕ → Option (List ℕ)
zone_at image shape page place =
    if nat_le shape.zones.count (place % 8) then None
    else option_and_then (λ node. zone_named image shape page (zone_in shape node (place % 8))) (node_at image shape (place / 8))

-- the first of so many, from a place on
unfoldable pub zone_from : Image → ZoneShape → ℕ → ℕ → ℕ → Option (List ℕ)
zone_from image shape page zero place = None
zone_from image shape page (suc left) place = option_or (zone_at image shape page place) (zone_from image shape page left (suc place))

-- that of all, in the order of the nodes, of which there are 64 at most
abbrev pub zones_at : Image → ZoneShape → ℕ → Option (List ℕ)
zones_at image shape page = zone_from image shape page 512 0

abbrev pub zone_name : Image → Option ZoneShape → ℕ → Option (List ℕ)
zone_name image None page = None
zone_name image (Some shape) page = zones_at image shape page
